-- How layers of cells spread, tick by tick.
use Rattle.std.proofs.Common.{ℕ, zero, suc, ◌≡◌, ◌+◌, ◌-◌, ◌<◌, ◌≤◌, ◌⊎◌, IsTrue, List, [], ◌∷◌, ◌++◌, length, get_or, refl, sym, ◌∙◌, subst, ⊎_elim, inl, inr, below_more, arith, length-append}
use Rattle.std.specs.Prelude.{Contains, ◌↔◌}
use Rattle.std.proofs.lemmas.Bool.{cases_lt}
use Rattle.std.proofs.lemmas.List.{get_or_append_left}
use Rattle.std.proofs.Math.Seq.{get_or-append_seam}
use Rattle.std.proofs.lemmas.List.Elements.{Contains-get_or, Contains-append_left, Contains-push, Contains-push_cases}
use Rattle.fleet_base.specs.declared.geometry.Cell.{Cell}
use Rattle.fleet_base.specs.Grid.{OccupancyGrid, is_free, distance}
use Rattle.fleet_base.specs.Lists.{row_of}
use Rattle.fleet_base.specs.Plan.{no_cell}
use Rattle.map_text.specs.declared.scenario.Task.{Task}
use Rattle.plan_steps.specs.Steps.{IsClear, MayStep}
use Rattle.path_planner.specs.declared.forward.Aim.{Aim}
use Rattle.path_planner.specs.Layers.{IsClearFrom, IsReached, LeadsTo, IsArrival, IsFirstArrival}
use Rattle.path_planner.specs.Search.{EndAtArrival, AreStood, IsFirstLayer, IsInReach, StepsOut, IsNextLayer}
use Rattle.path_planner.proofs.Ways.{reached_clear}

-- an element is at a place, whatever stands past the end
pub found_at : (xs : List Cell) (x : Cell) → Contains xs x → (k : ℕ) × (k < length xs) × (get_or xs k no_cell ≡ x)
found_at (y ∷ ys) x (zero, h, e) = (zero, h, e)
found_at (y ∷ ys) x (suc k, h, e) = let p = found_at ys x (k, omega (arith, h), e) in (suc p.0, omega (arith, p.1), p.2)
found_at [] x (k, h, e) = absurd (omega (arith, h))

-- the cell is at a place below the number, or at it
module _ (grid : OccupancyGrid) (fixed : List (List Cell)) (t : ℕ) where
  -- the first n of these cells into which a step leads came to those before, those out of reach left out
  pub record StepsOf (from : Cell) (aim : Aim) (near : List Cell) (n : ℕ) (old new : List Cell) : Type 0 where
    pub kept : (c : Cell) → Contains old c → Contains new c
    pub stepped : (c : Cell) → Contains new c → Contains old c ⊎ MayStep grid fixed t from c
    pub whole : (k : ℕ) → k < n → MayStep grid fixed t from (get_or near k no_cell) → IsInReach aim (t + 1) (get_or near k no_cell) → Contains new (get_or near k no_cell)

  pub no_steps : (from : Cell) (aim : Aim) (near old : List Cell) → StepsOf from aim near 0 old old
  no_steps from aim near old = record { kept = λ c h. h; stepped = λ c h. inl h; whole = λ k h. absurd (omega (arith, h)) }

  -- the next cell is there already, or no step leads to it, or it is out of reach
  pub step_left_out : (from : Cell) (aim : Aim) (near : List Cell) (n : ℕ) (old new : List Cell) → StepsOf from aim near n old new
      → (MayStep grid fixed t from (get_or near n no_cell) → IsInReach aim (t + 1) (get_or near n no_cell) → Contains new (get_or near n no_cell)) → StepsOf from aim near (n + 1) old new
  step_left_out from aim near n old new s there = record {
    kept = s.kept;
    stepped = s.stepped;
    whole = below_more (λ k. MayStep grid fixed t from (get_or near k no_cell) → IsInReach aim (t + 1) (get_or near k no_cell) → Contains new (get_or near k no_cell)) n s.whole there;
  }

  pub step_added : (from : Cell) (aim : Aim) (near : List Cell) (n : ℕ) (old new : List Cell) (to : Cell) → StepsOf from aim near n old new
      → MayStep grid fixed t from to → get_or near n no_cell ≡ to → StepsOf from aim near (n + 1) old (new ++ to ∷ [])
  step_added from aim near n old new to s step is = record {
    kept = λ c h. Contains-append_left new (to ∷ []) c (s.kept c h);
    stepped = λ c h. ⊎_elim (s.stepped c) (λ e. inr (subst (MayStep grid fixed t from) e step)) (Contains-push_cases new to c h);
    whole = below_more (λ k. MayStep grid fixed t from (get_or near k no_cell) → IsInReach aim (t + 1) (get_or near k no_cell) → Contains (new ++ to ∷ []) (get_or near k no_cell)) n
        (λ k h m r. Contains-append_left new (to ∷ []) _ (s.whole k h m r))
        (λ _ _. subst (Contains (new ++ to ∷ [])) (sym is) (Contains-push new to));
  }

  -- all cells around were looked at
  pub all_steps : (from : Cell) (aim : Aim) (near : List Cell) (n : ℕ) (old new : List Cell) → StepsOf from aim near n old new → length near ≤ n
      → ((to : Cell) → IsTrue (is_free grid to) → distance from to ≤ 1 → Contains near to) → StepsOut grid fixed t from aim old new
  all_steps from aim near n old new s all around = record {
    kept = s.kept;
    stepped = s.stepped;
    whole = λ c step reach.
        let p = found_at near c (around c step.free step.near) in
        subst (Contains new) p.2 (s.whole p.0 (omega (arith, p.1, all)) (subst (MayStep grid fixed t from) (sym p.2) step) (subst (IsInReach aim (t + 1)) (sym p.2) reach));
  }

  -- the cells in reach into which a step leads from one of the first n of a layer
  pub record LayerOf (aim : Aim) (layer : List Cell) (n : ℕ) (next : List Cell) : Type 0 where
    pub stepped : (d : Cell) → Contains next d → (c : Cell) × Contains layer c × MayStep grid fixed t c d
    pub whole : (k : ℕ) → k < n → (d : Cell) → MayStep grid fixed t (get_or layer k no_cell) d → IsInReach aim (t + 1) d → Contains next d

  pub no_layer : (aim : Aim) (layer : List Cell) → LayerOf aim layer 0 []
  no_layer aim layer = record { stepped = λ d h. absurd (omega (arith, h.1)); whole = λ k h. absurd (omega (arith, h)) }

  pub layer_grown : (aim : Aim) (layer : List Cell) (n : ℕ) (from : Cell) (old new : List Cell) → LayerOf aim layer n old → n < length layer → get_or layer n no_cell ≡ from → StepsOut grid fixed t from aim old new → LayerOf aim layer (n + 1) new
  layer_grown aim layer n from old new so inside is out = record {
    stepped = λ d h. ⊎_elim (so.stepped d) (λ step. (from, subst (Contains layer) is (Contains-get_or layer n no_cell inside), step)) (out.stepped d h);
    whole = below_more (λ k. (d : Cell) → MayStep grid fixed t (get_or layer k no_cell) d → IsInReach aim (t + 1) d → Contains new d) n
        (λ k h d m r. out.kept d (so.whole k h d m r))
        (λ d m r. out.whole d (subst (λ c. MayStep grid fixed t c d) is m) r);
  }

  pub whole_layer : (aim : Aim) (layer : List Cell) (n : ℕ) (next : List Cell) → LayerOf aim layer n next → length layer ≤ n → IsNextLayer grid fixed t aim layer next
  whole_layer aim layer n next so all = record {
    stepped = so.stepped;
    whole = λ c d there step reach. let p = found_at layer c there in so.whole p.0 (omega (arith, p.1, all)) d (subst (λ x. MayStep grid fixed t x d) (sym p.2) step) reach;
  }

  -- a cell of a list in which the robot may stand
  pub stood_at : (layer : List Cell) → AreStood grid fixed t layer → (n : ℕ) (from : Cell) → n < length layer → get_or layer n no_cell ≡ from → IsTrue (is_free grid from) × IsClear fixed t from
  stood_at layer stood n from inside is = stood from (subst (Contains layer) is (Contains-get_or layer n no_cell inside))

-- a cell that is reached is free
pub reached_free : (grid : OccupancyGrid) (fixed : List (List Cell)) (start : Cell) (t : ℕ) (c : Cell) → IsReached grid fixed start t c → IsTrue (is_free grid c)
reached_free grid fixed start zero c r = subst (λ (x : Cell). IsTrue (is_free grid x)) (sym r.0) r.1
reached_free grid fixed start (suc t) c r = r.2.free

-- one more list
pub row_before : (rows : List (List Cell)) (row : List Cell) (i : ℕ) → i < length rows → row_of (rows ++ row ∷ []) i ≡ row_of rows i
row_before rows row i inside = get_or_append_left rows (row ∷ []) [] i inside

pub row_last : (rows : List (List Cell)) (row : List Cell) → row_of (rows ++ row ∷ []) (length rows) ≡ row
row_last rows row = get_or-append_seam rows row [] []

-- a step brings the goal nearer by one at most
pub nearer : (a b goal : Cell) → distance a b ≤ 1 → distance a goal ≤ suc (distance b goal)
nearer a b goal near = omega (arith, near)

-- a cell that leads to the goal in so many steps is no further from it
pub leads_near : (grid : OccupancyGrid) (fixed : List (List Cell)) (goal : Cell) (n t : ℕ) (c : Cell) → LeadsTo grid fixed goal n t c → distance c goal ≤ n
leads_near grid fixed goal zero t c e = subst (λ (g : Cell). distance c g ≤ 0) e (omega arith)
leads_near grid fixed goal (suc n) t c (d, step, leads) = omega (arith, nearer c d goal step.near, leads_near grid fixed goal n (suc t) d leads)

module _ (grid : OccupancyGrid) (fixed : List (List Cell)) (task : Task) (last : ℕ) where
  -- from the cell at the tick the goal is in reach
  abbrev pub IsNear : ℕ → Cell → Type 0
  IsNear s c = s + distance c task.goal ≤ last

  -- the layers up to a tick, before which the robot may not arrive, with all cells that are in reach
  pub record LayersTo (t : ℕ) (layers : List (List Cell)) : Type 0 where
    pub count : length layers ≡ t + 1
    pub reached : (s : ℕ) (c : Cell) → s < length layers → Contains (row_of layers s) c → IsReached grid fixed task.start s c
    pub whole : (s : ℕ) (c : Cell) → s < length layers → IsReached grid fixed task.start s c → IsNear s c → Contains (row_of layers s) c
    pub first : (s : ℕ) → s < t → ¬ IsArrival grid fixed task.start task.goal s

  pub one_layer : (layer : List Cell) (layers : List (List Cell)) → IsFirstLayer grid fixed task.start layer → layers ≡ [] ++ layer ∷ [] → LayersTo 0 layers
  one_layer layer layers is e = subst (LayersTo 0) (sym e) (record {
    count = refl;
    reached = zeroth;
    whole = go;
    first = λ s h. absurd (omega (arith, h));
  })
    where
      zeroth : (s : ℕ) (c : Cell) → s < length (layer ∷ []) → Contains (row_of (layer ∷ []) s) c → IsReached grid fixed task.start s c
      zeroth zero c h there = is.reached c there
      zeroth (suc s) c h there = absurd (omega (arith, h))

      go : (s : ℕ) (c : Cell) → s < length (layer ∷ []) → IsReached grid fixed task.start s c → IsNear s c → Contains (row_of (layer ∷ []) s) c
      go zero c h r _ = is.whole c r
      go (suc s) c h r _ = absurd (omega (arith, h))

  -- the cells of the last layer are stood in
  pub last_stood : (t : ℕ) (layers : List (List Cell)) → LayersTo t layers → AreStood grid fixed t (row_of layers t)
  last_stood t layers so c there =
      let r = so.reached t c (omega (arith, so.count)) there in
      (reached_free grid fixed task.start t c r, reached_clear grid fixed task.start t c r)

  pub next_tick_layer : (t : ℕ) (layers new : List (List Cell)) (next : List Cell) → LayersTo t layers → ¬ IsArrival grid fixed task.start task.goal t
      → IsNextLayer grid fixed t (record { goal = task.goal; last = last }) (row_of layers t) next → new ≡ layers ++ next ∷ [] → LayersTo (t + 1) new
  next_tick_layer t layers new next so none is e = subst (LayersTo (t + 1)) (sym e) (record {
    count = omega (arith, so.count, length-append layers (next ∷ []));
    reached = λ s c h there. ⊎_elim (old_reached s c there) (new_reached s c h there) (cases_lt s (length layers));
    whole = λ s c h r near. ⊎_elim (old_whole s c r near) (new_whole s c h r near) (cases_lt s (length layers));
    first = below_more (λ s. ¬ IsArrival grid fixed task.start task.goal s) t so.first none;
  })
    where
      at_end : (s : ℕ) → s < length (layers ++ next ∷ []) → length layers ≤ s → s ≡ length layers
      at_end s h past = omega (arith, h, past, length-append layers (next ∷ []))

      here : length layers ≡ suc t
      here = omega (arith, so.count)

      old_reached : (s : ℕ) (c : Cell) → Contains (row_of (layers ++ next ∷ []) s) c → s < length layers → IsReached grid fixed task.start s c
      old_reached s c there inside = so.reached s c inside (subst (λ row. Contains row c) (row_before layers next s inside) there)

      new_reached : (s : ℕ) (c : Cell) → s < length (layers ++ next ∷ []) → Contains (row_of (layers ++ next ∷ []) s) c → length layers ≤ s → IsReached grid fixed task.start s c
      new_reached s c h there past =
          let is_last = at_end s h past in
          let found : Contains next c = subst (λ row. Contains row c) (row_last layers next) (subst (λ n. Contains (row_of (layers ++ next ∷ []) n) c) is_last there) in
          let from = is.stepped c found in
          let was = so.reached t from.0 (omega (arith, so.count)) from.1 in
          subst (λ n. IsReached grid fixed task.start n c) (sym (is_last ∙ here)) (from.0, was, from.2)

      old_whole : (s : ℕ) (c : Cell) → IsReached grid fixed task.start s c → IsNear s c → s < length layers → Contains (row_of (layers ++ next ∷ []) s) c
      old_whole s c r near inside = subst (λ row. Contains row c) (sym (row_before layers next s inside)) (so.whole s c inside r near)

      new_whole : (s : ℕ) (c : Cell) → s < length (layers ++ next ∷ []) → IsReached grid fixed task.start s c → IsNear s c → length layers ≤ s → Contains (row_of (layers ++ next ∷ []) s) c
      new_whole s c h r near past =
          let is_last = at_end s h past in
          let r' : IsReached grid fixed task.start (suc t) c = subst (λ n. IsReached grid fixed task.start n c) (is_last ∙ here) r in
          let before : IsNear t r'.0 = omega (arith, near, is_last, here, nearer r'.0 c task.goal r'.2.near) in
          let found : Contains next c = is.whole r'.0 c (so.whole t r'.0 (omega (arith, so.count)) r'.1 before) r'.2 (omega (arith, near, is_last, here)) in
          subst (λ n. Contains (row_of (layers ++ next ∷ []) n) c) (sym is_last) (subst (λ row. Contains row c) (sym (row_last layers next)) found)

  -- the robot may arrive at the last tick
  pub arrived : (t : ℕ) (layers : List (List Cell)) → LayersTo t layers → t ≤ last → Contains (row_of layers t) task.goal → IsClearFrom fixed t task.goal → EndAtArrival grid fixed task last layers
  arrived t layers so in_time there clear = record {
    ways = record {
      some = omega (arith, so.count);
      reached = so.reached;
      whole = λ s c h r leads. so.whole s c h r (omega (arith, h, so.count, in_time, leads_near grid fixed task.goal (length layers - 1 - s) s c leads));
    };
    in_time = omega (arith, so.count, in_time);
    arrival = subst (λ (n : ℕ). IsFirstArrival grid fixed task.start task.goal n) (omega (arith, so.count)) (record {
      here = record { reached = so.reached t task.goal (omega (arith, so.count)) there; stays = clear };
      first = so.first;
    });
  }

  -- or it may not
  pub not_arrived : (t from : ℕ) (layers : List (List Cell)) → LayersTo t layers → t ≤ last → ((s : ℕ) → IsClearFrom fixed s task.goal ↔ (from ≤ s)) → (from ≤ t → ¬ Contains (row_of layers t) task.goal) → ¬ IsArrival grid fixed task.start task.goal t
  not_arrived t from layers so in_time clear none a = none ((clear t).0 a.stays) (so.whole t task.goal (omega (arith, so.count)) a.reached (omega (arith, in_time)))

  -- what ends in time ends by each later tick
  pub ends_by : (horizon : ℕ) (layers : List (List Cell)) → last ≤ horizon → EndAtArrival grid fixed task last layers → EndAtArrival grid fixed task horizon layers
  ends_by horizon layers later e = record { ways = e.ways; in_time = omega (arith, later, e.in_time); arrival = e.arrival }
