-- A walk from a robot to the one whose cell it enters, and so on: it closes to a rotation, or all on it are on none.
use Rattle.std.proofs.Common.{ℕ, suc, ◌≡◌, ◌+◌, ◌-◌, ◌<◌, ◌≤◌, ◌⊎◌, List, [], ◌∷◌, ◌++◌, Bool, true, false, Some, None, refl, sym, ap, ◌∙◌, subst, inl, inr, arith, length, get_or, set}
use Rattle.std.specs.Prelude.{Contains, slice_index, sum_by, replicate}
use Rattle.std.proofs.lemmas.Bool.{cases_eq, cases_lt, cases_order}
use Rattle.std.proofs.lemmas.List.{get_or-set_same, get_or-set_other, get_or-replicate, length-replicate}
use Rattle.std.proofs.Math.ListN.{get_or-eq_default}
use Rattle.std.proofs.lemmas.List.Sums.{sum_by-set}
use Rattle.std.proofs.lemmas.List.Elements.{Contains-append_left, Contains-append_right, Contains-append_cases}
use Rattle.fleet_base.specs.declared.geometry.Cell.{Cell}
use Rattle.fleet_base.specs.Lists.{Chain}
use Rattle.fleet_base.specs.Plan.{cell_at, Follows, IsRotation}
use Rattle.fleet_base.proofs.Members.{head_in, in_cons, in_none, in_one}
use Rattle.fleet_base.proofs.Sorting.{Distinct, all_different}
use Rattle.plan_check.specs.Ticks.{IsApart, MovesApart, IsSwapFree, Enters, IsLeader, IsOnRotation, IsMarked, AreOut, IsFirstRotation}
use Rattle.plan_check.proofs.Rings.{distinct_push, chain_push, no_return, nowhere, on_next, stays_out, one_former, on_rotation_there}

-- what a mark leaves to do
abbrev pub left_of : Bool → ℕ
left_of true = 0
left_of false = 1

-- how many are not marked
abbrev pub unmarked : List Bool → ℕ
unmarked marks = sum_by left_of marks

pub unmarked_falls : (marks : List Bool) (i : ℕ) → i < length marks → get_or marks i false ≡ false → unmarked (set marks i true) < unmarked marks
unmarked_falls marks i h e =
    let s : unmarked (set marks i true) + left_of (get_or marks i false) ≡ unmarked marks + 0 = sum_by-set left_of marks i true false h in
    let one : left_of (get_or marks i false) ≡ 1 = ap left_of e in
    omega arith

-- a mark that is set is there, and so are the others
pub marked_here : (marks : List Bool) (i : ℕ) → i < length marks → IsMarked (set marks i true) i
marked_here marks i h = get_or-set_same marks i true false h

pub marked_still : (marks : List Bool) (i j : ℕ) → i < length marks → IsMarked marks j → IsMarked (set marks i true) j
marked_still marks i j h m = go (cases_eq j i)
  where
    go : (j ≡ i) ⊎ (j ≡ i → ⊥) → IsMarked (set marks i true) j
    go (inl e) = subst (λ (w : ℕ). IsMarked (set marks i true) w) (sym e) (marked_here marks i h)
    go (inr ne) = get_or-set_other marks i j true false ne ∙ m

pub marked_before : (marks : List Bool) (i j : ℕ) → IsMarked (set marks i true) j → (j ≡ i) ⊎ IsMarked marks j
marked_before marks i j m = go (cases_eq j i)
  where
    go : (j ≡ i) ⊎ (j ≡ i → ⊥) → (j ≡ i) ⊎ IsMarked marks j
    go (inl e) = inl e
    go (inr ne) = inr (sym (get_or-set_other marks i j true false ne) ∙ m)

module _ (plan : List (List Cell)) (t : ℕ) where
  -- the robots from a head to another, which is the next one, each entering the cell of the following one
  abbrev pub Leads : ℕ → List ℕ → ℕ → Type 0
  Leads head walk robot = ((walk ≡ []) × (robot ≡ head)) ⊎ ((ys : List ℕ) × (walk ≡ head ∷ ys) × Chain (Enters plan (t - 1)) head ys robot)

  -- a walk from a head, with the marks at its beginning and now
  pub record Walk (first marks : List Bool) (head robot : ℕ) (walk : List ℕ) : Type 0 where
    pub leads : Leads head walk robot
    pub distinct : Distinct walk
    pub there : robot < length plan
    pub kept : (i : ℕ) → IsMarked first i → IsMarked marks i
    pub walked : (i : ℕ) → Contains walk i → IsMarked marks i
    pub marked : (i : ℕ) → IsMarked marks i → Contains walk i ⊎ IsMarked first i

  pub walk_begins : (marks : List Bool) (head : ℕ) → head < length plan → Walk marks marks head head []
  walk_begins marks head h = record { leads = inl (refl, refl); distinct = tt; there = h; kept = λ i m. m; walked = λ i c. absurd (in_none i c); marked = λ i m. inr m }

  -- one robot more on it
  leads_on : (head : ℕ) (walk : List ℕ) (robot next : ℕ) → Leads head walk robot → Enters plan (t - 1) robot next → Leads head (walk ++ robot ∷ []) next
  leads_on head walk robot next (inl (empty, e)) step =
      inr ([], ap (λ (w : List ℕ). w ++ robot ∷ []) empty ∙ ap (λ (w : ℕ). w ∷ []) e, subst (λ (w : ℕ). Enters plan (t - 1) w next) e step)
  leads_on head walk robot next (inr (ys, e, chain)) step =
      inr (ys ++ robot ∷ [], ap (λ (w : List ℕ). w ++ robot ∷ []) e, chain_push (Enters plan (t - 1)) head ys robot next chain step)

  pub walk_on : (first marks : List Bool) (head robot next : ℕ) (walk : List ℕ) → length plan ≤ length marks → Walk first marks head robot walk → get_or marks robot false ≡ false → Enters plan (t - 1) robot next
      → Walk first (set marks robot true) head next (walk ++ robot ∷ [])
  walk_on first marks head robot next walk size w new step =
      let within : robot < length marks = let h = w.there in omega arith in
      record {
        leads = leads_on head walk robot next w.leads step;
        distinct = distinct_push walk robot w.distinct (λ c. let m = w.walked robot c in cc);
        there = step.there;
        kept = λ i m. marked_still marks robot i within (w.kept i m);
        walked = λ i c. walked i (Contains-append_cases walk (robot ∷ []) i c) within;
        marked = λ i m. before i (marked_before marks robot i m);
      }
    where
      walked : (i : ℕ) → Contains walk i ⊎ Contains (robot ∷ []) i → robot < length marks → IsMarked (set marks robot true) i
      walked i (inl c) within = marked_still marks robot i within (w.walked i c)
      walked i (inr c) within = subst (λ (v : ℕ). IsMarked (set marks robot true) v) (in_one robot i c) (marked_here marks robot within)

      earlier : (i : ℕ) → Contains walk i ⊎ IsMarked first i → Contains (walk ++ robot ∷ []) i ⊎ IsMarked first i
      earlier i (inl c) = inl (Contains-append_left walk (robot ∷ []) i c)
      earlier i (inr m) = inr m

      before : (i : ℕ) → (i ≡ robot) ⊎ IsMarked marks i → Contains (walk ++ robot ∷ []) i ⊎ IsMarked first i
      before i (inl e) = inl (Contains-append_right walk (robot ∷ []) i (subst (λ (v : ℕ). Contains (robot ∷ []) v) (sym e) (head_in robot [])))
      before i (inr m) = earlier i (w.marked i m)

  module _ (apart : MovesApart plan t) (free : IsSwapFree plan t) where
    after : suc (t - 1) ≡ t
    after = let h = apart.tick in omega arith

    next_one : (x y : ℕ) → IsOnRotation plan (t - 1) x → Enters plan (t - 1) x y → IsOnRotation plan (t - 1) y
    next_one = on_next plan (t - 1) apart.before

    former_one : (x y z : ℕ) → Enters plan (t - 1) x z → Enters plan (t - 1) y z → x ≡ y
    former_one = one_former plan (t - 1) (subst (λ (w : ℕ). IsApart plan w) (sym after) apart.after)

    -- on a walk to a robot that is on no rotation all are on none
    out_on : (head robot : ℕ) (walk : List ℕ) → Leads head walk robot → (IsOnRotation plan (t - 1) robot → ⊥) → (i : ℕ) → Contains walk i → IsOnRotation plan (t - 1) i → ⊥
    out_on head robot walk (inl (empty, e)) out i c o = in_none i (subst (λ (w : List ℕ). Contains w i) empty c)
    out_on head robot walk (inr (ys, e, chain)) out i c o =
        nowhere (Enters plan (t - 1)) (IsOnRotation plan (t - 1)) next_one head ys robot chain out i (subst (λ (w : List ℕ). Contains w i) e c) o

    -- where a robot enters no other's cell, the walk is out
    pub walk_ends : (first marks : List Bool) (head robot : ℕ) (walk : List ℕ) → length plan ≤ length marks → Walk first marks head robot walk → AreOut plan (t - 1) first → IsLeader plan (t - 1) robot None
        → IsMarked (set marks robot true) head × AreOut plan (t - 1) (set marks robot true)
    walk_ends first marks head robot walk size w out none = (head_marked w.leads, λ i m. go i (marked_before marks robot i m))
      where
        within : robot < length marks
        within = let h = w.there in omega arith

        robot_out : IsOnRotation plan (t - 1) robot → ⊥
        robot_out = stays_out plan (t - 1) robot none

        head_marked : Leads head walk robot → IsMarked (set marks robot true) head
        head_marked (inl (empty, e)) = subst (λ (v : ℕ). IsMarked (set marks robot true) v) e (marked_here marks robot within)
        head_marked (inr (ys, e, chain)) = marked_still marks robot head within (w.walked head (subst (λ (v : List ℕ). Contains v head) (sym e) (head_in head ys)))

        earlier : (i : ℕ) → Contains walk i ⊎ IsMarked first i → IsOnRotation plan (t - 1) i → ⊥
        earlier i (inl c) o = out_on head robot walk w.leads robot_out i c o
        earlier i (inr m) o = out i m o

        go : (i : ℕ) → (i ≡ robot) ⊎ IsMarked marks i → IsOnRotation plan (t - 1) i → ⊥
        go i (inl e) o = robot_out (subst (λ (v : ℕ). IsOnRotation plan (t - 1) v) e o)
        go i (inr m) o = earlier i (w.marked i m) o

    -- a walk that meets a mark elsewhere than at its head is out
    pub walk_meets : (first marks : List Bool) (head robot : ℕ) (walk : List ℕ) → Walk first marks head robot walk → AreOut plan (t - 1) first → IsMarked marks robot → (robot ≡ head → ⊥)
        → IsMarked marks head × AreOut plan (t - 1) marks
    walk_meets first marks head robot walk w out here ne = (head_marked w.leads, λ i m. earlier i (w.marked i m))
      where
        head_marked : Leads head walk robot → IsMarked marks head
        head_marked (inl (empty, e)) = absurd (ne e)
        head_marked (inr (ys, e, chain)) = w.walked head (subst (λ (v : List ℕ). Contains v head) (sym e) (head_in head ys))

        returns : (ys : List ℕ) → walk ≡ head ∷ ys → Chain (Enters plan (t - 1)) head ys robot → (head ≡ robot) ⊎ Contains ys robot → ⊥
        returns ys e chain (inl s) = ne (sym s)
        returns ys e chain (inr c) = no_return (Enters plan (t - 1)) former_one head ys robot chain c (subst (λ (v : List ℕ). Distinct v) e w.distinct)

        not_walked : Leads head walk robot → Contains walk robot → ⊥
        not_walked (inl (empty, e)) c = ne e
        not_walked (inr (ys, e, chain)) c = returns ys e chain (in_cons head ys robot (subst (λ (v : List ℕ). Contains v robot) e c))

        old : Contains walk robot ⊎ IsMarked first robot → IsOnRotation plan (t - 1) robot → ⊥
        old (inl c) o = not_walked w.leads c
        old (inr m) o = out robot m o

        earlier : (i : ℕ) → Contains walk i ⊎ IsMarked first i → IsOnRotation plan (t - 1) i → ⊥
        earlier i (inl c) o = out_on head robot walk w.leads (old (w.marked robot here)) i c o
        earlier i (inr m) o = out i m o

    -- a ring of robots that enter one another's cells has three at least
    follows_along : (a : ℕ) (ys : List ℕ) (z : ℕ) → Chain (Enters plan (t - 1)) a ys z → Chain (Follows plan (t - 1)) a ys z
    follows_along a [] z c = c.follows
    follows_along a (y ∷ ys) z c = (c.0.follows, follows_along y ys z c.1)

    no_swap : (x y : ℕ) → Enters plan (t - 1) x y → Enters plan (t - 1) y x → (x ≡ y) ⊎ ((x < y) ⊎ (y < x)) → ⊥
    no_swap x y p q (inl e) = p.follows.changes (p.follows.enters ∙ ap (λ (w : ℕ). cell_at plan w (t - 1)) (sym e))
    no_swap x y p q (inr (inl lt)) = free x y (record { below = lt; there = p.there; one = ap (λ (w : ℕ). cell_at plan x w) (sym after) ∙ p.follows.enters; other = ap (λ (w : ℕ). cell_at plan y w) (sym after) ∙ q.follows.enters })
    no_swap x y p q (inr (inr gt)) = free y x (record { below = gt; there = q.there; one = ap (λ (w : ℕ). cell_at plan y w) (sym after) ∙ q.follows.enters; other = ap (λ (w : ℕ). cell_at plan x w) (sym after) ∙ p.follows.enters })

    three_at_least : (head : ℕ) (ys : List ℕ) → Chain (Enters plan (t - 1)) head ys head → 3 ≤ length (head ∷ ys)
    three_at_least head [] c = absurd (c.follows.changes c.follows.enters)
    three_at_least head (y ∷ []) c = absurd (no_swap head y c.0 c.1 (cases_order head y))
    three_at_least head (y ∷ z ∷ ys) c = omega arith

    rotation_of : (head : ℕ) (ys : List ℕ) → Chain (Enters plan (t - 1)) head ys head → Distinct (head ∷ ys) → IsRotation plan (t - 1) (head ∷ ys)
    rotation_of head ys c d = record { three = three_at_least head ys c; different = all_different (head ∷ ys) d; round = follows_along head ys head c }

    -- a walk that comes back to its head is a rotation
    pub walk_closes : (first marks : List Bool) (head robot : ℕ) (walk : List ℕ) → Walk first marks head robot walk → get_or first head false ≡ false → IsMarked marks robot → robot ≡ head
        → IsRotation plan (t - 1) walk × (slice_index walk 0 ≡ head)
    walk_closes first marks head robot walk w new here same = go w.leads (w.marked robot here)
      where
        ring : (ys : List ℕ) → walk ≡ head ∷ ys → Chain (Enters plan (t - 1)) head ys robot → IsRotation plan (t - 1) walk × (slice_index walk 0 ≡ head)
        ring ys e chain =
            let c : Chain (Enters plan (t - 1)) head ys head = subst (λ (v : ℕ). Chain (Enters plan (t - 1)) head ys v) same chain in
            let r = rotation_of head ys c (subst (λ (v : List ℕ). Distinct v) e w.distinct) in
            (subst (λ (v : List ℕ). IsRotation plan (t - 1) v) (sym e) r, ap (λ (v : List ℕ). slice_index v 0) e)

        go : Leads head walk robot → Contains walk robot ⊎ IsMarked first robot → IsRotation plan (t - 1) walk × (slice_index walk 0 ≡ head)
        go (inr (ys, e, chain)) o = ring ys e chain
        go (inl (empty, e)) (inl c) = absurd (in_none robot (subst (λ (v : List ℕ). Contains v robot) empty c))
        go (inl (empty, e)) (inr m) = let k : get_or first head false ≡ true = subst (λ (v : ℕ). IsMarked first v) same m in absurd cc

-- nothing is marked at the beginning
pub none_marked : (n i : ℕ) → IsMarked (replicate n false) i → ⊥
none_marked n i m = go (cases_lt i n)
  where
    go : (i < n) ⊎ (n ≤ i) → ⊥
    go (inl lt) = let e = get_or-replicate n i false false lt in cc
    go (inr le) = let e = get_or-eq_default (replicate n false) false {n = i} (omega (arith, length-replicate n false, le)) in cc

module _ (plan : List (List Cell)) (t : ℕ) (marks : List Bool) (head : ℕ) (out : AreOut plan t marks) (done : (i : ℕ) → i < head → IsMarked marks i) where
  -- the first robot of a rotation is not among those that are marked
  behind : (robots : List ℕ) → IsRotation plan t robots → head ≤ slice_index robots 0
  behind [] r = absurd r.round
  behind (x ∷ xs) r = go (cases_lt x head)
    where
      go : (x < head) ⊎ (head ≤ x) → head ≤ x
      go (inr le) = le
      go (inl lt) = absurd (out x (done x lt) (x ∷ xs, r, head_in x xs))

  pub first_rotation : (robots : List ℕ) → IsRotation plan t robots → slice_index robots 0 ≡ head → IsFirstRotation plan t (Some robots)
  first_rotation robots r e = (r, λ others q. subst (λ (w : ℕ). w ≤ slice_index others 0) (sym e) (behind others q))

  pub no_rotation : length plan ≤ head → (robots : List ℕ) → IsRotation plan t robots → ⊥
  no_rotation all [] r = r.round
  no_rotation all (x ∷ xs) r =
      let o : IsOnRotation plan t x = (x ∷ xs, r, head_in x xs) in
      let there = on_rotation_there plan t x o in
      out x (done x (omega arith)) o
