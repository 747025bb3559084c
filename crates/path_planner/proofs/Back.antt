-- The moves of fixed robots, followed back from the cell where they end.
use Rattle.std.proofs.Common.{ℕ, zero, suc, ◌≡◌, ◌≢◌, ◌+◌, ◌-◌, ◌<◌, ◌≤◌, ◌⊎◌, List, [], ◌∷◌, refl, sym, ap, ◌∙◌, subst, inl, inr, arith, length}
use Rattle.std.specs.Prelude.{Option, Some, None, MatchOption}
use Rattle.fleet_base.specs.declared.geometry.Cell.{Cell}
use Rattle.fleet_base.specs.Lists.{Chain}
use Rattle.fleet_base.specs.Plan.{cell_at, IsCollisionFree}
use Rattle.fleet_base.proofs.Walks.{apart, leader, onward}
use Rattle.plan_steps.specs.Steps.{Moves, IsClear, IsClosed}
use Rattle.plan_steps.specs.Traffic.{IsRobotIn}
use Rattle.plan_steps.proofs.Ends.{fewer_ahead, next_tick}

module _ (fixed : List (List Cell)) (t : ℕ) where
  -- how many robots are ahead of one, each in the cell that the one behind it enters
  abbrev pub ahead : ℕ → ℕ
  ahead i = length (onward fixed t (length fixed) (leader fixed t i))

  -- how much further back the moves may go
  abbrev pub left_back : Option ℕ → ℕ
  left_back None = 0
  left_back (Some i) = suc (length fixed) - ahead i

  onward_few : (f : ℕ) (o : Option ℕ) → length (onward fixed t f o) ≤ f
  onward_few zero o = omega arith
  onward_few (suc f) None = omega arith
  onward_few (suc f) (Some j) = omega (arith, onward_few f (leader fixed t j))

  -- a robot enters a cell from which moves lead to the last one, and it was in another cell before
  pub record IsEntering (from to : Cell) (robot : ℕ) : Type 0 where
    pub there : robot < length fixed
    pub into : Cell
    pub enters : cell_at fixed robot (suc t) ≡ into
    pub changes : cell_at fixed robot t ≢ into
    pub onto : (into ≡ to) ⊎ IsClosed fixed t into to
    pub rest : IsClosed fixed t from to → IsClosed fixed t from into

  -- the moves were followed back to this robot's, or to their beginning
  abbrev pub IsBack : Cell → Cell → Option ℕ → Type 0
  IsBack from to entering = MatchOption entering (¬ IsClosed fixed t from to) (IsEntering from to)

  -- a chain of moves ends with one
  record EndsBy (a : Cell) (z : Cell) : Type 0 where
    last : Cell
    move : Moves fixed t last z
    way : (a ≡ last) ⊎ IsClosed fixed t a last

  ends_by : (a : Cell) (ys : List Cell) (z : Cell) → Chain (Moves fixed t) a ys z → EndsBy a z
  ends_by a [] z c = record { last = a; move = c; way = inl refl }
  ends_by a (y ∷ ys) z c = let e = ends_by y ys z c.1 in record { last = e.last; move = e.move; way = inr (go e.last e.way) }
    where
      go : (l : Cell) → (y ≡ l) ⊎ IsClosed fixed t y l → IsClosed fixed t a l
      go l (inl same) = ([], subst (λ (w : Cell). Moves fixed t a w) same c.0)
      go l (inr closed) = (y ∷ closed.0, (c.0, closed.1))

  module _ (free : IsCollisionFree fixed) where
    -- no robot enters the cell, so that no moves end there
    pub none_enter : (from into : Cell) → IsClear fixed (suc t) into → ¬ IsClosed fixed t from into
    none_enter from into clear closed = let e = ends_by from closed.0 into closed.1 in clear e.move.robot e.move.there e.move.enters

    -- moves that end in a cell end with the move of the robot that enters it
    through : (from into : Cell) (robot : ℕ) → robot < length fixed → cell_at fixed robot (suc t) ≡ into → IsClosed fixed t from into
        → (from ≡ cell_at fixed robot t) ⊎ IsClosed fixed t from (cell_at fixed robot t)
    through from into robot there enters closed =
        let e = ends_by from closed.0 into closed.1 in
        let same : e.move.robot ≡ robot = apart fixed t free e.move.robot robot (suc t) e.move.there there (e.move.enters ∙ sym enters) in
        let was : e.last ≡ cell_at fixed robot t = sym e.move.was ∙ ap (λ (i : ℕ). cell_at fixed i t) same in
        subst (λ (l : Cell). (from ≡ l) ⊎ IsClosed fixed t from l) was e.way

    move_of : (robot : ℕ) (from to : Cell) → (e : IsEntering from to robot) → Moves fixed t (cell_at fixed robot t) e.into
    move_of robot from to e = record { robot = robot; there = e.there; was = refl; enters = e.enters; changes = e.changes }

    -- from the cell that the robot leaves moves lead to the last one
    pub left_leads : (robot : ℕ) (from to left : Cell) → IsEntering from to robot → left ≡ cell_at fixed robot t → IsClosed fixed t left to
    left_leads robot from to left e is = subst (λ (l : Cell). IsClosed fixed t l to) (sym is) (go e.onto)
      where
        go : (e.into ≡ to) ⊎ IsClosed fixed t e.into to → IsClosed fixed t (cell_at fixed robot t) to
        go (inl same) = ([], subst (λ (w : Cell). Moves fixed t (cell_at fixed robot t) w) same (move_of robot from to e))
        go (inr closed) = (e.into ∷ closed.0, (move_of robot from to e, closed.1))

    -- the first robot to look at is the one that enters the last cell
    pub back_first : (from to : Cell) (entering : Option ℕ) → IsClear fixed t to → IsRobotIn fixed (t + 1) to entering → IsBack from to entering
    back_first from to None clear is = none_enter from to (λ j h e. is j h (next_tick fixed t j ∙ e))
    back_first from to (Some robot) clear is = record {
      there = is.0;
      into = to;
      enters = sym (next_tick fixed t robot) ∙ is.1;
      changes = clear robot is.0;
      onto = inl refl;
      rest = λ closed. closed;
    }

    -- the next one is the robot that enters the cell which this one leaves
    pub back_on : (from to left : Cell) (robot : ℕ) (entering : Option ℕ) → IsEntering from to robot → left ≡ cell_at fixed robot t → left ≢ from
        → IsRobotIn fixed (t + 1) left entering → IsBack from to entering
    back_on from to left robot None e at other is = λ closed. go (through from e.into robot e.there e.enters (e.rest closed))
      where
        go : (from ≡ cell_at fixed robot t) ⊎ IsClosed fixed t from (cell_at fixed robot t) → ⊥
        go (inl same) = other (at ∙ sym same)
        go (inr closed) = none_enter from left (λ j h n. is j h (next_tick fixed t j ∙ n)) (subst (λ (l : Cell). IsClosed fixed t from l) (sym at) closed)
    back_on from to left robot (Some next) e at other is = record {
      there = is.0;
      into = left;
      enters = sym (next_tick fixed t next) ∙ is.1;
      changes = stays;
      onto = inr (left_leads robot from to left e at);
      rest = λ closed. go (through from e.into robot e.there e.enters (e.rest closed));
    }
      where
        stays : cell_at fixed next t ≢ left
        stays here =
            let same : next ≡ robot = apart fixed t free next robot t is.0 e.there (here ∙ at) in
            e.changes (sym at ∙ (sym is.1 ∙ (next_tick fixed t next ∙ (ap (λ (i : ℕ). cell_at fixed i (suc t)) same ∙ e.enters))))

        go : (from ≡ cell_at fixed robot t) ⊎ IsClosed fixed t from (cell_at fixed robot t) → IsClosed fixed t from left
        go (inl same) = absurd (other (at ∙ sym same))
        go (inr closed) = subst (λ (l : Cell). IsClosed fixed t from l) (sym at) closed

    -- and there are more robots ahead of it
    pub further_back : (from to left : Cell) (robot : ℕ) (entering : Option ℕ) → IsEntering from to robot → left ≡ cell_at fixed robot t
        → IsRobotIn fixed (t + 1) left entering → left_back entering < left_back (Some robot)
    further_back from to left robot None e at is = omega (arith, onward_few (length fixed) (leader fixed t robot))
    further_back from to left robot (Some next) e at is =
        let enters : cell_at fixed next (suc t) ≡ cell_at fixed robot t = sym (next_tick fixed t next) ∙ (is.1 ∙ at) in
        let changes : cell_at fixed next (suc t) ≢ cell_at fixed next t = λ stays. moved (sym stays ∙ enters) in
        omega (arith, fewer_ahead fixed t free next robot is.0 e.there changes enters, onward_few (length fixed) (leader fixed t next))
      where
        moved : cell_at fixed next t ≢ cell_at fixed robot t
        moved here =
            let same : next ≡ robot = apart fixed t free next robot t is.0 e.there here in
            e.changes (sym at ∙ (sym is.1 ∙ (next_tick fixed t next ∙ (ap (λ (i : ℕ). cell_at fixed i (suc t)) same ∙ e.enters))))
