-- Ticks that fall again, one visit after another, once an edge was taken away.
use Rattle.std.specs.Prelude.{ℕ, ◌≡◌, ◌⊎◌, ◌+◌, ◌<◌, ◌≤◌, List, Option, Bool, sum_by}
use Rattle.fleet_base.specs.declared.geometry.Visit.{Visit}
use Rattle.fleet_base.specs.declared.order.Side.{Side}
use Rattle.fleet_base.specs.Order.{Graph, IsVisit, HasEdge, Before}
use Rattle.fleet_base.specs.State.{FleetState, arrived_count, duration_of}
use Rattle.fleet_base.specs.Schedule.{IsSchedule, Obeys, IsLeastSchedule, own_tick}
use Rattle.fleet_base.specs.VisitRows.{tick_in, AreRowsFor}
use Rattle.longest_path.specs.Kept.{AreSmall}
use Rattle.longest_path.specs.Cells.{AreAlike}
use Rattle.longest_path.specs.Extending.{HasOneMore}
use Rattle.longest_path.specs.Rising.{Marked}

-- a visit is as late as it is by itself, or by one before it
abbrev pub HasReason : Graph → FleetState → (ℕ → Option Side) → (Visit → ℕ) → Visit → Type 0
HasReason g x order s v = (s v ≡ own_tick x v) ⊎ ((u : Visit) × IsVisit g u × Before g order u v × (s v ≡ s u + duration_of x v))

-- While ticks fall: the schedule obeys every edge, and each visit that has not arrived has a reason to be as late as it is,
-- but for those that wait to be looked at.
pub record IsLowering (g : Graph) (x : FleetState) (order : ℕ → Option Side) (s : Visit → ℕ) (Waits : Visit → Type 0) : Type 0 where
  pub schedule : IsSchedule g x s
  pub obeys : Obeys g x order s
  pub rests : (v : Visit) → IsVisit g v → arrived_count x v.robot ≤ v.index → HasReason g x order s v ⊎ Waits v

-- the schedule is the least one of an order with one side more, whose edge leads to this visit
pub record WasAdded (g : Graph) (x : FleetState) (order : ℕ → Option Side) (head : Visit) (s : Visit → ℕ) : Type 0 where
  pub more : ℕ → Option Side
  pub pair : ℕ
  pub tail : Visit
  pub one : HasOneMore order more pair
  pub edge : HasEdge g more pair tail head
  pub least : IsLeastSchedule g x more s

-- ticks in rows fall, beside marks for each visit
pub record IsFalling (g : Graph) (x : FleetState) (order : ℕ → Option Side) (rows : List (List ℕ)) (marks : List (List Bool)) (Waits : Visit → Type 0) : Type 0 where
  pub are : AreRowsFor g rows
  pub alike : AreAlike rows marks
  pub small : AreSmall rows
  pub lowering : IsLowering g x order (tick_in rows) Waits
  pub ahead : (w : Visit) → Waits w → arrived_count x w.robot ≤ w.index

-- all ticks together
abbrev pub tick_total : List (List ℕ) → ℕ
tick_total rows = sum_by (λ row. sum_by (λ tick. tick) row) rows

-- visits behind one were marked, and no other
pub record IsWaking (g : Graph) (order : ℕ → Option Side) (v : Visit) (rows : List (List ℕ)) (old marks : List (List Bool)) : Type 0 where
  pub alike : AreAlike rows marks
  pub stays : (w : Visit) → Marked old w → Marked marks w
  pub only : (w : Visit) → Marked marks w → Marked old w ⊎ (IsVisit g w × Before g order v w)
