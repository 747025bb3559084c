-- Ticks that rise, one visit after another, until an edge that was just given is obeyed.
use Rattle.std.specs.Prelude.{ℕ, ◌≡◌, ◌⊎◌, ◌+◌, ◌-◌, ◌*◌, ◌^◌, ◌<◌, ◌≤◌, List, Option, Bool, true, sum_by}
use Rattle.fleet_base.specs.declared.geometry.Visit.{Visit}
use Rattle.fleet_base.specs.declared.order.Edge.{Edge}
use Rattle.fleet_base.specs.declared.order.Side.{Side}
use Rattle.fleet_base.specs.Order.{Graph, IsVisit, HasEdge, Before}
use Rattle.fleet_base.specs.State.{FleetState, arrived_count, duration_of}
use Rattle.fleet_base.specs.Schedule.{IsSchedule, Obeys, ObeysEdge, IsLeastSchedule, IsBelowAll}
use Rattle.fleet_base.specs.VisitRows.{tick_in, AreRowsFor}
use Rattle.fleet_base.specs.Limits.{moment_limit}
use Rattle.longest_path.specs.Cells.{is_marked, mark_count}
use Rattle.longest_path.specs.Extending.{Reaches, HasOneMore}
use Rattle.longest_path.specs.Working.{IsWorkFor, IsKeptBy}
use Rattle.longest_path.specs.declared.work.Work.{Work}

-- the schedule obeys every edge, but for those that begin at a visit that waits to hand its tick on
abbrev pub ObeysBut : Graph → FleetState → (ℕ → Option Side) → (Visit → ℕ) → (Visit → Type 0) → Type 0
ObeysBut g x order s Waits = (u v : Visit) → IsVisit g u → IsVisit g v → Before g order u v → ObeysEdge x s u v ⊎ Waits u

-- While a decision raises: every tick is at most that of each schedule that obeys the new order, every edge is obeyed but
-- those from the visits that wait to hand their ticks on, and whatever was raised is reached from the head.
pub record IsRaising (g : Graph) (x : FleetState) (order more : ℕ → Option Side) (head : Visit) (base s : Visit → ℕ) (Waits : Visit → Type 0) : Type 0 where
  pub schedule : IsSchedule g x s
  pub below : IsBelowAll g x more s
  pub but : ObeysBut g x more s Waits
  pub risen : (v : Visit) → base v ≤ s v
  pub reached : (v : Visit) → base v < s v → Reaches g order head v
  pub waiting : (v : Visit) → Waits v → IsVisit g v × (base v < s v)

-- an edge was given to the least schedule of an order, its tail was at a tick then, and the schedule is being raised for it
pub record IsUnderWay (g : Graph) (x : FleetState) (more : ℕ → Option Side) (tail : Visit) (given : ℕ) (s : Visit → ℕ) (Waits : Visit → Type 0) : Type 0 where
  pub order : ℕ → Option Side
  pub pair : ℕ
  pub head : Visit
  pub base : Visit → ℕ
  pub one : HasOneMore order more pair
  pub edge : HasEdge g more pair tail head
  pub least : IsLeastSchedule g x order base
  pub small : (v : Visit) → base v < 2 * moment_limit
  pub raising : IsRaising g x order more head base s Waits
  pub shifted : (v : Visit) → IsVisit g v → s v ≤ base v + (base tail + duration_of x head - base head)
  pub start : base tail ≡ given
  pub ahead : arrived_count x head.robot ≤ head.index

-- the visit is marked
abbrev pub Marked : List (List Bool) → Visit → Type 0
Marked marks v = is_marked marks v ≡ true

-- how far the ticks are from a bound on all of them
abbrev pub headroom : List (List ℕ) → ℕ
headroom rows = sum_by (λ row. sum_by (λ tick. 2 ^ 44 - tick) row) rows

-- a visit of this tick hands it on: what was so before is so still
pub record IsHanding (g : Graph) (x : FleetState) (more : ℕ → Option Side) (v : Visit) (tick : ℕ) (rows0 : List (List ℕ)) (work0 : Work) (rows : List (List ℕ)) (work : Work) : Type 0 where
  pub are : AreRowsFor g rows
  pub room : IsWorkFor rows work
  pub here : tick_in rows v ≡ tick
  pub rises : (w : Visit) → tick_in rows0 w ≤ tick_in rows w
  pub less : mark_count work.waiting + headroom rows ≤ mark_count work0.waiting + headroom rows0
  pub kept : (base : Visit → ℕ) → IsKeptBy base rows0 work0 → IsKeptBy base rows work
  pub under : (tail : Visit) (given : ℕ) → (tail ≡ v → ⊥) → IsUnderWay g x more tail given (tick_in rows0) (λ w. Marked work0.waiting w ⊎ (w ≡ v)) → IsUnderWay g x more tail given (tick_in rows) (λ w. Marked work.waiting w ⊎ (w ≡ v))

-- an edge was added to the order of a least schedule; its head has not arrived
pub record IsAdded (g : Graph) (x : FleetState) (more : ℕ → Option Side) (edge : Edge) (s : Visit → ℕ) : Type 0 where
  pub order : ℕ → Option Side
  pub pair : ℕ
  pub one : HasOneMore order more pair
  pub has : HasEdge g more pair edge.tail edge.head
  pub tail : IsVisit g edge.tail
  pub head : IsVisit g edge.head
  pub ahead : arrived_count x edge.head.robot ≤ edge.head.index
  pub least : IsLeastSchedule g x order s
