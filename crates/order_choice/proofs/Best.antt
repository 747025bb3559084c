-- The best order: the state's at first, and then a candidate that is sound and costs less.
use Rattle.std.proofs.Common.{ℕ, ◌≤◌, List, Option, refl, arith}
use Rattle.fleet_base.specs.declared.geometry.Visit.{Visit}
use Rattle.fleet_base.specs.declared.order.Side.{Side}
use Rattle.fleet_base.specs.Order.{Graph, IsSoundOrder}
use Rattle.fleet_base.specs.State.{FleetState, order_at}
use Rattle.fleet_base.specs.Rules.{IsFleetState}
use Rattle.fleet_base.specs.Schedule.{IsLeastSchedule, IsCost}
use Rattle.fleet_base.proofs.Costs.{one_cost}
use Rattle.cert_tree.specs.Decisions.{Decision, order_on}
use Rattle.order_choice.specs.Candidates.{IsCandidate, IsNoCheaper}
use Rattle.order_choice.specs.Searching.{IsBest}
use Rattle.order_choice.proofs.Chosen.{weighs}

pub kept_is_best : (g : Graph) (x : FleetState) (c : ℕ) → IsFleetState g x → IsCost g x (order_at g x) c → IsBest g x (order_at g x) c
kept_is_best g x c state k = record { sound = state.order; closed = λ q h. refl; costs = k; no_dearer = λ old l. let e = one_cost g x (order_at g x) c old k l in omega (arith, e) }

pub candidate_becomes_best : (g : Graph) (x : FleetState) (way : List Decision) (s : Visit → ℕ) (order old : ℕ → Option Side) (c best : ℕ) → IsFleetState g x → IsLeastSchedule g x (order_on g x way) s → IsCandidate g x way s order → IsSoundOrder g order → IsCost g x order c
    → IsBest g x old best → c ≤ best → IsBest g x order c × IsNoCheaper g x c way
candidate_becomes_best g x way s order old c best state least is sound k b le = (
  record { sound = sound; closed = is.closed; costs = k; no_dearer = λ d l. let h = b.no_dearer d l in omega (arith, h, le) },
  weighs g x way s order c state least is (λ z d l. let e = one_cost g x order c d k l in omega (arith, e)),
)
