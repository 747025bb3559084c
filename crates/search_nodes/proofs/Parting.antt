-- A candidate that gives two mates different sides has a cycle.
use Rattle.std.proofs.Common.{ℕ, ◌≡◌, ◌<◌, ◌⊎◌, List, Some, None, Option, sym, ap, ◌∙◌, subst, inl, inr, length}
use Rattle.fleet_base.specs.declared.geometry.Visit.{Visit}
use Rattle.fleet_base.specs.declared.order.Side.{Side}
use Rattle.fleet_base.specs.declared.order.Side.TheVariants.{Lower, Higher}
use Rattle.fleet_base.specs.Order.{Graph, other_side}
use Rattle.fleet_base.specs.State.{FleetState}
use Rattle.fleet_base.specs.Rules.{IsFleetState}
use Rattle.fleet_base.specs.Schedule.{IsLeastSchedule}
use Rattle.fleet_base.proofs.OpenPairs.{open_listed}
use Rattle.edge_groups.proofs.Agreeing.{mates_agree}
use Rattle.longest_path.specs.declared.decision.Decision.{Decision as Given}
use Rattle.longest_path.specs.Decisions.{order_on as given_order}
use Rattle.cert_tree.specs.Decisions.{Decision, order_on, IsFree}
use Rattle.order_choice.specs.Candidates.{IsCandidate, IsNoCheaper}
use Rattle.order_choice.proofs.Candidates.{suggested_once}
use Rattle.search_nodes.specs.Making.{given_on}
use Rattle.search_nodes.specs.Weighing.{IsCandidateSide, IsPartedAt}
use Rattle.search_nodes.proofs.Ways.{free_on}
use Rattle.search_nodes.proofs.Sides.{some_or_none, free_of_none, pair_there, mate_there}
use Rattle.search_nodes.proofs.Conflicts.{order_is, least_given}
use Rattle.search_nodes.proofs.Candidates.{candidate_extends, state_side}

module _ (g : Graph) (x : FleetState) (state : IsFleetState g x) (ds : List Given) (way : List Decision) (e : ds ≡ given_on way) (s : Visit → ℕ) (least : IsLeastSchedule g x (order_on g x way) s) (order : ℕ → Option Side) (is : IsCandidate g x way s order) where
  -- the candidate gives each pair its side
  pub side_of : (q : ℕ) (side : Side) → q < length g.pairs → IsCandidateSide g x (given_order g x ds) q side → order q ≡ Some side
  side_of q side lt here = go (some_or_none (given_order g x ds q))
    where
      go : ((d : Side) × (given_order g x ds q ≡ Some d)) ⊎ (given_order g x ds q ≡ None) → order q ≡ Some side
      go (inl (d, h)) = candidate_extends g x way s order is q d (sym (ap (λ (f : ℕ → Option Side). f q) (order_is g x ds way e s)) ∙ h) ∙ ap Some (sym (here.given d h))
      go (inr none) =
          let free : IsFree g x way q = free_on g x way q (free_of_none g x (given_on way) state q lt (subst (λ (es : List Given). given_order g x es q ≡ None) e none)) in
          let l = open_listed g x q free.0 in
          let old = state_side g x state q lt in
          let u = is.undecided q l.0 old.0 free l.1 old.1 in
          u.1 ∙ ap Some (suggested_once x s l.0 old.0 u.0 side u.2 (here.suggested l.0 old.0 s none l.1 old.1 (least_given g x ds way e s least)))

not_other : (side : Side) → Some side ≡ Some (other_side side) → ⊥
not_other Lower e = cc
not_other Higher e = cc

-- so where it parts a pair from a mate, it is not sound
pub parted_dear : (g : Graph) (x : FleetState) → IsFleetState g x → (ds : List Given) (q : ℕ) → IsPartedAt g x (given_order g x ds) q → (way : List Decision) → ds ≡ given_on way → (cost : ℕ) → IsNoCheaper g x cost way
parted_dear g x state ds q parted way e cost s order c least is sound k =
    let one = side_of g x state ds way e s least order is q parted.side (pair_there g q parted.mate parted.mates) parted.here in
    let two = side_of g x state ds way e s least order is parted.mate (other_side parted.side) (mate_there g q parted.mate parted.mates) parted.there in
    absurd (not_other parted.side (sym one ∙ mates_agree g order sound q parted.mate parted.mates ∙ two))
