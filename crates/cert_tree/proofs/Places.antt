-- Places of visits in a list, and what is before what there.
use Rattle.std.proofs.Common.{ℕ, suc, ◌≡◌, ◌+◌, ◌<◌, ◌≤◌, ◌⊎◌, List, [], ◌∷◌, Some, Option, true, false, Bool, cond, refl, ap, inl, inr, arith, length}
use Rattle.std.specs.Prelude.{slice_get, Contains, ◌==◌}
use Rattle.std.proofs.lemmas.Bool.{eqb-true, and_parts}
use Rattle.fleet_base.proofs.PairNumbers.{same_visit_true}
use Rattle.fleet_base.specs.declared.geometry.Visit.{Visit}
use Rattle.fleet_base.specs.declared.order.PairId.{PairId}
use Rattle.fleet_base.specs.declared.order.Side.{Side}
use Rattle.fleet_base.specs.Pairs.{same_visit}
use Rattle.fleet_base.specs.Order.{Graph, IsGraph, IsVisit, IsCycle, IsSorted, Before, next_visit}
use Rattle.fleet_base.proofs.Members.{in_cons, in_none}
use Rattle.fleet_base.proofs.Edges.{head_there}
use Rattle.fleet_base.proofs.Places.{place_in, stands}
use Rattle.cert_tree.proofs.EdgeLaws.{visit_before, no_cycle}

module _ (g : Graph) (order : ℕ → Option Side) (list : List Visit) (sorted : IsSorted g order list) where
  -- what is before a visit has an earlier place
  pub earlier : (u v : Visit) → IsVisit g u → IsVisit g v → Before g order u v → place_in list u < place_in list v
  earlier u v iu iv b = sorted.forward (place_in list u) (place_in list v) u v (stands list u (sorted.each u iu)).1 (stands list v (sorted.each v iv)).1 b

  step : (v : Visit) → IsVisit g (next_visit v) → place_in list v ≤ place_in list (next_visit v)
  step v is = let h = earlier v (next_visit v) (visit_before g v.robot (v.index + 1) v.index is (omega arith)) is (inl refl) in omega arith

  pub no_cycle_sorted : IsGraph g → (cycle : List PairId) → IsCycle g order cycle → ⊥
  no_cycle_sorted graph = no_cycle g order (place_in list) step (λ q u v iu e. earlier u v iu (head_there g order q u v graph e) (inr (q, e)))
