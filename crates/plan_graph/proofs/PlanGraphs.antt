-- What follows from being the graph of an accepted plan.
use Rattle.std.proofs.Common.{ℕ, suc, ◌≡◌, ◌+◌, ◌-◌, ◌<◌, ◌≤◌, List, [], ◌∷◌, refl, sym, ap, ◌∙◌, subst, arith, length}
use Rattle.std.specs.Prelude.{sum_by, map}
use Rattle.std.proofs.lemmas.List.Sums.{sum_by-cons, get_or-le-sum_by}
use Rattle.fleet_base.specs.declared.geometry.Visit.{Visit}
use Rattle.fleet_base.specs.declared.geometry.PlannedVisit.{PlannedVisit}
use Rattle.fleet_base.specs.Lists.{row_of}
use Rattle.fleet_base.specs.Plan.{visits_of, visits_of_path, AreRoutes}
use Rattle.fleet_base.specs.Order.{Graph, IsGraph, IsVisit}
use Rattle.fleet_base.proofs.GraphLaws.{length-map, route_is_some}
use Rattle.fleet_base.proofs.PlanSound.{routes_graph}
use Rattle.fleet_base.specs.Limits.{robot_limit, visit_limit}
use Rattle.plan_graph.specs.Limits.{visit_count, IsPlanGraph, IsGraphWithinLimits}

pub plan_graph_is_graph : (g : Graph) → IsPlanGraph g → IsGraph g
plan_graph_is_graph g p = subst (λ (h : Graph). IsGraph h) (sym p.plan) (routes_graph p.routes)

sum_by-lasts : (routes : List (List PlannedVisit)) → ((i : ℕ) → i < length routes → 1 ≤ length (row_of routes i)) → sum_by (λ last. last + 1) (map (λ route. length route - 1) routes) ≡ sum_by (λ route. length route) routes
sum_by-lasts [] some = refl
sum_by-lasts (route ∷ routes) some =
    let first : 1 ≤ length route = some 0 (omega arith) in
    let rest = sum_by-lasts routes (λ i h. some (suc i) (omega (arith, h))) in
    omega (arith, sum_by-cons (λ (last : ℕ). last + 1) (length route - 1) (map (λ (r : List PlannedVisit). length r - 1) routes), sum_by-cons (λ (r : List PlannedVisit). length r) route routes)

routes_within : (routes : List (List PlannedVisit)) → AreRoutes routes → (1 ≤ length routes) × (length routes ≤ robot_limit) × (sum_by (λ route. length route) routes ≤ visit_limit)
routes_within routes r =
    let robots : length routes ≡ length r.plan = ap length r.visits ∙ length-map visits_of_path r.plan in
    let visits : sum_by (λ route. length route) routes ≡ sum_by (λ route. length route) (visits_of r.plan) = ap (λ (rs : List (List PlannedVisit)). sum_by (λ route. length route) rs) r.visits in
    (omega (arith, r.accepted.limits.robots), omega (arith, r.accepted.limits.robots), omega (arith, r.accepted.limits.visits))

pub plan_graph_within_limits : (g : Graph) → IsPlanGraph g → IsGraphWithinLimits g
plan_graph_within_limits g p =
    let within = routes_within p.routes p.accepted in
    let lasts : length g.lasts ≡ length p.routes = ap (λ (h : Graph). length h.lasts) p.plan ∙ length-map (λ (route : List PlannedVisit). length route - 1) p.routes in
    let count : visit_count g ≡ sum_by (λ route. length route) p.routes = ap visit_count p.plan ∙ sum_by-lasts p.routes (route_is_some p.routes p.accepted) in
    record { robots = (omega (arith, within.0), omega (arith, within.1)); visits = omega (arith, within.2); few = p.few }

-- the number of a visit is small
pub index_within : (g : Graph) → IsGraphWithinLimits g → (v : Visit) → IsVisit g v → v.index < visit_limit
index_within g w v h = omega (arith, h.index, w.visits, get_or-le-sum_by (λ (last : ℕ). last + 1) g.lasts v.robot 0 h.robot)
