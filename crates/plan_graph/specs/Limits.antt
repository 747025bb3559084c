-- What is known of the graph of a plan.
use Rattle.std.specs.Prelude.{ℕ, ◌≡◌, ◌+◌, ◌≤◌, List, length, sum_by}
use Rattle.fleet_base.specs.declared.geometry.PlannedVisit.{PlannedVisit}
use Rattle.fleet_base.specs.Limits.{robot_limit, visit_limit, pair_limit}
use Rattle.fleet_base.specs.Plan.{AreRoutes}
use Rattle.fleet_base.specs.Order.{Graph, graph_of}

-- how many visits a graph has
abbrev pub visit_count : Graph → ℕ
visit_count g = sum_by (λ last. last + 1) g.lasts

-- the graph of an accepted plan, of no more pairs than there may be
pub record IsPlanGraph (g : Graph) : Type 0 where
  pub routes : List (List PlannedVisit)
  pub accepted : AreRoutes routes
  pub plan : g ≡ graph_of routes
  pub few : length g.pairs ≤ pair_limit

-- a robot at least, and no more robots, visits and pairs than there may be
pub record IsGraphWithinLimits (g : Graph) : Type 0 where
  pub robots : (1 ≤ length g.lasts) × (length g.lasts ≤ robot_limit)
  pub visits : visit_count g ≤ visit_limit
  pub few : length g.pairs ≤ pair_limit
