-- The fleet goes on in each state for which sides stand.
use Rattle.std.proofs.Common.{ℕ, List, [], ◌∷◌, subst, sym, arith}
use Rattle.fleet_base.specs.declared.geometry.PlannedVisit.{PlannedVisit}
use Rattle.fleet_base.specs.Order.{graph_of}
use Rattle.fleet_base.specs.Plan.{AreRoutes}
use Rattle.fleet_base.specs.State.{FleetState}
use Rattle.fleet_base.specs.Rules.{IsFleetState}
use Rattle.fleet_base.proofs.FirstState.{first_state_ahead_keeps}
use Rattle.fleet_base.proofs.Progress.{never_stalls}
use Rattle.station_api.specs.Scene.{Scene}
use Rattle.fleet_recovery.specs.Papers.{Papers}
use Rattle.fleet_recovery.specs.Entries.{Leads}
use Rattle.fleet_recovery.specs.Image.{StandsFor, blank, found}
use Rattle.fleet_recovery.proofs.OneState.{enters_rules}
use Rattle.fleet_cli.specs.Sessions.{GoesOn}

-- a state that keeps the rules goes on
pub goes_on : (routes : List (List PlannedVisit)) (x : FleetState) → IsFleetState (graph_of routes) x → GoesOn routes x
goes_on routes x s = record { order = s.order; moves = never_stalls (graph_of routes) x s }

-- entries lead on by the rules
leads_rules : (routes : List (List PlannedVisit)) (x : FleetState) (payloads : List (List ℕ)) (y : FleetState) → IsFleetState (graph_of routes) x → Leads (graph_of routes) x payloads y → IsFleetState (graph_of routes) y
leads_rules routes x [] y rules leads = subst (IsFleetState (graph_of routes)) (sym leads) rules
leads_rules routes x (payload ∷ payloads) y rules leads = leads_rules routes leads.0 payloads y (enters_rules (graph_of routes) x payload leads.0 rules leads.1) leads.2

-- a state for which sides stand keeps the rules
pub stands_rules : (routes : List (List PlannedVisit)) → AreRoutes routes → (papers : Papers) (scene : Scene) (x : FleetState) → StandsFor routes papers scene x → IsFleetState (graph_of routes) x
stands_rules routes r papers scene x (blank is first) = first_state_ahead_keeps routes 1 x r (omega arith, omega arith) first
stands_rules routes r papers scene x (found (one, h)) =
    leads_rules routes h.means.begun h.entries x (first_state_ahead_keeps routes x.window h.means.begun r (omega (arith, one), omega (arith, one)) h.means.begins) h.means.leads
