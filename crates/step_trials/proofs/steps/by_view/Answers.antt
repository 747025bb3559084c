use Rattle.std.proofs.Common.{sym, subst}
use Rattle.fleet_base.specs.Order.{Graph}
use Rattle.fleet_base.specs.State.{FleetState}
use Rattle.release_rule.specs.Releasing.{IsReadyToRelease}
use Rattle.step_trials.proofs.Ready.{heard_ready}
use Rattle.step_trials.proofs.steps.by_view.Goals as goal

pub releases-requires-clause-state : goal.releases-requires-clause-state
releases-requires-clause-state c =
    subst (λ (g : Graph). IsReadyToRelease g c.in_ok-next.next) (sym c.in_ok-view.ensures.graph)
    (subst (λ (x : FleetState). IsReadyToRelease c.args.graph.now x) (sym c.in_ok-next.ensures) (heard_ready c.args.graph.now c.args.fleet.now c.args.report.now c.requires.state c.requires.accepted c.requires.count))
