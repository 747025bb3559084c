use Rattle.std.proofs.Common.{◌≡◌, sym, subst, ap, ◌∙◌}
use Rattle.fleet_base.specs.declared.report.Report.{Report}
use Rattle.fleet_base.specs.Rules.{IsFleetState}
use Rattle.fleet_core.specs.declared.judging.Judged.TheVariants.{Accept}
use Rattle.fleet_core.specs.Judgement.{judgement_of}
use Rattle.fleet_core.specs.Step.{heard_of}
use Rattle.fleet_core.proofs.Delaying.{heard_delay_keeps_rules}
use Rattle.search_bench.proofs.fleets.heard_now.Goals as goal

pub returns-in-Ok : goal.returns-in-Ok
returns-in-Ok c =
    let x = c.args.fleet.now in
    let accepted = subst (λ (r : Report). judgement_of x r ≡ Accept) c.in-Delay.is c.requires.accepted in
    subst (IsFleetState c.args.graph.now) (sym (c.in-Ok.ensures ∙ ap (heard_of x) c.in-Delay.is))
    (heard_delay_keeps_rules c.args.graph.now x c.in-Delay.robot c.in-Delay.index c.in-Delay.extra c.in-Delay.tick c.requires.state accepted c.requires.count)
