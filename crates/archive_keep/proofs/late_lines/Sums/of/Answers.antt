use Rattle.std.proofs.Common.{◌+◌, ◌∙◌, ap, sym, get_or, arith}
use Rattle.std.proofs.lemmas.List.Sums.{sum_by_more}
use Rattle.archive_keep.specs.declared.ends.RobotEnd.{RobotEnd}
use Rattle.archive_keep.specs.Report.{late_of}
use Rattle.archive_keep.proofs.late_lines.Sums.of.Goals as goal

pub loop-ticks-preserved : goal.loop-ticks-preserved
loop-ticks-preserved c =
    let ends = c.args.ends.now in
    let i = c.loop-ticks.ticks-index in
    let none : RobotEnd = record { planned = 0; actual = 0 } in
    let ticks : RobotEnd = get_or ends i none in
    let inv = c.loop-ticks.invariant in
    let within = c.requires.within i none c.loop-ticks-test.true in
    record {
      runs = omega (arith, inv.runs);
      planned = ap (λ n. n + ticks.planned) inv.planned ∙ sym (sum_by_more (λ (t : RobotEnd). t.planned) ends i none c.loop-ticks-test.true);
      actual = ap (λ n. n + ticks.actual) inv.actual ∙ sym (sum_by_more (λ (t : RobotEnd). t.actual) ends i none c.loop-ticks-test.true);
      late = ap (λ n. n + c.saturating_sub.result) inv.late ∙ ap (λ n. Rattle.std.specs.Prelude.sum_by late_of (Rattle.std.proofs.Common.take i ends) + n) c.saturating_sub.ensures ∙ sym (sum_by_more late_of ends i none c.loop-ticks-test.true);
      planned_bound = omega (arith, inv.planned_bound, within.planned_bound);
      actual_bound = omega (arith, inv.actual_bound, within.actual_bound);
      late_bound = omega (arith, inv.late_bound, within.actual_bound, c.saturating_sub.ensures);
    }
