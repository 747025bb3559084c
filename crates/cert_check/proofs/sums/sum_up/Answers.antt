use Rattle.std.proofs.Common.{◌∙◌, arith}
use Rattle.cert_check.proofs.RoundLaws.{has_ticks_kept}
use Rattle.cert_check.proofs.SumLaws.{all_more}
use Rattle.cert_check.proofs.sums.sum_up.Goals as goal

pub sum_row-requires-clause-rows : goal.sum_row-requires-clause-rows
sum_row-requires-clause-rows c = has_ticks_kept c.args.graph.now c.args.sums.now c.loop-robot.sums c.requires.rows c.loop-robot.invariant.rows

pub loop-robot-preserved : goal.loop-robot-preserved
loop-robot-preserved c = record {
  sums = all_more c.args.graph.now c.args.fleet.now c.loop-robot.sums c.sum_row.new.sums c.loop-robot.robot c.sum_row.ensures.row c.sum_row.ensures.others c.loop-robot.invariant.sums;
  rows = c.sum_row.ensures.rows ∙ c.loop-robot.invariant.rows;
}

pub returns-clause-sums : goal.returns-clause-sums
returns-clause-sums c = record {
  rows = has_ticks_kept c.args.graph.now c.args.sums.now c.loop-robot.sums c.requires.rows c.loop-robot.invariant.rows;
  sums = λ v is. c.loop-robot.invariant.sums v is (omega (arith, is.robot, c.loop-robot-test.false, c.robots-robot-end.ensures.count));
}
