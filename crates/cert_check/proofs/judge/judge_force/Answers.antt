use Rattle.std.proofs.Common.{None, Some, cond, sym, ap}
use Rattle.cert_check.specs.declared.judge.Kind.TheVariants as kind
use Rattle.cert_check.specs.declared.verdict.NoWhy.TheVariants.{Cycle}
use Rattle.cert_check.proofs.JudgeLaws.{force_judged_by, set_back, open_inside}
use Rattle.cert_check.proofs.judge.judge_force.Goals as goal

pub returns-then-refuted-clause-optimal : goal.returns-then-refuted-clause-optimal
returns-then-refuted-clause-optimal c = λ cost. force_judged_by c.args.graph.now c.args.fleet.now c.args.sides.now c.args.pair c.args.side c.args.cycle.now c.is_cycle-refuted.result None c.other.result c.other.ensures (c.is_free.ensures.0 c.if-not-is_free.false) (open_inside c.args.graph.now c.args.fleet.now c.args.sides.now c.args.pair.0 c.requires.sides (c.is_free.ensures.0 c.if-not-is_free.false)) c.is_cycle-refuted.ensures (ap (λ b. cond b None (Some Cycle)) (sym c.if-refuted.true)) cost kind.Optimal

pub returns-then-refuted-clause-spent : goal.returns-then-refuted-clause-spent
returns-then-refuted-clause-spent c = λ cost least. force_judged_by c.args.graph.now c.args.fleet.now c.args.sides.now c.args.pair c.args.side c.args.cycle.now c.is_cycle-refuted.result None c.other.result c.other.ensures (c.is_free.ensures.0 c.if-not-is_free.false) (open_inside c.args.graph.now c.args.fleet.now c.args.sides.now c.args.pair.0 c.requires.sides (c.is_free.ensures.0 c.if-not-is_free.false)) c.is_cycle-refuted.ensures (ap (λ b. cond b None (Some Cycle)) (sym c.if-refuted.true)) cost (kind.Spent least)

pub returns-then-refuted-clause-sides : goal.returns-then-refuted-clause-sides
returns-then-refuted-clause-sides c = set_back c.args.sides.now c.args.pair.0 c.other.result (c.is_free.ensures.0 c.if-not-is_free.false).1

pub returns-else-refuted-clause-optimal : goal.returns-else-refuted-clause-optimal
returns-else-refuted-clause-optimal c = λ cost. force_judged_by c.args.graph.now c.args.fleet.now c.args.sides.now c.args.pair c.args.side c.args.cycle.now c.is_cycle-refuted.result (Some Cycle) c.other.result c.other.ensures (c.is_free.ensures.0 c.if-not-is_free.false) (open_inside c.args.graph.now c.args.fleet.now c.args.sides.now c.args.pair.0 c.requires.sides (c.is_free.ensures.0 c.if-not-is_free.false)) c.is_cycle-refuted.ensures (ap (λ b. cond b None (Some Cycle)) (sym c.if-refuted.false)) cost kind.Optimal

pub returns-else-refuted-clause-spent : goal.returns-else-refuted-clause-spent
returns-else-refuted-clause-spent c = λ cost least. force_judged_by c.args.graph.now c.args.fleet.now c.args.sides.now c.args.pair c.args.side c.args.cycle.now c.is_cycle-refuted.result (Some Cycle) c.other.result c.other.ensures (c.is_free.ensures.0 c.if-not-is_free.false) (open_inside c.args.graph.now c.args.fleet.now c.args.sides.now c.args.pair.0 c.requires.sides (c.is_free.ensures.0 c.if-not-is_free.false)) c.is_cycle-refuted.ensures (ap (λ b. cond b None (Some Cycle)) (sym c.if-refuted.false)) cost (kind.Spent least)

pub returns-else-refuted-clause-sides : goal.returns-else-refuted-clause-sides
returns-else-refuted-clause-sides c = set_back c.args.sides.now c.args.pair.0 c.other.result (c.is_free.ensures.0 c.if-not-is_free.false).1
