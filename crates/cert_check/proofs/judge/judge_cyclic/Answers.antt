use Rattle.std.proofs.Common.{None, Some, cond, sym, ap}
use Rattle.cert_check.specs.declared.judge.Kind.TheVariants as kind
use Rattle.cert_check.specs.declared.verdict.NoWhy.TheVariants.{Cycle}
use Rattle.cert_check.proofs.JudgeLaws.{cyclic_judged}
use Rattle.cert_check.proofs.judge.judge_cyclic.Goals as goal

pub returns-then-is_cycle-clause-optimal : goal.returns-then-is_cycle-clause-optimal
returns-then-is_cycle-clause-optimal c = λ cost. cyclic_judged c.args.graph.now c.args.fleet.now c.args.sides.now c.args.cycle.now c.is_cycle.result None c.is_cycle.ensures (ap (λ b. cond b None (Some Cycle)) (sym c.if-is_cycle.true)) cost kind.Optimal

pub returns-then-is_cycle-clause-spent : goal.returns-then-is_cycle-clause-spent
returns-then-is_cycle-clause-spent c = λ cost least. cyclic_judged c.args.graph.now c.args.fleet.now c.args.sides.now c.args.cycle.now c.is_cycle.result None c.is_cycle.ensures (ap (λ b. cond b None (Some Cycle)) (sym c.if-is_cycle.true)) cost (kind.Spent least)

pub returns-else-is_cycle-clause-optimal : goal.returns-else-is_cycle-clause-optimal
returns-else-is_cycle-clause-optimal c = λ cost. cyclic_judged c.args.graph.now c.args.fleet.now c.args.sides.now c.args.cycle.now c.is_cycle.result (Some Cycle) c.is_cycle.ensures (ap (λ b. cond b None (Some Cycle)) (sym c.if-is_cycle.false)) cost kind.Optimal

pub returns-else-is_cycle-clause-spent : goal.returns-else-is_cycle-clause-spent
returns-else-is_cycle-clause-spent c = λ cost least. cyclic_judged c.args.graph.now c.args.fleet.now c.args.sides.now c.args.cycle.now c.is_cycle.result (Some Cycle) c.is_cycle.ensures (ap (λ b. cond b None (Some Cycle)) (sym c.if-is_cycle.false)) cost (kind.Spent least)
