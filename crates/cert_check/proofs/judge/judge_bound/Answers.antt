use Rattle.std.proofs.Common.{arith}
use Rattle.cert_check.specs.declared.judge.Kind.TheVariants as kind
use Rattle.cert_check.proofs.JudgeLaws.{bound_no_path, bound_short, bound_long}
use Rattle.cert_check.proofs.judge.judge_bound.Goals as goal

pub returns-in_default-clause-optimal : goal.returns-in_default-clause-optimal
returns-in_default-clause-optimal c = bound_no_path c.args.graph.now c.args.fleet.now c.args.sides.now c.args.paths.now c.in_default.ensures.none c.args.cost kind.Optimal

pub returns-in_default-clause-spent : goal.returns-in_default-clause-spent
returns-in_default-clause-spent c = λ least. bound_no_path c.args.graph.now c.args.fleet.now c.args.sides.now c.args.paths.now c.in_default.ensures.none c.args.cost (kind.Spent least)

pub returns-then-total-cost-clause-optimal : goal.returns-then-total-cost-clause-optimal
returns-then-total-cost-clause-optimal c = bound_short c.args.graph.now c.args.fleet.now c.args.sides.now c.args.paths.now c.in-Some.total c.args.cost c.in-Some.ensures.some.0 c.in-Some.ensures.some.1 (omega (arith, c.if-total-cost.true, c.from-cost.ensures)) kind.Optimal

pub returns-then-total-cost-clause-spent : goal.returns-then-total-cost-clause-spent
returns-then-total-cost-clause-spent c = λ least. bound_short c.args.graph.now c.args.fleet.now c.args.sides.now c.args.paths.now c.in-Some.total c.args.cost c.in-Some.ensures.some.0 c.in-Some.ensures.some.1 (omega (arith, c.if-total-cost.true, c.from-cost.ensures)) (kind.Spent least)

pub returns-else-total-cost-clause-optimal : goal.returns-else-total-cost-clause-optimal
returns-else-total-cost-clause-optimal c = bound_long c.args.graph.now c.args.fleet.now c.args.sides.now c.args.paths.now c.in-Some.total c.args.cost c.in-Some.ensures.some.0 c.in-Some.ensures.some.1 (omega (arith, c.if-total-cost.false, c.from-cost.ensures)) kind.Optimal

pub returns-else-total-cost-clause-spent : goal.returns-else-total-cost-clause-spent
returns-else-total-cost-clause-spent c = λ least. bound_long c.args.graph.now c.args.fleet.now c.args.sides.now c.args.paths.now c.in-Some.total c.args.cost c.in-Some.ensures.some.0 c.in-Some.ensures.some.1 (omega (arith, c.if-total-cost.false, c.from-cost.ensures)) (kind.Spent least)
