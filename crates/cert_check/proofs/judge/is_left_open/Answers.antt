use Rattle.std.proofs.Common.{arith}
use Rattle.std.proofs.lemmas.Bool.{false≢true}
use Rattle.cert_check.proofs.RoundLaws.{has_ticks_kept}
use Rattle.cert_check.proofs.JudgeLaws.{cyclic_not_left, left_is, left_sum, left_free}
use Rattle.cert_check.proofs.judge.is_left_open.Goals as goal
use Rattle.fleet_base.specs.VisitRows.{tick_in}

pub returns-then-not-relax-clause-left : goal.returns-then-not-relax-clause-left
returns-then-not-relax-clause-left c = λ way gives. (λ t. absurd (false≢true t), λ n. absurd (cyclic_not_left c.args.graph.now c.args.fleet.now c.args.sides.now (c.relax.ensures.cyclic c.if-not-relax.true) c.args.cost c.args.least way gives n))

pub end_sum-requires : goal.end_sum-requires
end_sum-requires c = record { ticks = has_ticks_kept c.args.graph.now c.args.ticks.now _ c.requires.ticks c.relax.ensures.rows; bound = c.relax.ensures.bound }

pub returns-then-end_sum-least-clause-left : goal.returns-then-end_sum-least-clause-left
returns-then-end_sum-least-clause-left c = λ way gives. (λ t. absurd (false≢true t), λ n. absurd (let e = left_sum c.args.graph.now c.args.fleet.now c.args.sides.now c.requires.state (tick_in c.relax.new.ticks) (c.relax.ensures.least c.if-not-relax.false) c.args.cost c.args.least way gives n in c.if-end_sum-least.true (omega (arith, c.end_sum.ensures, c.from-least.ensures, e))))

pub returns-clause-left : goal.returns-clause-left
returns-clause-left c = λ way gives. (λ t. left_is c.args.graph.now c.args.fleet.now c.args.sides.now c.requires.state (tick_in c.relax.new.ticks) (c.relax.ensures.least c.if-not-relax.false) c.args.cost c.args.least (omega (arith, c.if-cost-least.false)) (omega (arith, c.end_sum.ensures, c.from-least.ensures, c.if-end_sum-least.false)) way gives (c.has_free.ensures.0 t), λ n. c.has_free.ensures.1 (left_free c.args.graph.now c.args.fleet.now c.args.sides.now c.args.cost c.args.least way gives n))
