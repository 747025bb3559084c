use Rattle.std.proofs.Common.{arith, inl, inr}
use Rattle.std.proofs.lemmas.Bool.{false≢true}
use Rattle.fleet_base.proofs.Edges.{first_there}
use Rattle.plan_graph.proofs.PlanGraphs.{index_within}
use Rattle.cert_check.proofs.RoundLaws.{has_ticks_kept}
use Rattle.fleet_base.specs.declared.order.Side.TheVariants.{Lower, Higher}
use Rattle.fleet_base.specs.VisitRows.{tick_in}
use Rattle.cert_check.proofs.JudgeLaws.{cyclic_not_needed, dear_not_needed, obeyed_not_needed, needed_by, sided}
use Rattle.cert_check.proofs.judge.is_needed.Goals.{then-cost-relaxed-via-then-cost-relaxed, then-cost-relaxed-via-else-cost-relaxed+then-least-relaxed}
use Rattle.cert_check.proofs.judge.is_needed.Goals as goal

pub returns-then-not-relax-clause-needed : goal.returns-then-not-relax-clause-needed
returns-then-not-relax-clause-needed c = λ way gives. (λ t. absurd (false≢true t), λ n. absurd (cyclic_not_needed c.args.graph.now c.args.fleet.now c.args.sides.now (c.relax.ensures.cyclic c.if-not-relax.true) c.args.cost c.args.least way c.args.q.0 gives n))

pub end_sum-relaxed-requires : goal.end_sum-relaxed-requires
end_sum-relaxed-requires c = record { ticks = has_ticks_kept c.args.graph.now c.args.ticks.now _ c.requires.ticks c.relax.ensures.rows; bound = c.relax.ensures.bound }

pub returns-then-cost-relaxed-clause-needed : goal.returns-then-cost-relaxed-clause-needed
returns-then-cost-relaxed-clause-needed c = λ way gives. (λ t. absurd (false≢true t), λ n. absurd (dear_not_needed c.args.graph.now c.args.fleet.now c.args.sides.now c.requires.state (tick_in c.relax.new.ticks) (c.relax.ensures.least c.if-not-relax.false) c.end_sum-relaxed.result c.args.cost c.args.least c.end_sum-relaxed.ensures (elim c.then-cost-relaxed.branch [ then-cost-relaxed-via-then-cost-relaxed w ↦ inl (omega (arith, w.if-cost-relaxed.true, c.from-cost.ensures)) | then-cost-relaxed-via-else-cost-relaxed+then-least-relaxed w ↦ inr (omega (arith, w.if-least-relaxed.true, c.from-least.ensures)) ]) way c.args.q.0 gives n))

pub obeys-requires-clause-ticks : goal.obeys-requires-clause-ticks
obeys-requires-clause-ticks c = has_ticks_kept c.args.graph.now c.args.ticks.now _ c.requires.ticks c.relax.ensures.rows

pub returns-then-obeys-clause-needed : goal.returns-then-obeys-clause-needed
returns-then-obeys-clause-needed c = λ way gives. (λ t. absurd (false≢true t), λ n. absurd (obeyed_not_needed c.args.graph.now c.args.fleet.now c.args.sides.now c.requires.state (tick_in c.relax.new.ticks) (c.relax.ensures.least c.if-not-relax.false) c.pair-pair.result Lower c.args.q.0 c.pair-pair.ensures c.requires.open ((sided c.args.fleet.now (tick_in c.relax.new.ticks) c.pair-pair.result Lower c.edge.result.tail c.edge.result.head c.obeys.result c.edge.ensures.tail c.edge.ensures.head c.obeys.ensures).0 c.if-obeys.true) c.args.cost c.args.least way gives n))

pub obeys-requires-2-clause-ticks : goal.obeys-requires-2-clause-ticks
obeys-requires-2-clause-ticks c = has_ticks_kept c.args.graph.now c.args.ticks.now _ c.requires.ticks c.relax.ensures.rows

pub returns-clause-needed : goal.returns-clause-needed
returns-clause-needed c = λ way gives. needed_by c.args.graph.now c.args.fleet.now c.args.sides.now c.requires.state (tick_in c.relax.new.ticks) (c.relax.ensures.least c.if-not-relax.false) c.pair-pair.result c.args.q.0 c.pair-pair.ensures c.requires.open c.obeys.result c.obeys-2.result c.if-obeys.false (sided c.args.fleet.now (tick_in c.relax.new.ticks) c.pair-pair.result Lower c.edge.result.tail c.edge.result.head c.obeys.result c.edge.ensures.tail c.edge.ensures.head c.obeys.ensures) (sided c.args.fleet.now (tick_in c.relax.new.ticks) c.pair-pair.result Higher c.edge-2.result.tail c.edge-2.result.head c.obeys-2.result c.edge-2.ensures.tail c.edge-2.ensures.head c.obeys-2.ensures) c.args.cost c.args.least (omega (arith, c.end_sum-relaxed.ensures, c.if-cost-relaxed.false, c.from-cost.ensures)) (omega (arith, c.end_sum-relaxed.ensures, c.if-least-relaxed.false, c.from-least.ensures)) way gives

pub edge-requires : goal.edge-requires
edge-requires c = omega (arith, index_within _ c.robots-within.ensures.limits _ (first_there _ _ c.pair-pair.result Lower c.robots-within.ensures.graph c.pair-pair.ensures))

pub edge-requires-2 : goal.edge-requires-2
edge-requires-2 c = omega (arith, index_within _ c.robots-within.ensures.limits _ (first_there _ _ c.pair-pair.result Higher c.robots-within.ensures.graph c.pair-pair.ensures))
