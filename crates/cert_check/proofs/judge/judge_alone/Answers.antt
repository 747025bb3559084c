use Rattle.std.proofs.Common.{subst, ◌≡◌}
use Rattle.cert_tree.specs.declared.node.Node.{Node}
use Rattle.cert_tree.specs.declared.node.Node.TheVariants.{Force, Cyclic}
use Rattle.cert_check.specs.Judging.{IsJudged}
use Rattle.cert_check.proofs.JudgeLaws.{of_kind}
use Rattle.cert_check.proofs.judge.judge_alone.Goals as goal

pub returns-in-Force-clause-word : goal.returns-in-Force-clause-word
returns-in-Force-clause-word c =
    let a = c.in-Force.is in
    let b = c.as_slice.ensures in
    let e : Force c.in-Force.pair c.in-Force.side c.as_slice.result.now ≡ c.args.node.now = cc in
    subst (λ (n : Node). IsJudged c.args.graph.now c.args.fleet.now c.args.cost c.args.kind c.args.sides.now n c.judge_force.result) e
    (of_kind (λ k. IsJudged c.args.graph.now c.args.fleet.now c.args.cost k c.args.sides.now (Force c.in-Force.pair c.in-Force.side c.as_slice.result.now) c.judge_force.result) (c.judge_force.ensures.optimal c.args.cost) (c.judge_force.ensures.spent c.args.cost) c.args.kind)

pub returns-in-Cyclic-clause-word : goal.returns-in-Cyclic-clause-word
returns-in-Cyclic-clause-word c =
    let a = c.in-Cyclic.is in
    let b = c.as_slice-in-Cyclic.ensures in
    let e : Cyclic c.as_slice-in-Cyclic.result.now ≡ c.args.node.now = cc in
    subst (λ (n : Node). IsJudged c.args.graph.now c.args.fleet.now c.args.cost c.args.kind c.args.sides.now n c.judge_cyclic.result) e
    (of_kind (λ k. IsJudged c.args.graph.now c.args.fleet.now c.args.cost k c.args.sides.now (Cyclic c.as_slice-in-Cyclic.result.now) c.judge_cyclic.result) (c.judge_cyclic.ensures.optimal c.args.cost) (c.judge_cyclic.ensures.spent c.args.cost) c.args.kind)
