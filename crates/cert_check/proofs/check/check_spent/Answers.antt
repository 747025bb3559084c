use Rattle.std.proofs.Common.{List, length, subst}
use Rattle.cert_tree.specs.declared.node.Node.{Node}
use Rattle.cert_check.specs.declared.judge.Kind.TheVariants as kind
use Rattle.cert_check.specs.Verdicts.{IsFirstFault, Fits, IsSpentFault, IsSpentWholeFault}
use Rattle.cert_check.specs.Judging.{IsWhole, IsWholeRight}
use Rattle.cert_check.proofs.ThroughLaws.{spent_tree, spent_shows, spent_fails}
use Rattle.cert_check.proofs.check.check_spent.Goals as goal

pub returns-in-Some-clause-verdict : goal.returns-in-Some-clause-verdict
returns-in-Some-clause-verdict c = subst (λ (ns : List Node). IsFirstFault (Fits (IsSpentFault c.args.graph.now c.args.fleet.now c.args.cost c.args.least) (IsSpentWholeFault c.args.least c.args.budget ns) ns) c.in-Some.node c.in-Some.why) c.as_slice-nodes.ensures (c.in-Some.ensures.some c.args.budget)

pub returns-in-Some-whole_fault-clause-verdict : goal.returns-in-Some-whole_fault-clause-verdict
returns-in-Some-whole_fault-clause-verdict c = subst (λ (ns : List Node). IsFirstFault (Fits (IsSpentFault c.args.graph.now c.args.fleet.now c.args.cost c.args.least) (IsSpentWholeFault c.args.least c.args.budget ns) ns) (length c.as_slice-nodes.result.now) c.in-Some-whole_fault.why) c.as_slice-nodes.ensures (spent_fails c.args.graph.now c.args.fleet.now c.args.cost c.as_slice-nodes.result.now c.args.least c.args.budget c.in_default.ensures.none c.in-Some-whole_fault.why c.in-Some-whole_fault.ensures.0 c.in-Some-whole_fault.ensures.1)

pub returns-in-None-clause-verdict : goal.returns-in-None-clause-verdict
returns-in-None-clause-verdict c = spent_tree c.args.graph.now c.args.fleet.now c.args.cost c.args.cert.now c.args.least c.args.budget (subst (λ (ns : List Node). IsWhole c.args.graph.now c.args.fleet.now c.args.cost (kind.Spent c.args.least) ns) c.as_slice-nodes.ensures c.in_default.ensures.none) (subst (λ (ns : List Node). IsWholeRight c.args.least c.args.budget ns) c.as_slice-nodes.ensures c.in-None.ensures)

pub returns-in-None-clause-bound : goal.returns-in-None-clause-bound
returns-in-None-clause-bound c = λ yes. spent_shows c.args.graph.now c.args.fleet.now c.args.cost c.args.cert.now c.args.least c.args.budget (subst (λ (ns : List Node). IsWhole c.args.graph.now c.args.fleet.now c.args.cost (kind.Spent c.args.least) ns) c.as_slice-nodes.ensures c.in_default.ensures.none) c.requires.state (subst (λ (ns : List Node). IsWholeRight c.args.least c.args.budget ns) c.as_slice-nodes.ensures c.in-None.ensures)
