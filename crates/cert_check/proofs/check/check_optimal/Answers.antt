use Rattle.std.proofs.Common.{List, subst}
use Rattle.cert_tree.specs.declared.node.Node.{Node}
use Rattle.cert_check.specs.declared.judge.Kind.TheVariants as kind
use Rattle.cert_check.specs.Verdicts.{IsFirstFault, Fits, IsOptimalFault, IsNoFault}
use Rattle.cert_check.specs.Judging.{IsWhole}
use Rattle.cert_check.proofs.ThroughLaws.{optimal_tree, optimal_shows}
use Rattle.cert_check.proofs.check.check_optimal.Goals as goal

pub returns-in-Some-clause-verdict : goal.returns-in-Some-clause-verdict
returns-in-Some-clause-verdict c = subst (λ (ns : List Node). IsFirstFault (Fits (IsOptimalFault c.args.graph.now c.args.fleet.now c.args.cost) IsNoFault ns) c.in-Some.node c.in-Some.why) c.as_slice-nodes.ensures (c.in-Some.ensures.some 0)

pub returns-in-None-clause-verdict : goal.returns-in-None-clause-verdict
returns-in-None-clause-verdict c = optimal_tree c.args.graph.now c.args.fleet.now c.args.cost c.args.cert.now (subst (λ (ns : List Node). IsWhole c.args.graph.now c.args.fleet.now c.args.cost kind.Optimal ns) c.as_slice-nodes.ensures c.in-None.ensures.none)

pub returns-in-None-clause-bound : goal.returns-in-None-clause-bound
returns-in-None-clause-bound c = λ yes. optimal_shows c.args.graph.now c.args.fleet.now c.args.cost c.args.cert.now c.requires.state (subst (λ (ns : List Node). IsWhole c.args.graph.now c.args.fleet.now c.args.cost kind.Optimal ns) c.as_slice-nodes.ensures c.in-None.ensures.none)
