use Rattle.std.proofs.Common.{List, reverse, sym, ◌∙◌, subst}
use Rattle.std.proofs.lemmas.Bool.{false≢true}
use Rattle.cert_tree.specs.declared.node.Node.{Node}
use Rattle.cert_tree.specs.GroupRules.{KeepsGroups, IsNewGroup}
use Rattle.cert_check.specs.declared.way.Step.{Step}
use Rattle.cert_check.specs.declared.verdict.NoWhy.TheVariants.{Group}
use Rattle.cert_check.specs.Judging.{IsGroupFault}
use Rattle.cert_check.specs.Ways.{way_of}
use Rattle.cert_check.proofs.groups.judge_group.Goals as goal

pub returns-then-is_new_group-clause-word : goal.returns-then-is_new_group-clause-word
returns-then-is_new_group-clause-word c =
    let new = subst (λ (l : List Step). IsNewGroup c.args.graph.now c.args.fleet.now (way_of (reverse l)) c.in-Branch.pair.0) c.deref.ensures.value (c.is_new_group.ensures.0 c.if-is_new_group.true) in
    subst (λ (n : Node). KeepsGroups c.args.graph.now c.args.fleet.now (way_of (reverse c.args.work.now.way.steps.items)) n) (sym c.in-Branch.is) new

pub returns-else-is_new_group-clause-word : goal.returns-else-is_new_group-clause-word
returns-else-is_new_group-clause-word c =
    subst (λ (n : Node). IsGroupFault c.args.graph.now c.args.fleet.now (way_of (reverse c.args.work.now.way.steps.items)) n Group) (sym c.in-Branch.is)
    (λ n. false≢true (sym c.if-is_new_group.false ∙ c.is_new_group.ensures.1 (subst (λ (l : List Step). IsNewGroup c.args.graph.now c.args.fleet.now (way_of (reverse l)) c.in-Branch.pair.0) (sym c.deref.ensures.value) n)))
