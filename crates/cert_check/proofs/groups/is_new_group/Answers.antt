use Rattle.std.specs.Prelude.{Contains, ℕ}
use Rattle.fleet_base.specs.Groups.{AreGrouped}
use Rattle.std.proofs.Common.{reverse}
use Rattle.cert_tree.specs.GroupRules.{branch_pairs}
use Rattle.cert_check.specs.Ways.{way_of}
use Rattle.cert_check.proofs.GroupLaws.{denied}
use Rattle.cert_check.proofs.groups.is_new_group.Goals as goal

pub returns-then-is_in_open_group : goal.returns-then-is_in_open_group
returns-then-is_in_open_group c =
    let d = denied c.is_branched_on.result ((r : ℕ) × Contains (branch_pairs (way_of (reverse c.args.steps.now))) r × AreGrouped c.args.graph.now c.args.q.0 r) (c.is_branched_on.ensures c.args.graph.now c.requires.groups) in
    (λ t. (c.is_in_open_group.ensures.0 c.if-is_in_open_group.true, λ r h j. d.0 t (r, h, j)), λ n. d.1 (λ p. n.1 p.0 p.1 p.2))
