use Rattle.std.proofs.Common.{sym, ◌∙◌}
use Rattle.edge_groups.proofs.Agreeing.{group_agrees}
use Rattle.edge_groups.proofs.laws.a_closed_pair_settles_its_group.Goals as goal

pub returns : goal.returns
returns c = λ g x order q r sound keeps closed together. sym (group_agrees g order sound q r together) ∙ keeps q closed
