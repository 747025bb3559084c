use Rattle.cert_tree.proofs.Branches.{spent_within_groups}
use Rattle.order_choice.proofs.laws.large_budgets_end_optimal.Goals as goal

pub returns : goal.returns
returns c = λ g x budget cost least order cert groups are chosen. spent_within_groups g x groups cost least budget chosen.shown.tree are chosen.shown.right chosen.shown.grouped
