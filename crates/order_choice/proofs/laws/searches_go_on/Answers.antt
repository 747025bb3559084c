use Rattle.order_choice.proofs.Expanding.{searched_more}
use Rattle.order_choice.proofs.laws.searches_go_on.Goals as goal

pub returns : goal.returns
returns c = searched_more
