use Rattle.order_choice.proofs.Expanding.{searched_none}
use Rattle.order_choice.proofs.laws.searches_begin.Goals as goal

pub returns : goal.returns
returns c = searched_none
