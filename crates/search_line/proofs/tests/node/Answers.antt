use Rattle.order_choice.specs.Searching.IsNew.{new_waiting}
use Rattle.search_line.proofs.tests.node.Goals as goal

pub returns : goal.returns
returns c = new_waiting c.args.cost
