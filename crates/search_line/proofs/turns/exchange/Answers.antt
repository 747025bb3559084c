use Rattle.search_line.proofs.Turning.{turn, exchanged, restored, removed_one}
use Rattle.search_line.proofs.turns.exchange.Goals as goal

pub returns-in-Ok-clause-exchanged : goal.returns-in-Ok-clause-exchanged
returns-in-Ok-clause-exchanged c = exchanged c.args.turns.now c.add.new.turns c.add-2.new.turns c.remove.new.self (turn c.args.waiting.cost c.args.waiting.number) c.args.lower c.args.higher c.in_ok-add.ensures.added c.in-Ok.ensures.added (removed_one c.add-2.new.turns c.remove.new.self (turn c.args.waiting.cost c.args.waiting.number) c.remove.ensures.updates)

pub returns-in-Err-clause-stays : goal.returns-in-Err-clause-stays
returns-in-Err-clause-stays c = restored c.args.turns.now c.add.new.turns c.add-2.new.turns c.remove-in-Err.new.turns c.args.lower c.requires c.in_ok-add.ensures.added c.in-Err.ensures.stays c.remove-in-Err.ensures
