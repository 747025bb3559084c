use Rattle.fleet_journal.proofs.Measures.{start_says}
use Rattle.fleet_journal.proofs.measure.map_size.Goals as goal

pub returns-clause-size : goal.returns-clause-size
returns-clause-size c = (start_says c.args.head.now _ _ _ c.split_at.ensures.front c.split_at.ensures.back c.if-ne.ensures c.number_of.ensures.bytes, c.number_of.ensures.short)
