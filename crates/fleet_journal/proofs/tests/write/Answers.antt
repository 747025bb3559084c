use Rattle.std.proofs.Common.{[]}
use Rattle.fleet_journal.proofs.tests.write.Goals as goal

pub append-requires-clause-stands : goal.append-requires-clause-stands
append-requires-clause-stands g c told = (c.requires.header.0, [], c.in_ok-journal.ensures.stands told c.requires.header.0 c.requires.header.1)
