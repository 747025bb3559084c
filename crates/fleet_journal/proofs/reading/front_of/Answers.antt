use Rattle.std.proofs.Common.{arith}
use Rattle.fleet_journal.proofs.Pieces.{says}
use Rattle.fleet_journal.proofs.reading.front_of.Goals as goal

pub returns : goal.returns
returns c = says _ _ _ c.requires (λ i. omega (arith, c.type_inv.bytes i)) c.from_be_bytes.ensures
