use Rattle.std.proofs.Common.{arith}
use Rattle.fleet_journal.proofs.Measures.{four_say}
use Rattle.fleet_journal.proofs.measure.number_of.Goals as goal

pub returns-clause-bytes : goal.returns-clause-bytes
returns-clause-bytes c = let said = four_say _ _ c.requires (λ i. omega (arith, c.type_inv.four i)) c.from_be_bytes.ensures in said.0

pub returns-clause-short : goal.returns-clause-short
returns-clause-short c = let said = four_say _ _ c.requires (λ i. omega (arith, c.type_inv.four i)) c.from_be_bytes.ensures in said.1
