use Rattle.fleet_base.specs.declared.pairs.PairTable.TheInside.{Inside}
use Rattle.fleet_base.specs.PairLists.{ArePairs, AreNumbers}

-- the pairs are those of a plan, and the numbers are kept for each visit
pub record IsPairTable (t : Inside) : Type 0 where
  pub pairs : ArePairs t.pairs
  pub numbers : AreNumbers t.numbers.items t.pairs
