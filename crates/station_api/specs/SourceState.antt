-- What a source in memory is: the bytes that are left, how many the last read took, and how its calls are counted.
use Rattle.std.specs.Prelude.{ℕ, List}
use Rattle.station_api.specs.Causes.{Counts}
use Rattle.station_api.specs.Meter.{counts_in}
use Rattle.station_api.specs.declared.meter.Meter.{Meter}

-- a source in memory
pub record SourceState : Type 0 where
  pub left : List ℕ
  pub last : ℕ
  pub meter : Meter

-- how often it has failed
abbrev pub source_counts : SourceState → Counts
source_counts source = counts_in source.meter

-- the numbers of the calls that are to fail
abbrev pub source_fails_at : SourceState → List ℕ
source_fails_at source = source.meter.failing.items
