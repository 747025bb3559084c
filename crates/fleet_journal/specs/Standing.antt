-- Where a journal stands.
use Rattle.std.specs.Prelude.{ℕ}
use Rattle.station_api.specs.declared.station.DiskSide.{DiskSide}

-- the place of a gate on a side, and how many entries lie before it
pub record Standing : Type 0 where
  pub side : DiskSide
  pub place : ℕ
  pub passed : ℕ
