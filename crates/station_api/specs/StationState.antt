-- What a station in memory is: its past, how its calls are counted, and how many bytes a send takes at most.
use Rattle.std.specs.Prelude.{◌≡◌, ◌⊎◌, ℕ, Bool, List, IsOk, IsErr, Result}
use Rattle.station_api.specs.Scene.{Scene}
use Rattle.station_api.specs.Clock.{Clock}
use Rattle.station_api.specs.Causes.{Counts, one_more}
use Rattle.station_api.specs.Meter.{counts_in, IsSetToFail, CountsCall}
use Rattle.station_api.specs.Past.{Past, past_clock, past_stopped}
use Rattle.station_api.specs.declared.meter.Meter.{Meter}

-- a station in memory
pub record StationState : Type 0 where
  pub past : Past
  pub meter : Meter
  pub most : ℕ

-- what it holds, and what a stop may leave
abbrev pub station_clock : StationState → Clock
station_clock station = past_clock station.past

-- how often it has failed
abbrev pub station_counts : StationState → Counts
station_counts station = counts_in station.meter

-- how many calls there were
abbrev pub calls_of : StationState → ℕ
calls_of station = station.meter.calls

-- the numbers of the calls that are to fail
abbrev pub fails_at : StationState → List ℕ
fails_at station = station.meter.failing.items

-- whether an attach has answered Ok
abbrev pub is_attached : StationState → Bool
is_attached station = station.meter.ready

-- what a stop after some calls leaves, where the first of the bytes not synced are kept, and the others hold a filler
abbrev pub station_stopped : StationState → ℕ → ℕ → ℕ → Scene
station_stopped station calls kept filler = past_stopped station.past calls kept filler

-- One call: it is counted, it fails where it is set to fail or finds no memory, and a fault changes nothing but the counts, each by one.
-- A call on a side is set to fail also before an attach that answered Ok.
pub record IsCall {T E : Type 0} (on_side : Bool) (old new : StationState) (result : Result T E) : Type 0 where
  pub counted : CountsCall on_side old.meter new.meter result
  pub only : IsErr result → IsSetToFail on_side old.meter ⊎ (new.meter.starved ≡ one_more old.meter.starved)
  pub one_fault : IsErr result → new.meter.faults ≡ one_more old.meter.faults
  pub no_want : IsSetToFail on_side old.meter → new.meter.starved ≡ old.meter.starved
  pub no_fault : IsOk result → (new.meter.faults ≡ old.meter.faults) × (new.meter.starved ≡ old.meter.starved)
  pub unchanged : IsErr result → new.past ≡ old.past
  pub most : new.most ≡ old.most
