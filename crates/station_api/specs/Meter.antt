-- How the calls of an object in memory are counted, and which of them are set to fail.
use Rattle.std.specs.Prelude.{◌≡◌, ◌⊎◌, Bool, false, IsTrue, IsErr, Result}
use Rattle.std.specs.List.{Contains}
use Rattle.station_api.specs.Causes.{Counts, counts_of, one_more}
use Rattle.station_api.specs.declared.meter.Meter.{Meter}

-- how often the object has failed, and why
abbrev pub counts_in : Meter → Counts
counts_in meter = counts_of meter.faults meter.starved meter.ready meter.failing.items

-- the next call is set to fail: its number is on the list, or it needs the object to be ready, and it is not
abbrev pub IsSetToFail : Bool → Meter → Type 0
IsSetToFail needs_ready meter = Contains meter.failing.items (one_more meter.calls) ⊎ (IsTrue needs_ready × (meter.ready ≡ false))

-- a call was counted, the list of those that are to fail stays, and one that was set to fail failed
pub record CountsCall {T E : Type 0} (needs_ready : Bool) (old new : Meter) (result : Result T E) : Type 0 where
  pub calls : new.calls ≡ one_more old.calls
  pub failing : new.failing ≡ old.failing
  pub set_to_fail : IsSetToFail needs_ready old → IsErr result
