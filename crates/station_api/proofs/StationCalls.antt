-- What a call of a station in memory is where the device found no memory for it.
use Rattle.std.proofs.Common.{◌≡◌, inr, Bool, true, false, Err, refl, ◌∙◌, ap}
use Rattle.station_api.specs.Causes.{one_more}
use Rattle.station_api.specs.Meter.{IsSetToFail}
use Rattle.station_api.specs.StationState.{StationState, IsCall}
use Rattle.station_api.specs.declared.meter.Meter.{Meter}
use Rattle.station_api.specs.declared.station.Failed.{Failed}

-- a call that was begun, and then found no memory
pub starved_call : {T : Type 0} (on_side : Bool) (old new : StationState) (begun : Meter) (fault : Failed)
    → begun.calls ≡ one_more old.meter.calls → begun.failing ≡ old.meter.failing → begun.starved ≡ old.meter.starved → begun.faults ≡ old.meter.faults → (IsSetToFail on_side old.meter → false ≡ true)
    → new.meter ≡ record begun { faults = one_more begun.faults; starved = one_more begun.starved } → new.past ≡ old.past → new.most ≡ old.most
    → IsCall {T = T} {E = Failed} on_side old new (Err fault)
starved_call on_side old new begun fault calls failing starved faults not_set is past most = record {
  counted = record {
    calls = ap (λ (m : Meter). m.calls) is ∙ calls;
    failing = ap (λ (m : Meter). m.failing) is ∙ failing;
    set_to_fail = λ set. refl;
  };
  only = λ err. inr (ap (λ (m : Meter). m.starved) is ∙ ap one_more starved);
  one_fault = λ err. ap (λ (m : Meter). m.faults) is ∙ ap one_more faults;
  no_want = λ set. absurd (let no = not_set set in cc);
  no_fault = λ ok. absurd (cc);
  unchanged = λ err. past;
  most = most;
}
