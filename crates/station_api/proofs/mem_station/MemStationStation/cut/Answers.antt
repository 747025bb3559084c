use Rattle.std.proofs.Common.{refl}
use Rattle.station_api.proofs.Pushed.{shortened_same}
use Rattle.station_api.proofs.MemoryDisk.{step_none}
use Rattle.station_api.proofs.StationCalls.{starved_call}
use Rattle.station_api.proofs.mem_station.MemStationStation.cut.Goals as goal

pub returns-in_err-begin-clause-step : goal.returns-in_err-begin-clause-step
returns-in_err-begin-clause-step c = rw (← c.self.view_is) (step_none _ _ (shortened_same _) _)

pub cut-requires : goal.cut-requires
cut-requires c = rw (← c.self.view_is) at c.requires

pub returns-in-Err-clause-step : goal.returns-in-Err-clause-step
returns-in-Err-clause-step c = rw (← c.self.view_is) c.in-Err.ensures.step

pub returns-in-Err-clause-call : goal.returns-in-Err-clause-call
returns-in-Err-clause-call c =
    let begun = c.in_ok-begin.ensures in
    rw (← c.self.view_is) (starved_call _ _ _ _ _ begun.calls begun.failing begun.starved begun.no_fault (λ set. begun.fails.1 set) c.starve.ensures.counts c.in-Err.ensures.err refl)

pub returns-clause-step : goal.returns-clause-step
returns-clause-step c = rw (← c.self.view_is) c.in_default.ensures.step

pub returns-clause-shortened : goal.returns-clause-shortened
returns-clause-shortened c = rw (← c.self.view_is) c.in_default.ensures.shortened
