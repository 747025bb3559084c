use Rattle.std.proofs.Common.{refl}
use Rattle.station_api.proofs.Pushed.{torn_same}
use Rattle.station_api.proofs.MemoryDisk.{step_none}
use Rattle.station_api.proofs.StationCalls.{starved_call}
use Rattle.station_api.proofs.mem_station.MemStationStation.write_at.Goals as goal

pub returns-in_err-begin-clause-step : goal.returns-in_err-begin-clause-step
returns-in_err-begin-clause-step c = rw (← c.self.view_is) (step_none _ _ (torn_same _ _) _)

pub write_at-requires : goal.write_at-requires
write_at-requires c = rw (← c.self.view_is) at c.requires

pub returns-in-Err-clause-step : goal.returns-in-Err-clause-step
returns-in-Err-clause-step c = rw (← c.self.view_is) c.in-Err.ensures.step

pub returns-in-Err-clause-call : goal.returns-in-Err-clause-call
returns-in-Err-clause-call c =
    let begun = c.in_ok-begin.ensures in
    rw (← c.self.view_is) (starved_call _ _ _ _ _ begun.calls begun.failing begun.starved begun.no_fault (λ set. begun.fails.1 set) c.starve.ensures.counts c.in-Err.ensures.err refl)

pub returns-clause-step : goal.returns-clause-step
returns-clause-step c = rw (← c.self.view_is) c.in_default.ensures.step

pub returns-clause-written : goal.returns-clause-written
returns-clause-written c = rw (← c.self.view_is) c.in_default.ensures.written
