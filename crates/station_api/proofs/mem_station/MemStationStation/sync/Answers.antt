use Rattle.std.proofs.Common.{refl}
use Rattle.station_api.proofs.Moments.{quiet_self}
use Rattle.station_api.proofs.StationCalls.{starved_call}
use Rattle.station_api.proofs.mem_station.MemStationStation.sync.Goals as goal

pub returns-in_err-begin-clause-quiet : goal.returns-in_err-begin-clause-quiet
returns-in_err-begin-clause-quiet c = rw (← c.self.view_is) (quiet_self _)

pub returns-in-Err-clause-quiet : goal.returns-in-Err-clause-quiet
returns-in-Err-clause-quiet c = rw (← c.self.view_is) c.in-Err.ensures.quiet

pub returns-in-Err-clause-call : goal.returns-in-Err-clause-call
returns-in-Err-clause-call c =
    let begun = c.in_ok-begin.ensures in
    rw (← c.self.view_is) (starved_call _ _ _ _ _ begun.calls begun.failing begun.starved begun.no_fault (λ set. begun.fails.1 set) c.starve.ensures.counts c.in-Err.ensures.err refl)

pub returns-clause-quiet : goal.returns-clause-quiet
returns-clause-quiet c = rw (← c.self.view_is) c.in_default.ensures.quiet
