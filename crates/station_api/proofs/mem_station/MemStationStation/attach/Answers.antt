use Rattle.station_api.proofs.Moments.{quiet_self}
use Rattle.station_api.proofs.mem_station.MemStationStation.attach.Goals as goal

pub returns-then-is_err-clause-quiet : goal.returns-then-is_err-clause-quiet
returns-then-is_err-clause-quiet c = rw (← c.self.view_is) (quiet_self _)

pub returns-clause-quiet : goal.returns-clause-quiet
returns-clause-quiet c = rw (← c.self.view_is) (quiet_self _)
