use Rattle.station_api.proofs.Moments.{quiet_self}
use Rattle.station_api.proofs.mem_station.MemStationStation.read.Goals as goal

pub returns-in_err-begin-clause-quiet : goal.returns-in_err-begin-clause-quiet
returns-in_err-begin-clause-quiet c = rw (← c.self.view_is) (quiet_self _)

pub returns-clause-quiet : goal.returns-clause-quiet
returns-clause-quiet c = rw (← c.self.view_is) (quiet_self _)

pub returns-clause-bytes : goal.returns-clause-bytes
returns-clause-bytes c = rw (← c.self.view_is, ← c.side.ensures) c.fill.ensures
