use Rattle.std.proofs.Common.{length, ap}
use Rattle.station_api.proofs.Moments.{quiet_self}
use Rattle.station_api.proofs.mem_station.MemStationStation.length.Goals as goal

pub returns-in_err-begin-clause-quiet : goal.returns-in_err-begin-clause-quiet
returns-in_err-begin-clause-quiet c = rw (← c.self.view_is) (quiet_self _)

pub returns-clause-quiet : goal.returns-clause-quiet
returns-clause-quiet c = rw (← c.self.view_is) (quiet_self _)

pub returns-clause-length : goal.returns-clause-length
returns-clause-length c = rw (← c.self.view_is) (ap length c.side.ensures)
