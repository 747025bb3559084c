use Rattle.station_api.proofs.mem_station.MemStation.stopped.Goals as goal

pub returns-clause-left : goal.returns-clause-left
returns-clause-left c = rw (← c.self.view_is) c.in-Ok.ensures.left
