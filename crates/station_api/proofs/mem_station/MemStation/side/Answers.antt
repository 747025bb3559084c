use Rattle.station_api.proofs.mem_station.MemStation.side.Goals as goal

pub returns : goal.returns
returns c = rw (← c.self.view_is) c.side.ensures
