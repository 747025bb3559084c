use Rattle.station_api.proofs.mem_station.MemStation.sent.Goals as goal

pub returns : goal.returns
returns c = rw (← c.self.view_is) c.sent.ensures
