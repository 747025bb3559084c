use Rattle.std.proofs.Common.{◌∙◌}
use Rattle.station_api.proofs.disk.Disk.sent.Goals as goal

pub returns : goal.returns
returns c = rw (← c.self.view_is) (c.deref.ensures.value ∙ c.self.invariant.sent_is)
