use Rattle.std.proofs.Common.{◌∙◌}
use Rattle.station_api.proofs.disk.Disk.side.Goals as goal

pub returns-in-A : goal.returns-in-A
returns-in-A c = rw (← c.self.view_is, c.in-A.is) (c.deref.ensures.value ∙ c.self.invariant.a_is)

pub returns-in-B : goal.returns-in-B
returns-in-B c = rw (← c.self.view_is, c.in-B.is) (c.deref-in-B.ensures.value ∙ c.self.invariant.b_is)
