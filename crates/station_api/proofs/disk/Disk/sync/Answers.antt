use Rattle.station_api.proofs.MemoryDisk.{held_same, quiet_same, sync_held, sync_quiet, sync_synced}
use Rattle.station_api.proofs.disk.Disk.sync.Goals as goal

pub returns-in_err-push-clause-quiet : goal.returns-in_err-push-clause-quiet
returns-in_err-push-clause-quiet c = rw (← c.self.view_is) (quiet_same _ _ _ c.in_err-push.ensures.items)

pub invariant_of-self : goal.invariant_of-self
invariant_of-self c = held_same _ _ _ c.in_err-push.ensures.items _ _ _ c.self.invariant

pub invariant_of-self-2 : goal.invariant_of-self-2
invariant_of-self-2 c = sync_held _ _ _ _ _ c.in_ok-push.ensures.items _ _ _ c.self.invariant

pub returns-clause-quiet : goal.returns-clause-quiet
returns-clause-quiet c = rw (← c.self.view_is) (sync_quiet _ _ _ _ _ c.in_ok-push.ensures.items)

pub returns-clause-synced : goal.returns-clause-synced
returns-clause-synced c = sync_synced _ _ _ _ _ c.in_ok-push.ensures.items
