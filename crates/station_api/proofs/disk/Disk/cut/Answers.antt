use Rattle.station_api.proofs.Pushed.{shortened_same}
use Rattle.station_api.proofs.MemoryDisk.{held_same, step_same, cut_step, cut_side, cut_held}
use Rattle.station_api.proofs.disk.Disk.cut.Goals as goal

pub returns-in_err-push-clause-step : goal.returns-in_err-push-clause-step
returns-in_err-push-clause-step c = rw (← c.self.view_is) (step_same _ _ _ _ _ (shortened_same _) c.in_err-push.ensures.items)

pub invariant_of-self : goal.invariant_of-self
invariant_of-self c = held_same _ _ _ c.in_err-push.ensures.items _ _ _ c.self.invariant

pub invariant_of-self-2 : goal.invariant_of-self-2
invariant_of-self-2 c = cut_held _ _ _ _ _ _ c.in_ok-push.ensures.items _ _ _ _ _ c.self.invariant (c.cut_on.ensures _)

pub returns-clause-step : goal.returns-clause-step
returns-clause-step c = rw (← c.self.view_is) (cut_step _ _ _ _ _ _ c.in_ok-push.ensures.items)

pub returns-clause-shortened : goal.returns-clause-shortened
returns-clause-shortened c = rw (← c.self.view_is) (cut_side _ _ _ _ _ _ c.in_ok-push.ensures.items)
