use Rattle.std.proofs.Common.{◌≡◌, ℕ, ◌≤◌, List, [], length, refl, sym, subst, rules}
use Rattle.station_api.proofs.Pushed.{torn_same}
use Rattle.station_api.proofs.MemoryDisk.{undone, held_side, held_same, held_undone, step_none, step_same, write_step, write_side, write_held}
use Rattle.station_api.proofs.disk.Disk.write_at.Goals as goal

pub returns-in_err-copy-clause-step : goal.returns-in_err-copy-clause-step
returns-in_err-copy-clause-step c = step_none _ _ (torn_same _ _) _

pub returns-in_err-push-clause-step : goal.returns-in_err-push-clause-step
returns-in_err-push-clause-step c = rw (← c.self.view_is) (step_same _ _ _ _ _ (torn_same _ _) c.in_err-push.ensures.items)

pub returns-in-Err-clause-step : goal.returns-in-Err-clause-step
returns-in-Err-clause-step c =
    let at : c.len-before.result ≡ length c.self.inside.past.items = search rules in
    let is = undone _ _ _ _ _ c.in_ok-push.ensures.items at c.truncate.ensures.items in
    rw (← c.self.view_is) (step_same _ _ _ _ _ (torn_same _ _) is)

pub invariant_of-self : goal.invariant_of-self
invariant_of-self c = held_same _ _ _ c.in_err-push.ensures.items _ _ _ c.self.invariant

pub put_on-requires : goal.put_on-requires
put_on-requires c = subst (λ (l : List ℕ). c.args.at ≤ length l) (sym (held_side c.args.side _ _ _ _ _ [] c.self.invariant)) (rw (← c.self.view_is) at c.requires)

pub invariant_of-self-in-Err : goal.invariant_of-self-in-Err
invariant_of-self-in-Err c =
    let at : c.len-before.result ≡ length c.self.inside.past.items = search rules in
    let is = undone _ _ _ _ _ c.in_ok-push.ensures.items at c.truncate.ensures.items in
    held_undone _ _ _ is _ _ _ _ _ _ c.in-Err.ensures.err.0 c.in-Err.ensures.err.1 refl c.self.invariant

pub invariant_of-self-in_default : goal.invariant_of-self-in_default
invariant_of-self-in_default c =
    let same : c.in_ok-copy.copy.items ≡ c.args.bytes.now = search rules in
    write_held _ _ _ _ _ _ _ _ same c.in_ok-push.ensures.items (rw (← c.self.view_is) at c.requires) _ _ _ _ _ c.self.invariant (c.in_default.ensures.ok _)

pub returns-clause-step : goal.returns-clause-step
returns-clause-step c =
    let same : c.in_ok-copy.copy.items ≡ c.args.bytes.now = search rules in
    rw (← c.self.view_is) (write_step _ _ _ _ _ _ _ _ same c.in_ok-push.ensures.items (rw (← c.self.view_is) at c.requires))

pub returns-clause-written : goal.returns-clause-written
returns-clause-written c =
    let same : c.in_ok-copy.copy.items ≡ c.args.bytes.now = search rules in
    rw (← c.self.view_is) (write_side _ _ _ _ _ _ _ _ same c.in_ok-push.ensures.items (rw (← c.self.view_is) at c.requires))
