use Rattle.std.proofs.Common.{◌≡◌, length, refl, rules}
use Rattle.std.proofs.lemmas.Result.{err_from_is_err_and}
use Rattle.station_api.proofs.MemoryDisk.{undone, held_same, held_undone, sent_same, sending_none, sending_same, send_sending, send_sent, send_held}
use Rattle.station_api.proofs.disk.Disk.send.Goals as goal

pub returns-in_err-copy-clause-sending : goal.returns-in_err-copy-clause-sending
returns-in_err-copy-clause-sending c = sending_none _

pub returns-in_err-push-clause-sending : goal.returns-in_err-push-clause-sending
returns-in_err-push-clause-sending c = rw (← c.self.view_is) (sending_same _ _ _ c.in_err-push.ensures.items)

pub returns-in-Err-clause-sending : goal.returns-in-Err-clause-sending
returns-in-Err-clause-sending c =
    let at : c.len-before.result ≡ length c.self.inside.past.items = search rules in
    let is = undone _ _ _ _ _ c.in_ok-push.ensures.items at c.truncate.ensures.items in
    rw (← c.self.view_is) (sending_same _ _ _ is)

pub invariant_of-self : goal.invariant_of-self
invariant_of-self c = held_same _ _ _ c.in_err-push.ensures.items _ _ _ c.self.invariant

pub invariant_of-self-in-Err : goal.invariant_of-self-in-Err
invariant_of-self-in-Err c =
    let at : c.len-before.result ≡ length c.self.inside.past.items = search rules in
    let is = undone _ _ _ _ _ c.in_ok-push.ensures.items at c.truncate.ensures.items in
    held_undone _ _ _ is _ _ _ _ _ _ refl refl c.in-Err.ensures.items c.self.invariant

pub invariant_of-self-in_default : goal.invariant_of-self-in_default
invariant_of-self-in_default c =
    let same : c.in_ok-copy.copy.items ≡ c.args.bytes.now = search rules in
    send_held _ _ _ _ _ _ same c.in_ok-push.ensures.items _ _ _ _ c.self.invariant c.in_default.ensures.items

pub returns-in_err-push-clause-none : goal.returns-in_err-push-clause-none
returns-in_err-push-clause-none c =
    let p = err_from_is_err_and c.from_residual-in_err-push.result c.from_residual-in_err-push.ensures.1 in
    rw (← c.self.view_is, p.1) (sent_same _ _ _ c.in_err-push.ensures.items)

pub returns-in-Err-clause-none : goal.returns-in-Err-clause-none
returns-in-Err-clause-none c =
    let at : c.len-before.result ≡ length c.self.inside.past.items = search rules in
    let is = undone _ _ _ _ _ c.in_ok-push.ensures.items at c.truncate.ensures.items in
    rw (← c.self.view_is) (sent_same _ _ _ is)

pub returns-clause-sent : goal.returns-clause-sent
returns-clause-sent c =
    let same : c.in_ok-copy.copy.items ≡ c.args.bytes.now = search rules in
    rw (← c.self.view_is) (send_sent _ _ _ _ _ _ same c.in_ok-push.ensures.items)

pub returns-clause-sending : goal.returns-clause-sending
returns-clause-sending c =
    let same : c.in_ok-copy.copy.items ≡ c.args.bytes.now = search rules in
    rw (← c.self.view_is) (send_sending _ _ _ _ _ _ same c.in_ok-push.ensures.items)
