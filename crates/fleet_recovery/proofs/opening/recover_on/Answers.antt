use Rattle.std.proofs.Common.{refl, inl, inr}
use Rattle.station_api.proofs.Moments.{kept_quiet}
use Rattle.fleet_recovery.specs.Papers.{new_header}
use Rattle.station_api.proofs.Moments.{quiet_on}
use Rattle.fleet_recovery.proofs.Replays.{told_on}
use Rattle.fleet_recovery.specs.Opening.{anew}
use Rattle.fleet_recovery.proofs.Opens.{ends_at, opens_again, unless, unless_also, making, new_rests, finishing, rests, not_blank, stands_at, looked_blank, looked_live, made_now, finished_now, made_still, finished_still, synced_quiet, synced_run}
use Rattle.fleet_recovery.proofs.opening.recover_on.Goals.{in-None+in_ok-journal-in-None, in-Some+in_ok-journal-in-Some}
use Rattle.fleet_recovery.proofs.opening.recover_on.Goals as goal

pub returns-in_err-fleet-clause-stays : goal.returns-in_err-fleet-clause-stays
returns-in_err-fleet-clause-stays g c told =
    told_on _ c.from_residual-in_err-fleet.result c.in_err-fleet.field-0.0 _ c.from_residual-in_err-fleet.ensures.1
    (unless _ c.in_err-fleet.field-0.0 (quiet_on _ _ _ (c.sync_both.ensures.quiet told) (c.look_on.ensures.quiet told)))

pub returns-in_err-journal-in-None-clause-stays : goal.returns-in_err-journal-in-None-clause-stays
returns-in_err-journal-in-None-clause-stays g c told =
    told_on _ c.from_residual-in_err-journal-in-None.result c.in_err-journal-in-None.field-0.0 _ c.from_residual-in_err-journal-in-None.ensures.1
    (unless_also _ _ c.in_err-journal-in-None.field-0.0 (λ same. quiet_on _ _ _ (quiet_on _ _ _ (c.sync_both.ensures.quiet told) (c.look_on.ensures.quiet told)) same) (c.in_err-journal-in-None.ensures.stays told))

pub returns-in_err-journal-in-None-clause-any_moment :
    goal.returns-in_err-journal-in-None-clause-any_moment
returns-in_err-journal-in-None-clause-any_moment g c told =
    let quiet = quiet_on _ _ _ (c.sync_both.ensures.quiet told) (c.look_on.ensures.quiet told) in
    let at = looked_blank _ _ _ _ _ _ _ (c.sync_both.ensures.quiet told).seen c.in-None.is (c.in_ok-fleet.ensures.found told) in
    making _ _ _ _ quiet _ at.0 at.1 (new_header c.args.map.now c.args.text.now) refl _ (c.make.ensures.any_moment told (kept_quiet _ _ (c.look_on.ensures.quiet told) (c.in_ok-sync_both.ensures.kept told)))

pub returns-in_err-journal-in-Some-clause-any_moment :
    goal.returns-in_err-journal-in-Some-clause-any_moment
returns-in_err-journal-in-Some-clause-any_moment g c told =
    let quiet = quiet_on _ _ _ (c.sync_both.ensures.quiet told) (c.look_on.ensures.quiet told) in
    let has = looked_live _ _ _ _ _ _ _ _ _ (c.sync_both.ensures.quiet told).seen c.in-Some.is (c.in_ok-fleet.ensures.found told) in
    finishing _ _ _ _ quiet _ _ _ _ has _
    (c.finish.ensures.any_moment told has.header has.entries (stands_at _ _ _ _ _ quiet.seen has.stands) (kept_quiet _ _ (c.look_on.ensures.quiet told) (c.in_ok-sync_both.ensures.kept told)))

pub returns-clause-any_moment : goal.returns-clause-any_moment
returns-clause-any_moment g c told =
    let quiet = quiet_on _ _ _ (c.sync_both.ensures.quiet told) (c.look_on.ensures.quiet told) in
    let kept = kept_quiet _ _ (c.look_on.ensures.quiet told) (c.in_ok-sync_both.ensures.kept told) in
    elim c.match-live.branch [
      | in-None+in_ok-journal-in-None w ↦
          let at = looked_blank _ _ _ _ _ _ _ (c.sync_both.ensures.quiet told).seen w.in-None.is (c.in_ok-fleet.ensures.found told) in
          rw w.station-is (making _ _ _ _ quiet _ at.0 at.1 (new_header c.args.map.now c.args.text.now) refl _ (w.make.ensures.any_moment told kept))
      | in-Some+in_ok-journal-in-Some w ↦
          let has = looked_live _ _ _ _ _ _ _ _ _ (c.sync_both.ensures.quiet told).seen w.in-Some.is (c.in_ok-fleet.ensures.found told) in
          rw w.station-is (finishing _ _ _ _ quiet _ _ _ _ has _ (w.finish.ensures.any_moment told has.header has.entries (stands_at _ _ _ _ _ quiet.seen has.stands) kept))
    ]

pub returns-in_err-journal-in-None-clause-afterwards :
    goal.returns-in_err-journal-in-None-clause-afterwards
returns-in_err-journal-in-None-clause-afterwards g c told =
    let quiet = quiet_on _ _ _ (c.sync_both.ensures.quiet told) (c.look_on.ensures.quiet told) in
    let at = looked_blank _ _ _ _ _ _ _ (c.sync_both.ensures.quiet told).seen c.in-None.is (c.in_ok-fleet.ensures.found told) in
    inr (made_now _ _ _ _ quiet _ at.0 at.1 (new_header c.args.map.now c.args.text.now) refl _ (c.make.ensures.any_moment told (kept_quiet _ _ (c.look_on.ensures.quiet told) (c.in_ok-sync_both.ensures.kept told))))

pub returns-in_err-journal-in-Some-clause-afterwards :
    goal.returns-in_err-journal-in-Some-clause-afterwards
returns-in_err-journal-in-Some-clause-afterwards g c told =
    let quiet = quiet_on _ _ _ (c.sync_both.ensures.quiet told) (c.look_on.ensures.quiet told) in
    let has = looked_live _ _ _ _ _ _ _ _ _ (c.sync_both.ensures.quiet told).seen c.in-Some.is (c.in_ok-fleet.ensures.found told) in
    inr (finished_now _ _ _ _ quiet _ _ _ _ has _
    (c.finish.ensures.any_moment told has.header has.entries (stands_at _ _ _ _ _ quiet.seen has.stands) (kept_quiet _ _ (c.look_on.ensures.quiet told) (c.in_ok-sync_both.ensures.kept told))))

pub returns-clause-afterwards : goal.returns-clause-afterwards
returns-clause-afterwards g c told =
    let quiet = quiet_on _ _ _ (c.sync_both.ensures.quiet told) (c.look_on.ensures.quiet told) in
    let kept = kept_quiet _ _ (c.look_on.ensures.quiet told) (c.in_ok-sync_both.ensures.kept told) in
    elim c.match-live.branch [
      | in-None+in_ok-journal-in-None w ↦
          let at = looked_blank _ _ _ _ _ _ _ (c.sync_both.ensures.quiet told).seen w.in-None.is (c.in_ok-fleet.ensures.found told) in
          inr (rw w.station-is (made_now _ _ _ _ quiet _ at.0 at.1 (new_header c.args.map.now c.args.text.now) refl _ (w.make.ensures.any_moment told kept)))
      | in-Some+in_ok-journal-in-Some w ↦
          let has = looked_live _ _ _ _ _ _ _ _ _ (c.sync_both.ensures.quiet told).seen w.in-Some.is (c.in_ok-fleet.ensures.found told) in
          inr (rw w.station-is (finished_now _ _ _ _ quiet _ _ _ _ has _ (w.finish.ensures.any_moment told has.header has.entries (stands_at _ _ _ _ _ quiet.seen has.stands) kept)))
    ]

pub returns-in_err-fleet-clause-afterwards : goal.returns-in_err-fleet-clause-afterwards
returns-in_err-fleet-clause-afterwards g c told = inl (quiet_on _ _ _ (c.sync_both.ensures.quiet told) (c.look_on.ensures.quiet told))

pub returns-clause-rests : goal.returns-clause-rests
returns-clause-rests g c told =
    let quiet = quiet_on _ _ _ (c.sync_both.ensures.quiet told) (c.look_on.ensures.quiet told) in
    let kept = kept_quiet _ _ (c.look_on.ensures.quiet told) (c.in_ok-sync_both.ensures.kept told) in
    elim c.match-live.branch [
      | in-None+in_ok-journal-in-None w ↦
          let at = looked_blank _ _ _ _ _ _ _ (c.sync_both.ensures.quiet told).seen w.in-None.is (c.in_ok-fleet.ensures.found told) in
          let made = w.in_ok-journal-in-None.ensures in
          rw (w.station-is, w.journal-is) (new_rests _ _ _ _ quiet _ at.0 at.1 (new_header c.args.map.now c.args.text.now) refl _ _ (made.kept told kept) (made.creates told) made.side (made.beside told))
      | in-Some+in_ok-journal-in-Some w ↦
          let has = looked_live _ _ _ _ _ _ _ _ _ (c.sync_both.ensures.quiet told).seen w.in-Some.is (c.in_ok-fleet.ensures.found told) in
          let done = w.in_ok-journal-in-Some.ensures in
          rw (w.station-is, w.journal-is) (rests _ _ _ _ quiet _ _ _ _ has _ _ done.same (done.kept told kept) (done.keeps told has.header has.entries (stands_at _ _ _ _ _ quiet.seen has.stands)) (done.beside told))
    ]

pub returns-clause-within : goal.returns-clause-within
returns-clause-within g c told blank =
    elim c.match-live.branch [
      | in-None+in_ok-journal-in-None w ↦ let made = w.in_ok-journal-in-None.ensures in made.within
      | in-Some+in_ok-journal-in-Some w ↦
          let quiet = quiet_on _ _ _ (c.sync_both.ensures.quiet told) (c.look_on.ensures.quiet told) in
          let has = looked_live _ _ _ _ _ _ _ _ _ (c.sync_both.ensures.quiet told).seen w.in-Some.is (c.in_ok-fleet.ensures.found told) in
          absurd (not_blank _ _ _ _ quiet _ _ _ _ has blank)
    ]

pub returns-clause-restores : goal.returns-clause-restores
returns-clause-restores g c told =
    elim c.match-live.branch [
      | in-None+in_ok-journal-in-None w ↦
          let at = looked_blank _ _ _ _ _ _ _ (c.sync_both.ensures.quiet told).seen w.in-None.is (c.in_ok-fleet.ensures.found told) in
          rw w.journal-is (anew at.0 at.1 w.in_ok-journal-in-None.ensures.place)
      | in-Some+in_ok-journal-in-Some w ↦
          let has = looked_live _ _ _ _ _ _ _ _ _ (c.sync_both.ensures.quiet told).seen w.in-Some.is (c.in_ok-fleet.ensures.found told) in
          rw w.journal-is (opens_again _ _ _ _ _ _ _ has _ w.in_ok-journal-in-Some.ensures.same)
    ]

pub returns-in_err-fleet-clause-synced : goal.returns-in_err-fleet-clause-synced
returns-in_err-fleet-clause-synced g c told = inl (synced_quiet _ _ _ _ _ (c.sync_both.ensures.quiet told) (c.in_ok-sync_both.ensures.kept told) (c.look_on.ensures.quiet told))

pub returns-in_err-journal-in-None-clause-synced : goal.returns-in_err-journal-in-None-clause-synced
returns-in_err-journal-in-None-clause-synced g c told =
    let quiet = quiet_on _ _ _ (c.sync_both.ensures.quiet told) (c.look_on.ensures.quiet told) in
    let kept = c.in_ok-sync_both.ensures.kept told in
    let at = looked_blank _ _ _ _ _ _ _ (c.sync_both.ensures.quiet told).seen c.in-None.is (c.in_ok-fleet.ensures.found told) in
    inl (synced_run _ _ _ _ _ _ (c.sync_both.ensures.quiet told) kept (c.look_on.ensures.quiet told) _ (c.make.ensures.any_moment told (kept_quiet _ _ (c.look_on.ensures.quiet told) kept))
    (made_still _ _ _ _ quiet _ at.0 at.1 (new_header c.args.map.now c.args.text.now) refl))

pub returns-in_err-journal-in-Some-clause-synced : goal.returns-in_err-journal-in-Some-clause-synced
returns-in_err-journal-in-Some-clause-synced g c told =
    let quiet = quiet_on _ _ _ (c.sync_both.ensures.quiet told) (c.look_on.ensures.quiet told) in
    let kept = c.in_ok-sync_both.ensures.kept told in
    let has = looked_live _ _ _ _ _ _ _ _ _ (c.sync_both.ensures.quiet told).seen c.in-Some.is (c.in_ok-fleet.ensures.found told) in
    inl (synced_run _ _ _ _ _ _ (c.sync_both.ensures.quiet told) kept (c.look_on.ensures.quiet told) _
    (c.finish.ensures.any_moment told has.header has.entries (stands_at _ _ _ _ _ quiet.seen has.stands) (kept_quiet _ _ (c.look_on.ensures.quiet told) kept))
    (finished_still _ _ _ _ quiet _ _ _ _ has))

pub returns-clause-synced : goal.returns-clause-synced
returns-clause-synced g c told =
    let quiet = quiet_on _ _ _ (c.sync_both.ensures.quiet told) (c.look_on.ensures.quiet told) in
    let kept = c.in_ok-sync_both.ensures.kept told in
    let still = kept_quiet _ _ (c.look_on.ensures.quiet told) kept in
    elim c.match-live.branch [
      | in-None+in_ok-journal-in-None w ↦
          let at = looked_blank _ _ _ _ _ _ _ (c.sync_both.ensures.quiet told).seen w.in-None.is (c.in_ok-fleet.ensures.found told) in
          inl (rw w.station-is (synced_run _ _ _ _ _ _ (c.sync_both.ensures.quiet told) kept (c.look_on.ensures.quiet told) _ (w.make.ensures.any_moment told still) (made_still _ _ _ _ quiet _ at.0 at.1 (new_header c.args.map.now c.args.text.now) refl)))
      | in-Some+in_ok-journal-in-Some w ↦
          let has = looked_live _ _ _ _ _ _ _ _ _ (c.sync_both.ensures.quiet told).seen w.in-Some.is (c.in_ok-fleet.ensures.found told) in
          inl (rw w.station-is (synced_run _ _ _ _ _ _ (c.sync_both.ensures.quiet told) kept (c.look_on.ensures.quiet told) _ (w.finish.ensures.any_moment told has.header has.entries (stands_at _ _ _ _ _ quiet.seen has.stands) still) (finished_still _ _ _ _ quiet _ _ _ _ has)))
    ]

pub returns-clause-ends : goal.returns-clause-ends
returns-clause-ends g c told =
    elim c.match-live.branch [
      | in-None+in_ok-journal-in-None w ↦ rw (w.station-is, w.journal-is) (w.in_ok-journal-in-None.ensures.ends told)
      | in-Some+in_ok-journal-in-Some w ↦
          let done = w.in_ok-journal-in-Some.ensures in
          rw (w.station-is, w.journal-is) (ends_at _ _ _ done.same (done.ends told))
    ]
