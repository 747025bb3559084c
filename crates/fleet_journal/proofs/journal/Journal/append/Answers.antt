use Rattle.std.proofs.Common.{◌≡◌, ℕ, ◌^◌, ◌<◌, List, ◌∷◌, length, sym, ◌∙◌, ap, subst, arith}
use Rattle.station_api.specs.Clock.{Clock}
use Rattle.station_api.proofs.Moments.{kept_again}
use Rattle.journal_frame.specs.declared.header.HeaderParts.{HeaderParts}
use Rattle.journal_frame.specs.Frames.{frame_text}
use Rattle.fleet_journal.specs.Standing.{Standing}
use Rattle.fleet_journal.specs.Journal.{Stands}
use Rattle.fleet_journal.proofs.Frames.{length-frame_text}
use Rattle.fleet_journal.proofs.Append.{Begins, until_write, until_sync, until_gate, until_end, adds, writes_all, ends_shut}
use Rattle.fleet_journal.proofs.journal.Journal.append.Goals as goal

begun : (journal : Standing) (header : HeaderParts) (entries : List (List ℕ)) (payload frame text : List ℕ) (old : Clock) → length frame < 2 ^ 32 → text ≡ frame → frame ≡ frame_text payload → Stands journal header entries old.seen → Begins journal header entries payload text old
begun journal header entries payload frame text old few same is stands = record { fits = omega (arith, few, ap length is, length-frame_text payload); is_text = same ∙ is; stands = stands }

pub returns-in_err-write_at-clause-any_moment : goal.returns-in_err-write_at-clause-any_moment
returns-in_err-write_at-clause-any_moment g c = rw (← c.self.view_is) (λ told header entries payload is stands kept.
    until_write _ _ _ _ _ _ (begun _ _ _ _ _ _ _ c.requires.few c.as_slice-frame.ensures is stands) kept _ (c.write_at.ensures.step told))

pub returns-in_err-sync-clause-any_moment : goal.returns-in_err-sync-clause-any_moment
returns-in_err-sync-clause-any_moment g c = rw (← c.self.view_is) (λ told header entries payload is stands kept.
    until_sync _ _ _ _ _ _ (begun _ _ _ _ _ _ _ c.requires.few c.as_slice-frame.ensures is stands) kept _ _ (c.write_at.ensures.step told) (c.sync.ensures.quiet told))

pub returns-in_err-write_at-2-clause-any_moment : goal.returns-in_err-write_at-2-clause-any_moment
returns-in_err-write_at-2-clause-any_moment g c = rw (← c.self.view_is) (λ told header entries payload is stands kept.
    until_gate _ _ _ _ _ _ (begun _ _ _ _ _ _ _ c.requires.few c.as_slice-frame.ensures is stands) kept _ _ _
    (c.write_at.ensures.step told) (c.in_ok-write_at.ensures.written told) (c.sync.ensures.quiet told) (c.in_ok-sync.ensures.synced told) (c.write_at-2.ensures.step told))

pub returns-in_err-sync-2-clause-any_moment : goal.returns-in_err-sync-2-clause-any_moment
returns-in_err-sync-2-clause-any_moment g c = rw (← c.self.view_is) (λ told header entries payload is stands kept.
    until_end _ _ _ _ _ _ (begun _ _ _ _ _ _ _ c.requires.few c.as_slice-frame.ensures is stands) kept _ _ _ _
    (c.write_at.ensures.step told) (c.in_ok-write_at.ensures.written told) (c.sync.ensures.quiet told) (c.in_ok-sync.ensures.synced told) (c.write_at-2.ensures.step told) (c.sync-2.ensures.quiet told))

pub returns-clause-any_moment : goal.returns-clause-any_moment
returns-clause-any_moment g c = rw (← c.self.view_is) (λ told header entries payload is stands kept.
    until_end _ _ _ _ _ _ (begun _ _ _ _ _ _ _ c.requires.few c.as_slice-frame.ensures is stands) kept _ _ _ _
    (c.write_at.ensures.step told) (c.in_ok-write_at.ensures.written told) (c.sync.ensures.quiet told) (c.in_ok-sync.ensures.synced told) (c.write_at-2.ensures.step told) (c.sync-2.ensures.quiet told))

pub returns-clause-adds : goal.returns-clause-adds
returns-clause-adds g c = rw (← c.self.view_is) (λ told header entries payload is stands.
    adds _ _ _ _ _ _ (begun _ _ _ _ _ _ _ c.requires.few c.as_slice-frame.ensures is stands) _ _ _ _
    (c.write_at.ensures.step told) (c.in_ok-write_at.ensures.written told) (c.sync.ensures.quiet told) (c.write_at-2.ensures.step told) (c.in_ok-write_at-2.ensures.written told) (c.sync-2.ensures.quiet told))

pub returns-clause-kept : goal.returns-clause-kept
returns-clause-kept g c told kept =
    kept_again _ _ _ _ _ (kept_again _ _ _ _ _ kept (c.write_at.ensures.step told) (c.sync.ensures.quiet told) (c.in_ok-sync.ensures.synced told))
    (c.write_at-2.ensures.step told) (c.sync-2.ensures.quiet told) (c.in_ok-sync-2.ensures.synced told)

pub returns-clause-writes : goal.returns-clause-writes
returns-clause-writes g c = rw (← c.self.view_is) (λ told.
    let found = c.requires.stands told in
    let old = g.T.Station.clock c.args.station.now in
    let at : Standing = record { side = c.self.inside.side; place = c.self.inside.place; passed = c.self.inside.passed } in
    let stands = subst (λ (j : Standing). Stands j found.0 found.1 old.seen) (sym c.self.view_is) found.2 in
    let begins = begun at found.0 found.1 c.requires.frame.0 c.args.frame.now c.as_slice-frame.result.now old c.requires.few c.as_slice-frame.ensures c.requires.frame.1 stands in
    rw (← c.as_slice-frame.ensures) (writes_all at found.0 found.1 c.requires.frame.0 c.as_slice-frame.result.now old begins _ _ _ _
    (c.in_ok-write_at.ensures.written told) (c.sync.ensures.quiet told) (c.in_ok-write_at-2.ensures.written told) (c.sync-2.ensures.quiet told)))

pub returns-clause-ends : goal.returns-clause-ends
returns-clause-ends g c = rw (← c.self.view_is) (λ told short.
    let found = c.requires.stands told in
    let old = g.T.Station.clock c.args.station.now in
    let at : Standing = record { side = c.self.inside.side; place = c.self.inside.place; passed = c.self.inside.passed } in
    let stands = subst (λ (j : Standing). Stands j found.0 found.1 old.seen) (sym c.self.view_is) found.2 in
    let begins = begun at found.0 found.1 c.requires.frame.0 c.args.frame.now c.as_slice-frame.result.now old c.requires.few c.as_slice-frame.ensures c.requires.frame.1 stands in
    ends_shut at found.0 found.1 c.requires.frame.0 c.as_slice-frame.result.now old begins (g.T.Station.clock c.sync-2.new.self)
    (writes_all at found.0 found.1 c.requires.frame.0 c.as_slice-frame.result.now old begins _ _ _ _
    (c.in_ok-write_at.ensures.written told) (c.sync.ensures.quiet told) (c.in_ok-write_at-2.ensures.written told) (c.sync-2.ensures.quiet told)) short)
