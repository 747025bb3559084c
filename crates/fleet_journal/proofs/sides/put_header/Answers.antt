use Rattle.station_api.proofs.Moments.{kept_again}
use Rattle.fleet_journal.proofs.Openings.{until_gate, until_end}
use Rattle.fleet_journal.proofs.sides.put_header.Goals as goal

pub returns-in_err-write_at-2-clause-any_moment : goal.returns-in_err-write_at-2-clause-any_moment
returns-in_err-write_at-2-clause-any_moment g c told kept =
    until_gate _ _ _ (c.requires told) kept _ _ _ (c.write_at.ensures.step told) (c.in_ok-write_at.ensures.written told) (c.sync.ensures.quiet told) (c.in_ok-sync.ensures.synced told) (c.write_at-2.ensures.step told)

pub returns-in_err-sync-2-clause-any_moment : goal.returns-in_err-sync-2-clause-any_moment
returns-in_err-sync-2-clause-any_moment g c told kept =
    until_end _ _ _ (c.requires told) kept _ _ _ _ (c.write_at.ensures.step told) (c.in_ok-write_at.ensures.written told) (c.sync.ensures.quiet told) (c.in_ok-sync.ensures.synced told) (c.write_at-2.ensures.step told) (c.sync-2.ensures.quiet told)

pub returns-clause-any_moment : goal.returns-clause-any_moment
returns-clause-any_moment g c told kept =
    until_end _ _ _ (c.requires told) kept _ _ _ _ (c.write_at.ensures.step told) (c.in_ok-write_at.ensures.written told) (c.sync.ensures.quiet told) (c.in_ok-sync.ensures.synced told) (c.write_at-2.ensures.step told) (c.sync-2.ensures.quiet told)

pub returns-clause-kept : goal.returns-clause-kept
returns-clause-kept g c told kept =
    kept_again _ _ _ _ _ (kept_again _ _ _ _ _ kept (c.write_at.ensures.step told) (c.sync.ensures.quiet told) (c.in_ok-sync.ensures.synced told))
    (c.write_at-2.ensures.step told) (c.sync-2.ensures.quiet told) (c.in_ok-sync-2.ensures.synced told)
