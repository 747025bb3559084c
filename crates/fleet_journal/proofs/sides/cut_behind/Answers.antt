use Rattle.station_api.specs.Disk.{Shortened}
use Rattle.station_api.proofs.Moments.{kept_again, kept_quiet, side_quiet, side_step_after, then_quiet}
use Rattle.fleet_journal.proofs.Clearing.{shortened_self}
use Rattle.fleet_journal.proofs.sides.cut_behind.Goals as goal

pub returns-in_err-length-clause-any_moment : goal.returns-in_err-length-clause-any_moment
returns-in_err-length-clause-any_moment g c told kept = side_quiet c.args.side (Shortened c.args.length) _ _ kept (c.length.ensures.quiet told) (shortened_self _ _)

pub returns-in_err-cut-clause-any_moment : goal.returns-in_err-cut-clause-any_moment
returns-in_err-cut-clause-any_moment g c told kept =
    side_step_after c.args.side _ (Shortened c.args.length) _ _ _ kept (c.length.ensures.quiet told) (c.cut.ensures.step told) (shortened_self _ _) (λ bytes torn. torn)

pub returns-in_err-sync-clause-any_moment : goal.returns-in_err-sync-clause-any_moment
returns-in_err-sync-clause-any_moment g c told kept =
    then_quiet _ _ _ _ (side_step_after c.args.side _ (Shortened c.args.length) _ _ _ kept (c.length.ensures.quiet told) (c.cut.ensures.step told) (shortened_self _ _) (λ bytes torn. torn)) (c.sync.ensures.quiet told)

pub returns-clause-kept : goal.returns-clause-kept
returns-clause-kept g c told kept = kept_again _ _ _ _ _ (kept_quiet _ _ (c.length.ensures.quiet told) kept) (c.cut.ensures.step told) (c.sync.ensures.quiet told) (c.in_ok-sync.ensures.synced told)

pub returns-clause-any_moment : goal.returns-clause-any_moment
returns-clause-any_moment g c told kept =
    then_quiet _ _ _ _ (side_step_after c.args.side _ (Shortened c.args.length) _ _ _ kept (c.length.ensures.quiet told) (c.cut.ensures.step told) (shortened_self _ _) (λ bytes torn. torn)) (c.sync.ensures.quiet told)
