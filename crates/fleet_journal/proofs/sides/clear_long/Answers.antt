use Rattle.station_api.proofs.Moments.{kept_quiet}
use Rattle.fleet_journal.proofs.Openings.{after_look}
use Rattle.fleet_journal.proofs.sides.clear_long.Goals as goal

pub returns-in_err-clear-clause-any_moment : goal.returns-in_err-clear-clause-any_moment
returns-in_err-clear-clause-any_moment g c told kept =
    let quiet = c.length.ensures.quiet told in after_look c.args.side _ _ _ kept quiet (c.clear.ensures.any_moment told (kept_quiet _ _ quiet kept))

pub returns-clause-any_moment : goal.returns-clause-any_moment
returns-clause-any_moment g c told kept =
    let quiet = c.length.ensures.quiet told in after_look c.args.side _ _ _ kept quiet (c.clear.ensures.any_moment told (kept_quiet _ _ quiet kept))
