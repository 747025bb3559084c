use Rattle.station_api.proofs.Moments.{kept_quiet}
use Rattle.turn_trials.proofs.ahead.attached.Goals as goal

pub returns-in-Ok-clause-kept : goal.returns-in-Ok-clause-kept
returns-in-Ok-clause-kept c = kept_quiet _ _ c.attach.ensures.quiet c.in_ok-station.ensures.kept
