use Rattle.fleet_cli.specs.Papers.{nowhere}
use Rattle.fleet_cli.proofs.Made.{made_or_refused}
use Rattle.fleet_cli.proofs.laws.what_is_made_is_not_refused.Goals as goal

pub returns : goal.returns
returns c file words text fault made cause = (made_or_refused (record { tells = Unit {0}; file = file }) nowhere words text fault tt made cause).1
