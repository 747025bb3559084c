use Rattle.fleet_cli.specs.Papers.{nowhere}
use Rattle.fleet_cli.proofs.Exclusion.{sound_or_refused}
use Rattle.fleet_cli.proofs.laws.a_sound_plan_is_not_refused.Goals as goal

pub returns : goal.returns
returns c file words command papers routes fault asked cause = (sound_or_refused (record { tells = Unit {0}; file = file }) nowhere words command papers routes fault tt asked cause).1
