use Rattle.fleet_cli.specs.Papers.{files_of}
use Rattle.fleet_cli.proofs.OneCause.{one_cause}
use Rattle.fleet_cli.proofs.laws.a_refusal_has_one_cause.Goals as goal

pub returns : goal.returns
returns c file words fault other = one_cause (files_of (Unit {0}) file) tt words fault other
