use Rattle.fleet_cli.specs.Papers.{files_of}
use Rattle.fleet_cli.proofs.OneCause.{one_due}
use Rattle.fleet_cli.proofs.laws.one_line_is_due.Goals as goal

pub returns : goal.returns
returns c file words end other text more = one_due (files_of (Unit {0}) file) tt words end other text more
