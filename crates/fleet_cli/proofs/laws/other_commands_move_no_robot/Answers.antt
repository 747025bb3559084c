use Rattle.fleet_cli.proofs.LivesBeside.{run_among}
use Rattle.fleet_cli.proofs.laws.other_commands_move_no_robot.Goals as goal

pub returns : goal.returns
returns c = run_among
