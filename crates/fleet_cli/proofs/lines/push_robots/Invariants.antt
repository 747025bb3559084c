use Rattle.std.proofs.Common.{◌≡◌, ◌++◌, take}
use Rattle.fleet_cli.proofs.lines.push_robots.Given as goal
use Rattle.fleet_base.specs.Bytes.{fields}

abbrev pub invariant-loop-robot : goal.invariant-loop-robot
invariant-loop-robot l = l.out ≡ l.initial.out ++ fields (take l.robot-index l.robots)
