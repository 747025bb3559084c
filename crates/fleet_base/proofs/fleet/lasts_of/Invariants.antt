use Rattle.std.proofs.Common.{◌≡◌, take}
use Rattle.fleet_base.specs.Order.{graph_of}
use Rattle.fleet_base.proofs.fleet.lasts_of.Given as goal

abbrev pub invariant-loop-robot : goal.invariant-loop-robot
invariant-loop-robot l = l.lasts ≡ take l.robot (graph_of l.plan).lasts
