use Rattle.switch_pairs.specs.Stops.{stops_of}
use Rattle.switch_pairs.proofs.Ranges.{flat_map_more}
use Rattle.switch_pairs.proofs.stops.plan_stops.Goals as goal

pub loop-robot-preserved : goal.loop-robot-preserved
loop-robot-preserved c = let more = flat_map_more (stops_of c.args.plan.now) c.loop-robot.robot in cc (more, c.in_ok-push_stops.ensures, c.loop-robot.invariant)
