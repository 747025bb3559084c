use Rattle.std.proofs.Common.{arith}
use Rattle.fleet_gen.proofs.Turns.{all_sound, next_beside, turns_more, one_robot_more}
use Rattle.fleet_gen.proofs.departures.depart_in_turn.Goals as goal

pub least_wait-wait-requires-clause-sound : goal.least_wait-wait-requires-clause-sound
least_wait-wait-requires-clause-sound c = all_sound c.args.grid.now c.args.roads.now c.requires c.loop-road.plan c.loop-road.invariant.earliest

pub least_wait-wait-requires-clause-beside : goal.least_wait-wait-requires-clause-beside
least_wait-wait-requires-clause-beside c = next_beside c.args.grid.now c.args.roads.now c.requires c.loop-road.plan c.loop-road.invariant.earliest c.loop-road.road-index c.loop-road.invariant.robots c.loop-road-test.true

pub least_wait-wait-requires-clause-few : goal.least_wait-wait-requires-clause-few
least_wait-wait-requires-clause-few c = omega (arith, c.requires.few)

pub loop-road-preserved : goal.loop-road-preserved
loop-road-preserved c = record {
  robots = one_robot_more c.args.grid.now c.args.roads.now c.requires c.loop-road.plan c.loop-road.invariant.earliest c.loop-road.road-index c.in_ok-path.field-0.items c.push_path.new.self c.loop-road.invariant.robots c.in_ok-push_path.ensures.ok;
  earliest = turns_more c.args.grid.now c.args.roads.now c.requires c.loop-road.plan c.loop-road.invariant.earliest c.loop-road.road-index c.least_wait-wait.result c.in_ok-path.field-0.items c.push_path.new.self c.loop-road.invariant.robots
      c.least_wait-wait.ensures.least c.in_ok-path.ensures c.in_ok-push_path.ensures.ok;
}
