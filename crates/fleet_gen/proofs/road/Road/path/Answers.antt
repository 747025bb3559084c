use Rattle.std.proofs.Common.{arith}
use Rattle.fleet_gen.proofs.Ways.{path_all, path_more}
use Rattle.fleet_gen.proofs.road.Road.path.Goals as goal

pub loop-tick-preserved : goal.loop-tick-preserved
loop-tick-preserved c = path_more c.args.self c.args.wait c.loop-tick.tick c.loop-tick.path.items c.append.new.items.items c.saturating_sub.result c.cell.result c.loop-tick.invariant c.in_ok-append.ensures c.cell.ensures c.saturating_sub.ensures

pub returns : goal.returns
returns c = path_all c.args.self c.args.wait c.loop-tick.tick c.loop-tick.path.items c.loop-tick.invariant (omega arith)
