use Rattle.std.proofs.Common.{◌≡◌, ◌-◌, ◌<◌, ◌≤◌, List, length, arith, ap}
use Rattle.fleet_base.specs.declared.geometry.Cell.{Cell}
use Rattle.fleet_base.specs.Lists.{row_of}
use Rattle.plan_check.specs.Faults.{too_many_ticks}
use Rattle.plan_check.proofs.Accepted.{all_rows}
use Rattle.plan_check.proofs.limits.late_tick.Goals as goal

pub returns-then-ticks : goal.returns-then-ticks
returns-then-ticks c =
    let e : length c.cells-ticks.result.now ≡ length (row_of c.args.raw.now c.loop-robot.robot) = ap (λ (path : List Cell). length path) c.cells-ticks.ensures in
    let there : c.loop-robot.robot < length c.args.raw.now = omega arith in
    let late : 4097 < length (row_of c.args.raw.now c.loop-robot.robot) = omega arith in
    let count : length c.cells-ticks.result.now - 1 ≡ length (row_of c.args.raw.now c.loop-robot.robot) - 1 = omega arith in
    too_many_ticks c.requires c.loop-robot.robot there late count c.loop-robot.invariant

pub returns : goal.returns
returns c = all_rows (λ (path : List Cell). length path ≤ 4097) c.args.raw.now (λ i lt. c.loop-robot.invariant i (omega (arith, lt)))
