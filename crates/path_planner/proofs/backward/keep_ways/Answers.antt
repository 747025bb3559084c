use Rattle.std.proofs.Common.{◌-◌, ◌+◌, ◌<◌, List, length, sym, ap, ◌∙◌, subst, arith}
use Rattle.std.specs.Prelude.{slice_set, Contains}
use Rattle.fleet_base.specs.declared.geometry.Cell.{Cell}
use Rattle.fleet_base.specs.Lists.{row_of}
use Rattle.path_planner.specs.Search.{AreStood, IsKept}
use Rattle.path_planner.proofs.Retrace.{only_goal, one_back, all_ways, ways_stood}
use Rattle.path_planner.proofs.backward.keep_ways.Goals as goal

pub loop-tick-init : goal.loop-tick-init
loop-tick-init c =
    let last = length c.as_slice.result.now - 1 in
    record {
      ways = only_goal c.args.grid.now c.args.fixed.now c.args.task c.args.layers.now c.set.new.self last c.requires.ways c.requires.goal (omega (arith, ap length c.as_slice.ensures))
          (c.set.ensures ∙ ap (λ (row : List Cell). slice_set c.args.layers.now last row) c.in_ok-from_slice.ensures);
      tables = c.requires.tables;
    }

pub keep_layer-requires-clause-stood : goal.keep_layer-requires-clause-stood
keep_layer-requires-clause-stood c =
    let so = c.loop-tick.invariant.ways in
    let t = c.loop-tick.tick - 1 in
    let inside : t < length c.loop-tick.layers = omega (arith, so.count, so.within) in
    subst (AreStood c.args.grid.now c.args.fixed.now t) (sym c.row.ensures) (ways_stood c.args.grid.now c.args.fixed.now c.args.task c.loop-tick.layers so.ways t inside)

pub keep_layer-requires-clause-next : goal.keep_layer-requires-clause-next
keep_layer-requires-clause-next c = λ cell there.
    let so = c.loop-tick.invariant.ways in
    let t = c.loop-tick.tick - 1 + 1 in
    let inside : t < length c.loop-tick.layers = omega (arith, so.count, so.within, c.loop-tick-test.true) in
    (ways_stood c.args.grid.now c.args.fixed.now c.args.task c.loop-tick.layers so.ways t inside cell (subst (λ (row : List Cell). Contains row cell) c.row-in-loop-tick.ensures there)).0

pub set-requires-in-loop-tick : goal.set-requires-in-loop-tick
set-requires-in-loop-tick c = let so = c.loop-tick.invariant.ways in omega (arith, so.count, so.within)

pub loop-tick-preserved : goal.loop-tick-preserved
loop-tick-preserved c =
    let so = c.loop-tick.invariant.ways in
    let t = c.loop-tick.tick - 1 in
    let kept = c.in_ok-kept.kept in
    record {
      ways = one_back c.args.grid.now c.args.fixed.now c.args.task c.args.layers.now c.loop-tick.layers c.set-in-loop-tick.new.self c.loop-tick.tick t kept so (omega (arith, c.loop-tick-test.true))
          (subst (λ (row : List Cell). IsKept c.args.grid.now c.args.fixed.now t row (row_of c.loop-tick.layers (t + 1)) kept) c.row.ensures
          (subst (λ (row : List Cell). IsKept c.args.grid.now c.args.fixed.now t c.row.result.now row kept) c.row-in-loop-tick.ensures c.in_ok-kept.ensures.kept))
          c.set-in-loop-tick.ensures;
      tables = c.keep_layer.ensures.tables;
    }

pub returns-clause-ticks : goal.returns-clause-ticks
returns-clause-ticks c = c.loop-tick.invariant.ways.count

pub returns-clause-ways : goal.returns-clause-ways
returns-clause-ways c = all_ways c.args.grid.now c.args.fixed.now c.args.task c.args.layers.now c.loop-tick.layers c.loop-tick.tick c.loop-tick.invariant.ways (omega (arith, c.loop-tick-test.false))
