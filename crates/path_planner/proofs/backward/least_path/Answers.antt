use Rattle.std.proofs.Common.{◌-◌, ◌<◌, ◌++◌, ◌∷◌, [], List, length, sym, ap, ◌∙◌, subst, arith}
use Rattle.fleet_base.specs.declared.geometry.Cell.{Cell}
use Rattle.path_planner.specs.Search.{LeadsInto, IsLeastInto}
use Rattle.path_planner.proofs.Retrace.{led_begin, led_stood, led_into, led_on, led_end}
use Rattle.path_planner.proofs.backward.least_path.Goals as goal

pub loop-tick-init : goal.loop-tick-init
loop-tick-init c = record {
  led = led_begin c.args.grid.now c.args.fixed.now c.args.task c.args.layers.now c.push_cell.new.path.items c.requires.ways.ways.some c.requires.stood c.requires.start
      (c.in_ok-push_cell.ensures ∙ ap (λ (xs : List Cell). xs ++ c.args.task.start ∷ []) c.new-path.ensures.items);
  traffic = c.requires.traffic;
}

pub least_step-here-requires-clause-free : goal.least_step-here-requires-clause-free
least_step-here-requires-clause-free c = (led_stood c.args.grid.now c.args.fixed.now c.args.task c.args.layers.now c.requires.ways c.loop-tick.tick c.loop-tick.here c.loop-tick.path.items c.loop-tick.invariant.led).0

pub least_step-here-requires-clause-clear : goal.least_step-here-requires-clause-clear
least_step-here-requires-clause-clear c = (led_stood c.args.grid.now c.args.fixed.now c.args.task c.args.layers.now c.requires.ways c.loop-tick.tick c.loop-tick.here c.loop-tick.path.items c.loop-tick.invariant.led).1

pub least_step-here-requires-clause-leads : goal.least_step-here-requires-clause-leads
least_step-here-requires-clause-leads c =
    let more : c.loop-tick.tick < length c.args.layers.now - 1 = omega (arith, c.loop-tick-test.true, ap length c.as_slice.ensures) in
    subst (LeadsInto c.args.grid.now c.args.fixed.now c.loop-tick.tick c.loop-tick.here) (sym c.row.ensures)
    (led_into c.args.grid.now c.args.fixed.now c.args.task c.args.layers.now c.requires.ways c.loop-tick.tick c.loop-tick.here c.loop-tick.path.items c.loop-tick.invariant.led more)

pub loop-tick-preserved : goal.loop-tick-preserved
loop-tick-preserved c =
    let more : c.loop-tick.tick < length c.args.layers.now - 1 = omega (arith, c.loop-tick-test.true, ap length c.as_slice.ensures) in
    record {
      led = led_on c.args.grid.now c.args.fixed.now c.args.task c.args.layers.now c.requires.ways c.loop-tick.tick c.loop-tick.here c.loop-tick.path.items c.loop-tick.invariant.led c.least_step-here.result _ more
          (subst (λ (row : List Cell). IsLeastInto c.args.grid.now c.args.fixed.now c.loop-tick.tick c.loop-tick.here row c.least_step-here.result) c.row.ensures c.least_step-here.ensures)
          c.in_ok-push_cell-2.ensures;
      traffic = c.turn_to.ensures.covers;
    }

pub returns-clause-path : goal.returns-clause-path
returns-clause-path c =
    let so = c.loop-tick.invariant.led in
    led_end c.args.grid.now c.args.fixed.now c.args.task c.args.layers.now c.requires.ways c.loop-tick.tick c.loop-tick.here c.loop-tick.path.items so
    (omega (arith, c.loop-tick-test.false, ap length c.as_slice.ensures, so.within))
