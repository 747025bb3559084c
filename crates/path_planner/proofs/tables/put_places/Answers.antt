use Rattle.std.proofs.Common.{arith, get_or, refl}
use Rattle.std.proofs.lemmas.List.Elements.{Contains-get_or}
use Rattle.fleet_base.specs.Plan.{no_cell}
use Rattle.path_planner.proofs.TableLaws.{all_places, one_place, covers_same}
use Rattle.path_planner.proofs.tables.put_places.Goals as goal

pub put-requires : goal.put-requires
put-requires c =
    let at = get_or c.args.cells.now c.loop-place.place no_cell in
    c.loop-place.invariant.covers at (c.requires.free at (Contains-get_or c.args.cells.now c.loop-place.place no_cell (omega arith)))

pub loop-place-preserved : goal.loop-place-preserved
loop-place-preserved c =
    let so = c.loop-place.invariant in
    record {
      covers = covers_same c.args.grid.now c.loop-place.places _ so.covers c.put.ensures.sides;
      places = one_place c.args.cells.now c.loop-place.place c.loop-place.places _ _ refl so.places c.put.ensures.here c.put.ensures.others;
    }

pub returns-clause-places : goal.returns-clause-places
returns-clause-places c = all_places c.args.cells.now c.loop-place.place c.loop-place.places c.loop-place.invariant.places (omega arith)
