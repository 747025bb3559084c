use Rattle.path_planner.specs.Tables.{Covers}
use Rattle.path_planner.proofs.TableLaws.{PlacesOf}
use Rattle.path_planner.proofs.tables.put_places.Given as goal

abbrev pub invariant-loop-place : goal.invariant-loop-place
invariant-loop-place l = record {
  covers : Covers l.grid l.places;
  places : PlacesOf l.cells l.place l.places;
}
