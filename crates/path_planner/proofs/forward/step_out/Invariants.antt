use Rattle.path_planner.specs.Tables.{Covers, TellsPlaces}
use Rattle.path_planner.proofs.Spread.{StepsOf}
use Rattle.path_planner.proofs.forward.step_out.Given as goal

abbrev pub invariant-loop-to : goal.invariant-loop-to
invariant-loop-to l = record {
  steps : StepsOf l.grid l.fixed l.tick l.from l.aim l.to-items l.to-index l.fn.next l.next;
  covers : Covers l.grid l.places;
  places : TellsPlaces l.next l.places;
}
