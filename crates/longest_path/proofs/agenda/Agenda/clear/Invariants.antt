use Rattle.longest_path.specs.Cells.{AreAlike, mark_count}
use Rattle.longest_path.proofs.agenda.Agenda.clear.Given as goal

abbrev pub invariant-loop : goal.invariant-loop
invariant-loop l = AreAlike l.initial.self l.self

abbrev pub decreases-loop : goal.decreases-loop
decreases-loop l = mark_count l.self
