use Rattle.std.specs.BinaryHeap.{heap_len}
use Rattle.std.proofs.Common.{◌≡◌}
use Rattle.longest_path.specs.Agendas.{IsAgenda}
use Rattle.longest_path.proofs.agenda.Agenda.take.Given as goal

abbrev pub invariant-loop-next : goal.invariant-loop-next
invariant-loop-next l = (l.self-inside.marks ≡ l.initial.self-inside.marks) × IsAgenda l.self-inside

abbrev pub decreases-loop-next : goal.decreases-loop-next
decreases-loop-next l = heap_len l.self-inside.heap
