use Rattle.std.proofs.Common.{◌≡◌, ◌+◌, ℕ, Bool, false, map, take, replicate}
use Rattle.longest_path.proofs.agenda.no_marks.Given as goal

abbrev pub invariant-loop-robot : goal.invariant-loop-robot
invariant-loop-robot l = l.marks ≡ map (λ (last : ℕ). replicate {A = Bool} (last + 1) false) (take l.robot l.graph.lasts)
