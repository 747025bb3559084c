use Rattle.std.proofs.Common.{◌≡◌, length}
use Rattle.path_planner.proofs.tables.zeros.Given as goal

abbrev pub invariant-loop-col : goal.invariant-loop-col
invariant-loop-col l = length l.row ≡ l._col
