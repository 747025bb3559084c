use Rattle.std.proofs.Common.{◌+◌, ◌<◌, length}
use Rattle.search_line.specs.Going.{LiesBelow}
use Rattle.search_line.proofs.going.shared_above.Given as goal

abbrev pub invariant-loop-low : goal.invariant-loop-low
invariant-loop-low l = record { low : l.low < length l.nodes; high : l.high < length l.nodes; one : LiesBelow l.nodes l.fn.one l.low; other : LiesBelow l.nodes l.fn.other l.high }

abbrev pub decreases-loop-low : goal.decreases-loop-low
decreases-loop-low l = l.low + l.high
