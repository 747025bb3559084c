-- the ends so far are within the limits
use Rattle.std.proofs.Common.{All, take}
use Rattle.archive_keep.specs.Rows.{IsEnd}
use Rattle.archive_keep.proofs.ends.is_storable.Given as goal

abbrev pub invariant-loop-ticks : goal.invariant-loop-ticks
invariant-loop-ticks l = All IsEnd (take l.ticks-index l.ends)
