-- Ends of one robot beside the names of their runs.
use Rattle.std.specs.Prelude.{ℕ}
use Rattle.archive_keep.specs.Rows.{KeptRow}
use Rattle.archive_keep.specs.declared.kept_run.NamedEnd.{NamedEnd}

-- the row of an end
abbrev pub row_of : ℕ → NamedEnd → KeptRow
row_of robot end = record { run = end.run.now; robot = robot; ticks = end.ticks }
