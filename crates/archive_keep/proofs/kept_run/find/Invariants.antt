-- none of the runs so far has the name
use Rattle.std.proofs.Common.{◌≡◌, false, take}
use Rattle.archive_keep.specs.Memory.{is_named}
use Rattle.archive_keep.proofs.Firsts.{bytes_same}
use Rattle.archive_keep.proofs.kept_run.find.Given as goal

abbrev pub invariant-loop-kept : goal.invariant-loop-kept
invariant-loop-kept l = is_named (take l.kept-index l.runs) l.run ≡ false
