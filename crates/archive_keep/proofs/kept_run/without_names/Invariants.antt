-- the ends so far
use Rattle.std.proofs.Common.{◌≡◌, map, take}
use Rattle.archive_keep.proofs.kept_run.without_names.Given as goal

abbrev pub invariant-loop-end : goal.invariant-loop-end
invariant-loop-end l = l.ends ≡ map (λ end. end.ticks) (take l.end-index l.named)
