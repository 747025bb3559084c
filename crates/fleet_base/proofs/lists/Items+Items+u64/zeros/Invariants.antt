use Rattle.std.proofs.Common.{◌≡◌, ◌+◌, take, map}
use Rattle.std.specs.Prelude.{replicate}
use Rattle.fleet_base.proofs.lists.Items+Items+u64.zeros.Given as goal

abbrev pub invariant-loop-last : goal.invariant-loop-last
invariant-loop-last l = l.rows ≡ map (λ last. replicate (last + 1) 0) (take l.last-index l.lasts)
