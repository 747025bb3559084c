use Rattle.std.proofs.Common.{◌≡◌, take}
use Rattle.fleet_base.proofs.lists.Items+Items+T.copy.Given as goal

abbrev pub invariant-loop-row : goal.invariant-loop-row
invariant-loop-row g l = l.rows ≡ take l.row-index l.row-items
