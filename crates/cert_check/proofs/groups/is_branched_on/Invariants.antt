-- No step so far branched on the group.
use Rattle.std.proofs.Common.{ℕ, take, reverse}
use Rattle.std.specs.Prelude.{Contains}
use Rattle.fleet_base.specs.Order.{Graph}
use Rattle.fleet_base.specs.Groups.{AreGrouped}
use Rattle.edge_groups.specs.Mates.{AreAllMates}
use Rattle.cert_tree.specs.GroupRules.{branch_pairs}
use Rattle.cert_check.specs.Ways.{way_of}
use Rattle.cert_check.proofs.groups.is_branched_on.Given as goal

abbrev pub invariant-loop-step : goal.invariant-loop-step
invariant-loop-step l = (g : Graph) → AreAllMates g l.groups → (r : ℕ) → Contains (branch_pairs (way_of (reverse (take l.step-index l.steps)))) r → AreGrouped g l.fn.q.0 r → ⊥
