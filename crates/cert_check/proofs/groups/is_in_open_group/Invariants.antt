-- The pairs of the group so far are open.
use Rattle.std.proofs.Common.{ℕ, ◌≡◌, ◌<◌, true}
use Rattle.fleet_base.specs.Open.{is_open}
use Rattle.fleet_base.specs.Groups.{AreGrouped}
use Rattle.cert_check.proofs.groups.is_in_open_group.Given as goal

abbrev pub invariant-loop-number : goal.invariant-loop-number
invariant-loop-number l = (r : ℕ) → r < l.number → AreGrouped l.graph l.fn.q.0 r → is_open l.graph l.fleet r ≡ true
