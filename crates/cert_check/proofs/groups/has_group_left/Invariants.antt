-- The groups of the pairs so far are taken.
use Rattle.std.proofs.Common.{ℕ, ◌≡◌, ◌<◌, true}
use Rattle.fleet_base.specs.Groups.{IsGroupOf}
use Rattle.cert_check.specs.Taken.{taken_at}
use Rattle.cert_check.proofs.groups.has_group_left.Given as goal

abbrev pub invariant-loop-number : goal.invariant-loop-number
invariant-loop-number l = (q : ℕ) → q < l.number → (n : ℕ) × IsGroupOf l.graph q n × (taken_at l.taken n ≡ true)
