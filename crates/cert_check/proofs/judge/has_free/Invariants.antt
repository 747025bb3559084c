use Rattle.std.proofs.Common.{ℕ, ◌≡◌, ◌<◌, None, true}
use Rattle.fleet_base.specs.Open.{is_open}
use Rattle.cert_check.specs.Sides.{decided}
use Rattle.cert_check.proofs.judge.has_free.Given as goal

abbrev pub invariant-loop-number : goal.invariant-loop-number
invariant-loop-number l = (q : ℕ) → q < l.number → is_open l.graph l.fleet q ≡ true → decided l.sides q ≡ None → ⊥
