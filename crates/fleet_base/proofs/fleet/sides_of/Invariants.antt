use Rattle.std.proofs.Common.{◌≡◌, take, map}
use Rattle.fleet_base.proofs.fleet.sides_of.Given as goal

abbrev pub invariant-loop-number : goal.invariant-loop-number
invariant-loop-number l = l.sides ≡ map (λ p. p.first) (take l.number l.pairs)
