-- The pairs so far have taken their groups.
use Rattle.std.proofs.Common.{◌≡◌, length}
use Rattle.cert_check.specs.Taken.{AreTaken}
use Rattle.cert_check.proofs.groups.take_groups.Given as goal

abbrev pub invariant-loop-number : goal.invariant-loop-number
invariant-loop-number l = record {
  taken : AreTaken l.graph l.fleet l.sides l.number l.taken;
  long : length l.taken ≡ length l.fn.taken;
}
