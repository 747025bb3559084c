use Rattle.std.proofs.Common.{◌≤◌, length}
use Rattle.std.specs.Prelude.{All}
use Rattle.plan_check.proofs.tests.plan_of.Given as goal

abbrev pub invariant-loop-path : goal.invariant-loop-path
invariant-loop-path l = All (λ path. 1 ≤ length path) l.plan
