use Rattle.std.proofs.Common.{◌≡◌}
use Rattle.release_rule.proofs.Joined.{IsFoundBelow}
use Rattle.release_rule.proofs.rule.kept_order_releases.Given as goal

abbrev pub invariant-loop-robot : goal.invariant-loop-robot
invariant-loop-robot l = IsFoundBelow l.graph l.fleet l.robot l.out.list × (l.out.room ≡ l.fn.out.room)
