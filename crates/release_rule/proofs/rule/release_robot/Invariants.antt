use Rattle.std.proofs.Common.{◌≡◌}
use Rattle.release_rule.proofs.Found.{IsFoundUntil}
use Rattle.release_rule.proofs.rule.release_robot.Given as goal

abbrev pub invariant-loop-index : goal.invariant-loop-index
invariant-loop-index l = IsFoundUntil l.graph l.fleet l.robot l.index l.initial.out.list l.out.list × (l.out.room ≡ l.initial.out.room)
