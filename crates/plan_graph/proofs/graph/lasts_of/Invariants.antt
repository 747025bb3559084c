use Rattle.std.proofs.Common.{◌≡◌, ◌-◌, length, take, map}
use Rattle.plan_graph.proofs.graph.lasts_of.Given as goal

abbrev pub invariant-loop-robot : goal.invariant-loop-robot
invariant-loop-robot l = l.lasts.items ≡ map (λ route. length route - 1) (take l.robot l.plan)
