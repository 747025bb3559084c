use Rattle.std.proofs.Common.{◌≡◌, ◌+◌, take}
use Rattle.std.specs.Prelude.{sum_by}
use Rattle.plan_graph.proofs.graph.PlanGraph.visit_count.Given as goal

abbrev pub invariant-loop-last : goal.invariant-loop-last
invariant-loop-last l = l.count ≡ sum_by (λ last. last + 1) (take l.last-index l.last-items)
