use Rattle.std.proofs.Common.{ℕ, ◌≡◌, ◌<◌, Some}
use Rattle.std.specs.Prelude.{slice_get}
use Rattle.fleet_base.specs.declared.order.PairId.{PairId}
use Rattle.fleet_base.specs.Pairs.{numbers_of}
use Rattle.fleet_base.specs.Order.{HasEdge}
use Rattle.plan_graph.specs.Views.{order_in}
use Rattle.plan_graph.proofs.view.Oriented.before.Given as goal

abbrev pub invariant-loop-q : goal.invariant-loop-q
invariant-loop-q l = (k : ℕ) (q : PairId) → k < l.q-index → slice_get (numbers_of l.self.graph.pairs l.v) k ≡ Some q → HasEdge l.self.graph (order_in l.self) q.0 l.u l.v → ⊥
