-- The sides so far are those of the view.
use Rattle.std.proofs.Common.{ℕ, ◌≡◌, ◌<◌}
use Rattle.std.specs.Prelude.{vec_len}
use Rattle.plan_graph.specs.Views.{order_in}
use Rattle.cert_check.specs.Sides.{decided}
use Rattle.cert_check.proofs.way.Way.take_sides.Given as goal

abbrev pub invariant-loop-number : goal.invariant-loop-number
invariant-loop-number l = record {
  taken : (q : ℕ) → q < l.number → decided l.self.sides.items q ≡ order_in l.view q;
  sides : vec_len l.self.sides ≡ vec_len l.fn.self.sides;
  steps : l.self.steps ≡ l.fn.self.steps;
}
