-- The sides so far are the fleet's.
use Rattle.std.proofs.Common.{ℕ, ◌≡◌, ◌<◌, None, length}
use Rattle.std.specs.Prelude.{slice_get, slice_index_or}
use Rattle.plan_scenes.proofs.states.view_of.Given as goal

abbrev pub invariant-loop-number : goal.invariant-loop-number
invariant-loop-number l = record {
  graph : l.view.graph ≡ l.graph;
  sides : length l.view.sides ≡ length l.graph.pairs;
  taken : (q : ℕ) → q < l.number → slice_index_or l.view.sides q None ≡ slice_get l.fleet.sides q;
}
