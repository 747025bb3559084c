use Rattle.std.proofs.Common.{ℕ, ◌≡◌, take, map}
use Rattle.fleet_base.specs.declared.geometry.Cell.{Cell}
use Rattle.plan_graph.proofs.tests.path_of.Given as goal

abbrev cell : ℕ × ℕ → Cell
cell at = record { row = at.0; col = at.1 }

abbrev pub invariant-loop-at : goal.invariant-loop-at
invariant-loop-at l = l.cells.items ≡ map (λ at. cell at) (take l.at-index l.path)
