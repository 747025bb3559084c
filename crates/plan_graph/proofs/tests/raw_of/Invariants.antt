use Rattle.std.proofs.Common.{ℕ, ◌≡◌, take, map}
use Rattle.fleet_base.specs.declared.geometry.Cell.{Cell}
use Rattle.plan_graph.proofs.tests.raw_of.Given as goal

abbrev cell : ℕ × ℕ → Cell
cell at = record { row = at.0; col = at.1 }

abbrev pub invariant-loop-path : goal.invariant-loop-path
invariant-loop-path l = l.raw ≡ map (λ path. map (λ at. cell at) path.now) (take l.path-index l.paths)
