use Rattle.std.proofs.Common.{ℕ, ◌≡◌, take, map}
use Rattle.fleet_base.specs.declared.order.Pair.{Pair}
use Rattle.fleet_base.specs.declared.order.Side.{Side}
use Rattle.plan_graph.proofs.tests.pairs_from.Given as goal

abbrev pair : (ℕ × ℕ) × (ℕ × ℕ) × Side → Pair
pair row = record { lower = record { robot = row.0.0; index = row.0.1 }; higher = record { robot = row.1.0; index = row.1.1 }; first = row.2 }

abbrev pub invariant-loop-row : goal.invariant-loop-row
invariant-loop-row l = l.pairs.items ≡ map (λ row. pair row) (take l.row-index l.rows)
