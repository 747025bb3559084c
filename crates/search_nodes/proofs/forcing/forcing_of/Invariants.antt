use Rattle.std.proofs.Common.{ℕ, ◌≡◌, ◌<◌, Some, None}
use Rattle.std.specs.Prelude.{slice_get}
use Rattle.fleet_base.specs.declared.order.PairId.{PairId}
use Rattle.longest_path.specs.Deciding.{order_in_force}
use Rattle.search_nodes.proofs.forcing.forcing_of.Given as goal

abbrev pub invariant-loop-mate : goal.invariant-loop-mate
invariant-loop-mate l = (k : ℕ) (r : PairId) → k < l.mate-index → slice_get l.mate-items k ≡ Some r → order_in_force l.live r.0 ≡ None
