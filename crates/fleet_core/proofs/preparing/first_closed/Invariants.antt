use Rattle.std.proofs.Common.{ℕ, ◌≡◌, ◌<◌, Some, true}
use Rattle.std.specs.Prelude.{slice_get}
use Rattle.fleet_base.specs.declared.order.PairId.{PairId}
use Rattle.fleet_base.specs.Open.{is_open}
use Rattle.fleet_core.proofs.preparing.first_closed.Given as goal

abbrev pub invariant-loop-q : goal.invariant-loop-q
invariant-loop-q l = (j : ℕ) (p : PairId) → j < l.q-index → slice_get l.switched j ≡ Some p → is_open l.graph l.fleet p.0 ≡ true
