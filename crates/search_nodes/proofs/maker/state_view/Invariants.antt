use Rattle.std.proofs.Common.{◌≡◌}
use Rattle.fleet_base.specs.State.{order_at}
use Rattle.search_nodes.proofs.Views.{IsWrittenTo}
use Rattle.search_nodes.proofs.maker.state_view.Given as goal

abbrev pub invariant-loop-number : goal.invariant-loop-number
invariant-loop-number l = IsWrittenTo l.graph (λ q o. o ≡ order_at l.graph l.fleet q) l.number l.view
