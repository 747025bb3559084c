use Rattle.std.proofs.Common.{◌≡◌}
use Rattle.longest_path.specs.Deciding.{order_in_force}
use Rattle.search_nodes.proofs.Views.{IsWrittenTo}
use Rattle.search_nodes.proofs.candidate.write_in_force.Given as goal

abbrev pub invariant-loop-number : goal.invariant-loop-number
invariant-loop-number l = IsWrittenTo l.live.graph (λ q o. o ≡ order_in_force l.live q) l.number l.view
