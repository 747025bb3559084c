use Rattle.longest_path.specs.Deciding.{order_in_force}
use Rattle.search_nodes.proofs.Views.{IsWrittenTo, HasCandidateSide}
use Rattle.search_nodes.proofs.candidate.write_candidate.Given as goal

abbrev pub invariant-loop-number : goal.invariant-loop-number
invariant-loop-number l = IsWrittenTo l.live.graph (HasCandidateSide l.live.graph l.live.state (order_in_force l.live)) l.number l.view
