use Rattle.order_choice.proofs.Candidates.{conflict_or_best}
use Rattle.order_choice.proofs.laws.a_node_without_conflict_has_a_sound_candidate.Goals as goal

pub returns : goal.returns
returns c = conflict_or_best
