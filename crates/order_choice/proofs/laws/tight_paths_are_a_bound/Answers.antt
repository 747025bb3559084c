use Rattle.order_choice.proofs.Bounds.{bound_of, bound_written}
use Rattle.order_choice.proofs.laws.tight_paths_are_a_bound.Goals as goal

pub returns-clause-right : goal.returns-clause-right
returns-clause-right c = λ g x way s cost pairs_for low long. bound_of g x way s cost pairs_for low long

pub returns-clause-written : goal.returns-clause-written
returns-clause-written c = bound_written
