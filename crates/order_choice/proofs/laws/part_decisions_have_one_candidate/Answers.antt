use Rattle.order_choice.proofs.Candidates.{candidate_is, one_candidate}
use Rattle.order_choice.proofs.laws.part_decisions_have_one_candidate.Goals as goal

pub returns-clause-some : goal.returns-clause-some
returns-clause-some c = λ g x way s. (_, candidate_is g x way s)

pub returns-clause-one : goal.returns-clause-one
returns-clause-one c = λ g x way s a b state ca cb. one_candidate g x way state s s a b (λ q pair old side free l h. h) ca cb
