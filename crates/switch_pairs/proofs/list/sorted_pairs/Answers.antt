use Rattle.std.proofs.Common.{rules}
use Rattle.std.proofs.lemmas.List.Sorted.{answers_always, IsNonDecreasingBy-from_sort}
use Rattle.switch_pairs.proofs.Pairing.{sorted_pairs_are}
use Rattle.switch_pairs.proofs.list.sorted_pairs.Goals as goal

pub returns : goal.returns
returns c =
    sorted_pairs_are c.args.plan.now c.args.robot c.in_ok-found.found.items c.sort_by_key.new.self.items c.in_ok-found.ensures
    (IsNonDecreasingBy-from_sort (λ p. p.higher.robot) c.sort_by_key.new.self.items (c.in_ok-sort_by_key.ensures.sorted (λ p. p.higher.robot) (answers_always _ _ _ (λ f a r g h. search rules))))
    c.sort_by_key.ensures.permutation
    (c.sort_by_key.ensures.stable (λ p. p.higher.robot) (answers_always _ _ _ (λ f a r g h. search rules)))
