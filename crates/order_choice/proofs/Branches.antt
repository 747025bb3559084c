-- How many branches a spent tree can have, by the pairs that are open.
use Rattle.std.proofs.Common.{ℕ, ◌≡◌, ◌+◌, ◌^◌, ◌<◌, List, [], None, true, refl, sym, ◌∙◌, subst, arith, length}
use Rattle.std.specs.Prelude.{Contains}
use Rattle.fleet_base.specs.Order.{Graph}
use Rattle.fleet_base.specs.State.{FleetState}
use Rattle.fleet_base.specs.Open.{is_open}
use Rattle.cert_tree.specs.Decisions.{side_on}
use Rattle.cert_tree.specs.Trees.{Tree, IsRight, IsSpent, IsSpentTree}
use Rattle.cert_tree.proofs.Branches.{decided, fewer_branches}
use Rattle.cert_tree.proofs.TreeBound.{both_rules}

-- each way branches on different pairs, and leaves one at an open leaf
pub spent_within_pairs : (g : Graph) (x : FleetState) (pairs : List ℕ) (cost least budget : ℕ) (tree : Tree) → ((q : ℕ) → is_open g x q ≡ true → Contains pairs q) → IsSpentTree g x cost least budget tree → budget + 1 < 2 ^ length pairs
spent_within_pairs g x pairs cost least budget tree all spent =
    let h = fewer_branches (λ q r. q ≡ r) (λ q r e. sym e) (λ q r s e f. e ∙ f) (λ q. is_open g x q ≡ true) pairs (λ q o. (q, all q o, refl)) (λ way node. IsRight g x cost way node × IsSpent g x cost least way node)
    (λ way q k. (k.0.0, λ r in_way same. decided way r in_way (subst (λ (w : ℕ). side_on way w ≡ None) same k.0.1))) (λ way v k. (k.1.pair, k.1.free.0, λ r same. subst (λ (w : ℕ). side_on way w ≡ None) same k.1.free.1)) tree least
    (both_rules (IsRight g x cost) (IsSpent g x cost least) tree [] spent.right spent.spent) spent.reached in
    omega (arith, h, spent.branches)
