-- A node of a spent tree is judged first groups apart, and then by its groups.
use Rattle.std.proofs.Common.{ℕ, ◌≡◌, ◌<◌, ◌⊎◌, List, Some, None, Option, true, false, sym, subst, inl, inr, arith}
use Rattle.std.specs.Prelude.{is_some}
use Rattle.fleet_base.specs.Order.{Graph}
use Rattle.fleet_base.specs.State.{FleetState}
use Rattle.cert_tree.specs.declared.node.Node.{Node}
use Rattle.cert_tree.specs.declared.node.Node.TheVariants.{Branch, OpenLeaf}
use Rattle.cert_tree.specs.Decisions.{Decision}
use Rattle.cert_tree.specs.Trees.{IsRight, IsSpent}
use Rattle.cert_check.specs.declared.judge.Kind.{Kind}
use Rattle.cert_check.specs.declared.judge.Kind.TheVariants as kind
use Rattle.cert_check.specs.declared.verdict.NoWhy.{NoWhy}
use Rattle.cert_check.specs.declared.verdict.NoWhy.TheVariants.{Pair, Leaf, Needed, Group}
use Rattle.cert_check.specs.Verdicts.{rank_of, IsSpentFault}
use Rattle.cert_check.specs.Judging.{IsFaultAlone, IsGroupFault, MeetsAlone, FailsAlone, MeetsAs, FailsAs, Judges, JudgesGroup}
use Rattle.cert_check.proofs.OneVerdict.{right_excludes}

module _ (g : Graph) (x : FleetState) (cost least : ℕ) (way : List Decision) where
  -- a word that fits is one of the two
  one_of_two : (node : Node) (why : NoWhy) → IsSpentFault g x cost least way node why → IsFaultAlone g x cost least way node why ⊎ IsGroupFault g x way node why
  one_of_two (OpenLeaf v) Leaf f = f
  one_of_two (Branch q) Needed f = inl f
  one_of_two (Branch q) Group f = inr f
  one_of_two node why f = inl f

  alone_fits : (node : Node) (why : NoWhy) → IsFaultAlone g x cost least way node why → IsSpentFault g x cost least way node why
  alone_fits (OpenLeaf v) Leaf f = inl f
  alone_fits (Branch q) Needed f = f
  alone_fits (Branch q) Group f = absurd f
  alone_fits node why f = f

  group_fits : (node : Node) (why : NoWhy) → IsGroupFault g x way node why → IsSpentFault g x cost least way node why
  group_fits (OpenLeaf v) Leaf f = inr f
  group_fits (Branch q) Group f = f
  group_fits node why f = absurd f

  -- where the node meets the other rules, no word fits groups apart
  excludes_alone : (node : Node) (why : NoWhy) → IsRight g x cost way node × IsSpent g x cost least way node → IsFaultAlone g x cost least way node why → ⊥
  excludes_alone (OpenLeaf v) Leaf m f = f m.1
  excludes_alone (Branch q) Needed m f = f m.1
  excludes_alone node why m f = right_excludes g x cost way node why m.0 f

  -- a word on groups has no smaller rank than another on them
  same_rank : (node : Node) (w why : NoWhy) → IsGroupFault g x way node w → IsGroupFault g x way node why → rank_of w < rank_of why → ⊥
  same_rank (OpenLeaf v) Leaf Leaf a b lt = omega (arith, lt)
  same_rank (Branch q) Group Group a b lt = omega (arith, lt)
  same_rank (OpenLeaf v) Leaf why a b lt = b
  same_rank (Branch q) Group why a b lt = b
  same_rank node w why a b lt = a

  -- nor than one that fits groups apart
  ranks_after : (node : Node) (w why : NoWhy) → IsGroupFault g x way node w → IsFaultAlone g x cost least way node why → rank_of w < rank_of why → ⊥
  ranks_after (OpenLeaf v) Leaf Leaf a b lt = omega (arith, lt)
  ranks_after (OpenLeaf v) Leaf why a b lt = b
  ranks_after (Branch q) Group Pair a b lt = omega (arith, lt)
  ranks_after (Branch q) Group Needed a b lt = omega (arith, lt)
  ranks_after (Branch q) Group why a b lt = b
  ranks_after node w why a b lt = a

  -- a word that fits first groups apart does so with them
  pub fails_alone : (node : Node) (why : NoWhy) → Judges (MeetsAlone g x cost (kind.Spent least) way node) (FailsAlone g x cost (kind.Spent least) way node) (Some why) → Judges (MeetsAs g x cost (kind.Spent least) way node) (FailsAs g x cost (kind.Spent least) way node) (Some why)
  fails_alone node why (here, first) = (alone_fits node why here, λ w lt f. go w lt (one_of_two node w f))
    where
      go : (w : NoWhy) → rank_of w < rank_of why → IsFaultAlone g x cost least way node w ⊎ IsGroupFault g x way node w → ⊥
      go w lt (inl a) = first w lt a
      go w lt (inr b) = ranks_after node w why b here lt

  -- where none does, the groups decide
  pub groups_decide : (node : Node) (found : Option NoWhy) → IsRight g x cost way node × IsSpent g x cost least way node → JudgesGroup g x way node found → Judges (MeetsAs g x cost (kind.Spent least) way node) (FailsAs g x cost (kind.Spent least) way node) found
  groups_decide node None m k = (m, k)
  groups_decide node (Some why) m b = (group_fits node why b, λ w lt f. go w lt (one_of_two node w f))
    where
      go : (w : NoWhy) → rank_of w < rank_of why → IsFaultAlone g x cost least way node w ⊎ IsGroupFault g x way node w → ⊥
      go w lt (inl a) = excludes_alone node w m a
      go w lt (inr c) = same_rank node w why c b lt

  -- what is found groups apart, at the kind at hand
  pub met_alone : (found : Option NoWhy) (k : Kind) → is_some found ≡ false → k ≡ kind.Spent least → (node : Node) → Judges (MeetsAlone g x cost k way node) (FailsAlone g x cost k way node) found → IsRight g x cost way node × IsSpent g x cost least way node
  met_alone None k n e node j = subst (λ k. MeetsAlone g x cost k way node) e j
  met_alone (Some why) k n e node j = cc

  pub fails_at_kind : (found : Option NoWhy) (k : Kind) → is_some found ≡ true → k ≡ kind.Spent least → (node : Node) → Judges (MeetsAlone g x cost k way node) (FailsAlone g x cost k way node) found → Judges (MeetsAs g x cost k way node) (FailsAs g x cost k way node) found
  fails_at_kind None k n e node j = cc
  fails_at_kind (Some why) k n e node j = subst (λ k. Judges (MeetsAs g x cost k way node) (FailsAs g x cost k way node) (Some why)) (sym e) (fails_alone node why (subst (λ k. Judges (MeetsAlone g x cost k way node) (FailsAlone g x cost k way node) (Some why)) e j))

  pub decide_at_kind : (found : Option NoWhy) (k : Kind) → k ≡ kind.Spent least → (node : Node) → IsRight g x cost way node × IsSpent g x cost least way node → JudgesGroup g x way node found → Judges (MeetsAs g x cost k way node) (FailsAs g x cost k way node) found
  decide_at_kind found k e node m j = subst (λ k. Judges (MeetsAs g x cost k way node) (FailsAs g x cost k way node) found) (sym e) (groups_decide node found m j)

-- an optimal tree has no rule on groups
pub as_optimal : (g : Graph) (x : FleetState) (cost : ℕ) (way : List Decision) (found : Option NoWhy) (k : Kind) → k ≡ kind.Optimal → (node : Node) → Judges (MeetsAlone g x cost k way node) (FailsAlone g x cost k way node) found → Judges (MeetsAs g x cost k way node) (FailsAs g x cost k way node) found
as_optimal g x cost way found k e node j = subst (λ k. Judges (MeetsAs g x cost k way node) (FailsAs g x cost k way node) found) (sym e) (subst (λ k. Judges (MeetsAlone g x cost k way node) (FailsAlone g x cost k way node) found) e j)
