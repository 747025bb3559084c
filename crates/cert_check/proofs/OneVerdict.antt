-- A list of nodes has one verdict: a tree of its kind has no fault, and there is one first fault.
use Rattle.std.proofs.Common.{ℕ, suc, zero, ◌≡◌, ◌<◌, ◌≤◌, ◌⊎◌, List, [], ◌∷◌, refl, sym, ap, ◌∙◌, subst, inl, inr, arith, length, append-nil}
use Rattle.std.specs.Prelude.{Contains, All}
use Rattle.std.proofs.lemmas.Bool.{cases_lt}
use Rattle.std.proofs.lemmas.List.{take_all}
use Rattle.fleet_base.specs.Order.{Graph}
use Rattle.fleet_base.specs.State.{FleetState}
use Rattle.fleet_base.proofs.Members.{in_none}
use Rattle.cert_tree.specs.declared.node.Node.{Node}
use Rattle.cert_tree.specs.declared.node.Node.TheVariants.{Branch, Force, Cyclic, Bound, OpenLeaf}
use Rattle.cert_tree.specs.Decisions.{Decision}
use Rattle.cert_tree.specs.GroupRules.{KeepsGroups, IsGroupedTree}
use Rattle.cert_tree.specs.Trees.{Tree, nodes_of, EachNode, IsRight, IsClosing, IsSpent, IsSpentTree}
use Rattle.cert_check.specs.declared.verdict.NoWhy.{NoWhy}
use Rattle.cert_check.specs.declared.verdict.NoWhy.TheVariants.{Shape, Pair, Cycle, Path, Sum, Leaf, Needed, Group, Count, Least, Order, Cost}
use Rattle.cert_check.specs.declared.verdict.Verdict.{Verdict}
use Rattle.cert_check.specs.declared.verdict.Verdict.TheVariants.{Yes, No}
use Rattle.cert_check.specs.Verdicts.{IsFault, IsOptimalFault, IsSpentFault, IsSpentWholeFault, IsNoFault, Fits, rank_of, IsFirstFault, OptimalVerdict, SpentVerdict}
use Rattle.cert_tree.specs.Preorder.{ways_left, branches_in, left_in}
use Rattle.cert_check.specs.Verdicts.Fits.{after_the_end, too_early, at_node, in_whole}
use Rattle.cert_tree.proofs.TreeBound.{both_rules}
use Rattle.cert_tree.specs.Preorder.{EachListed}
use Rattle.cert_tree.proofs.Preorder.{each_of_tree, met_at, not_after, ways_of_tree, branches_of_tree, left_of_tree}

-- where each node meets the rules that exclude the faults, and so does the whole, no word fits
module _ (meets : List Decision → Node → Type 0) (rule : List Decision → Node → NoWhy → Type 0) (whole : NoWhy → Type 0)
    (excludes : (way : List Decision) (node : Node) (why : NoWhy) → meets way node → rule way node why → ⊥) (complete : (why : NoWhy) → whole why → ⊥) where
  of_list : (nodes : List Node) (tree : Tree) → nodes ≡ nodes_of tree → EachNode meets [] tree → EachListed meets nodes ([] ∷ [])
  of_list nodes tree e m = subst (λ (ns : List Node). EachListed meets ns ([] ∷ [])) (append-nil (nodes_of tree) ∙ sym e) (each_of_tree meets tree [] [] [] m tt)

  pub nothing_fits : (nodes : List Node) (tree : Tree) (k : ℕ) (why : NoWhy) → nodes ≡ nodes_of tree → EachNode meets [] tree → Fits rule whole nodes k why → ⊥
  nothing_fits nodes tree _ _ e m (after_the_end k lt w) = not_after meets nodes ([] ∷ []) k (of_list nodes tree e m) lt w
  nothing_fits nodes tree _ _ e m (too_early w) =
      w (ap (λ (ns : List Node). ways_left ns ([] ∷ [])) (take_all (length nodes) nodes (omega arith) ∙ e ∙ sym (append-nil (nodes_of tree))) ∙ ways_of_tree tree [] [] [])
  nothing_fits nodes tree _ _ e m (at_node k node way ways why here there f) = excludes way node why (met_at meets nodes ([] ∷ []) k node way ways (of_list nodes tree e m) here there) f
  nothing_fits nodes tree _ _ e m (in_whole why f) = complete why f

-- a node that is right has no fault
pub right_excludes : (g : Graph) (x : FleetState) (cost : ℕ) (way : List Decision) (node : Node) (why : NoWhy) → IsRight g x cost way node → IsFault g x cost way node why → ⊥
right_excludes g x cost way (Branch q) Pair m f = f m
right_excludes g x cost way (Force q side cycle) Pair m f = f m.0
right_excludes g x cost way (Force q side cycle) Cycle m f = f m.1
right_excludes g x cost way (Cyclic cycle) Cycle m f = f m
right_excludes g x cost way (Bound paths) Path m f = f m.0
right_excludes g x cost way (Bound paths) Sum m f = omega (arith, m.1, f)
right_excludes g x cost way node why m f = f

pub optimal_excludes : (g : Graph) (x : FleetState) (cost : ℕ) (way : List Decision) (node : Node) (why : NoWhy) → IsRight g x cost way node × IsClosing node → IsOptimalFault g x cost way node why → ⊥
optimal_excludes g x cost way (OpenLeaf v) Leaf m f = m.1
optimal_excludes g x cost way node why m f = right_excludes g x cost way node why m.0 f

pub spent_excludes : (g : Graph) (x : FleetState) (cost least : ℕ) (way : List Decision) (node : Node) (why : NoWhy) → (IsRight g x cost way node × IsSpent g x cost least way node) × KeepsGroups g x way node → IsSpentFault g x cost least way node why → ⊥
spent_excludes g x cost least way (OpenLeaf v) Leaf m (inl f) = f m.0.1
spent_excludes g x cost least way (OpenLeaf v) Leaf m (inr f) = f m.1
spent_excludes g x cost least way (Branch q) Needed m f = f m.0.1
spent_excludes g x cost least way (Branch q) Group m f = f m.1
spent_excludes g x cost least way node why m f = right_excludes g x cost way node why m.0.0 f

whole_excludes : (g : Graph) (x : FleetState) (cost least budget : ℕ) (nodes : List Node) (tree : Tree) (why : NoWhy) → nodes ≡ nodes_of tree → IsSpentTree g x cost least budget tree → IsSpentWholeFault least budget nodes why → ⊥
whole_excludes g x cost least budget nodes tree Count e t (inl f) = f (ap branches_in e ∙ branches_of_tree tree ∙ t.branches)
whole_excludes g x cost least budget nodes tree Count e t (inr f) = in_none least (subst (λ (vs : List ℕ). Contains vs least) (sym (left_of_tree tree) ∙ ap left_in (sym e) ∙ f) t.reached)
whole_excludes g x cost least budget nodes tree Least e t f =
    let same = sym (left_of_tree tree) ∙ ap left_in (sym e) in
    f (subst (λ (vs : List ℕ). Contains vs least) same t.reached, subst (λ (vs : List ℕ). All (λ v. least ≤ v) vs) same t.least_left)
whole_excludes g x cost least budget nodes tree why e t f = f

-- ---- the first fault is one

same_rank : (a b : NoWhy) → rank_of a ≡ rank_of b → a ≡ b
same_rank a b e = sym (from_rank a) ∙ ap word e ∙ from_rank b
  where
    word : ℕ → NoWhy
    word zero = Shape
    word (suc zero) = Pair
    word (suc (suc zero)) = Cycle
    word (suc (suc (suc zero))) = Path
    word (suc (suc (suc (suc zero)))) = Sum
    word (suc (suc (suc (suc (suc zero))))) = Leaf
    word (suc (suc (suc (suc (suc (suc zero)))))) = Needed
    word (suc (suc (suc (suc (suc (suc (suc zero))))))) = Group
    word (suc (suc (suc (suc (suc (suc (suc (suc zero)))))))) = Count
    word (suc (suc (suc (suc (suc (suc (suc (suc (suc zero))))))))) = Least
    word (suc (suc (suc (suc (suc (suc (suc (suc (suc (suc zero)))))))))) = Order
    word (suc (suc (suc (suc (suc (suc (suc (suc (suc (suc (suc n))))))))))) = Cost

    from_rank : (w : NoWhy) → word (rank_of w) ≡ w
    from_rank Shape = refl
    from_rank Pair = refl
    from_rank Cycle = refl
    from_rank Path = refl
    from_rank Sum = refl
    from_rank Leaf = refl
    from_rank Needed = refl
    from_rank Group = refl
    from_rank Count = refl
    from_rank Least = refl
    from_rank Order = refl
    from_rank Cost = refl

one_first : (fits : ℕ → NoWhy → Type 0) (j k : ℕ) (a b : NoWhy) → IsFirstFault fits j a → IsFirstFault fits k b → (j ≡ k) × (a ≡ b)
one_first fits j k a b f h = go (cases_lt j k) (cases_lt k j) (cases_lt (rank_of a) (rank_of b)) (cases_lt (rank_of b) (rank_of a))
  where
    go : (j < k) ⊎ (k ≤ j) → (k < j) ⊎ (j ≤ k) → (rank_of a < rank_of b) ⊎ (rank_of b ≤ rank_of a) → (rank_of b < rank_of a) ⊎ (rank_of a ≤ rank_of b) → (j ≡ k) × (a ≡ b)
    go (inl lt) o p q = absurd (h.first j a (inl lt) f.here)
    go (inr le) (inl lt) p q = absurd (f.first k b (inl lt) h.here)
    go (inr le) (inr ge) (inl lt) q = absurd (h.first j a (inr (omega arith, lt)) f.here)
    go (inr le) (inr ge) (inr l) (inl lt) = absurd (f.first k b (inr (omega arith, lt)) h.here)
    go (inr le) (inr ge) (inr l) (inr m) = (omega arith, same_rank a b (omega arith))

no_equal : (j k : ℕ) (a b : NoWhy) → (j ≡ k) × (a ≡ b) → No j a ≡ No k b
no_equal j k a b e = λ i. No (e.0 i) (e.1 i)

pub one_optimal_verdict : (g : Graph) (x : FleetState) (cost : ℕ) (nodes : List Node) (v w : Verdict) → OptimalVerdict g x cost nodes v → OptimalVerdict g x cost nodes w → v ≡ w
one_optimal_verdict g x cost nodes Yes Yes a b = refl
one_optimal_verdict g x cost nodes Yes (No k why) a b = absurd (nothing_fits (λ way node. IsRight g x cost way node × IsClosing node) (IsOptimalFault g x cost) IsNoFault (optimal_excludes g x cost) (λ why f. f) nodes a.0 k why a.1 a.2 b.here)
one_optimal_verdict g x cost nodes (No k why) Yes a b = absurd (nothing_fits (λ way node. IsRight g x cost way node × IsClosing node) (IsOptimalFault g x cost) IsNoFault (optimal_excludes g x cost) (λ why f. f) nodes b.0 k why b.1 b.2 a.here)
one_optimal_verdict g x cost nodes (No j a) (No k b) f h = no_equal j k a b (one_first (Fits (IsOptimalFault g x cost) IsNoFault nodes) j k a b f h)

spent_fits_not : (g : Graph) (x : FleetState) (cost least budget : ℕ) (nodes : List Node) (tree : Tree) (k : ℕ) (why : NoWhy) → nodes ≡ nodes_of tree → IsSpentTree g x cost least budget tree → IsGroupedTree g x tree
    → Fits (IsSpentFault g x cost least) (IsSpentWholeFault least budget nodes) nodes k why → ⊥
spent_fits_not g x cost least budget nodes tree k why e t groups f =
    nothing_fits (λ way node. (IsRight g x cost way node × IsSpent g x cost least way node) × KeepsGroups g x way node) (IsSpentFault g x cost least) (IsSpentWholeFault least budget nodes) (spent_excludes g x cost least)
    (λ w h. whole_excludes g x cost least budget nodes tree w e t h) nodes tree k why e
    (both_rules (λ way node. IsRight g x cost way node × IsSpent g x cost least way node) (KeepsGroups g x) tree [] (both_rules (IsRight g x cost) (IsSpent g x cost least) tree [] t.right t.spent) groups) f

pub one_spent_verdict : (g : Graph) (x : FleetState) (cost least budget : ℕ) (nodes : List Node) (v w : Verdict) → SpentVerdict g x cost least budget nodes v → SpentVerdict g x cost least budget nodes w → v ≡ w
one_spent_verdict g x cost least budget nodes Yes Yes a b = refl
one_spent_verdict g x cost least budget nodes Yes (No k why) a b = absurd (spent_fits_not g x cost least budget nodes a.0 k why a.1 a.2 a.3 b.here)
one_spent_verdict g x cost least budget nodes (No k why) Yes a b = absurd (spent_fits_not g x cost least budget nodes b.0 k why b.1 b.2 b.3 a.here)
one_spent_verdict g x cost least budget nodes (No j a) (No k b) f h = no_equal j k a b (one_first (Fits (IsSpentFault g x cost least) (IsSpentWholeFault least budget nodes) nodes) j k a b f h)
