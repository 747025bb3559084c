-- How many nodes of a tree can be branches, where each way branches on different things and leaves one at an open leaf.
use Rattle.std.proofs.Common.{ℕ, suc, zero, ◌≡◌, ◌≢◌, ◌+◌, ◌^◌, ◌<◌, ◌≤◌, ◌⊎◌, List, [], ◌∷◌, ◌++◌, Some, None, true, false, Bool, cond, refl, sym, ◌∙◌, subst, inl, inr, arith, length, eqb}
use Rattle.std.specs.Prelude.{Contains}
use Rattle.std.proofs.lemmas.Bool.{eqb-true, eq-eqb}
use Rattle.std.proofs.lemmas.List.Elements.{Contains-append_cases}
use Rattle.fleet_base.specs.declared.order.PairId.{PairId}
use Rattle.fleet_base.specs.declared.order.Side.{Side}
use Rattle.fleet_base.specs.declared.order.Side.TheVariants.{Lower, Higher}
use Rattle.fleet_base.specs.Lists.{Chain}
use Rattle.fleet_base.specs.Order.{Graph}
use Rattle.fleet_base.specs.State.{FleetState}
use Rattle.fleet_base.proofs.Members.{head_in, tail_in, in_cons, in_none}
use Rattle.cert_tree.specs.declared.node.Node.{Node}
use Rattle.cert_tree.specs.declared.node.Node.TheVariants.{Branch, OpenLeaf}
use Rattle.cert_tree.specs.Decisions.{Decision, side_on}
use Rattle.fleet_base.specs.Groups.{AreMates, AreOneApart, AreGrouped, IsInOpenGroup, AreOpenGroups}
use Rattle.fleet_base.proofs.Mates.{mates_turned}
use Rattle.cert_tree.specs.Trees.{Tree, EachNode, branch_to, force_to, branch_count, left_costs, IsSpentTree}
use Rattle.cert_tree.specs.GroupRules.{branch_pairs, KeepsGroups, IsGroupedTree}
use Rattle.cert_tree.specs.Trees.Tree.{Fork, Forced, Refuted, Bounded, Left}

-- a list without a number
abbrev without : ℕ → List ℕ → List ℕ
without n [] = []
without n (x ∷ xs) = cond (eqb x n) (without n xs) (x ∷ without n xs)

length-without : (n : ℕ) (xs : List ℕ) → length (without n xs) ≤ length xs
length-without n [] = omega arith
length-without n (x ∷ xs) = go (eqb x n) (length-without n xs)
  where
    go : (b : Bool) → length (without n xs) ≤ length xs → length (cond b (without n xs) (x ∷ without n xs)) ≤ length (x ∷ xs)
    go true h = omega arith
    go false h = omega arith

-- is shorter where the number was in it
shorter : (n : ℕ) (xs : List ℕ) → Contains xs n → suc (length (without n xs)) ≤ length xs
shorter n [] h = absurd (in_none n h)
shorter n (x ∷ xs) h = go (eqb x n) refl (in_cons x xs n h) (λ r. shorter n xs r)
  where
    go : (b : Bool) → eqb x n ≡ b → (x ≡ n) ⊎ Contains xs n → (Contains xs n → suc (length (without n xs)) ≤ length xs) → suc (length (cond b (without n xs) (x ∷ without n xs))) ≤ length (x ∷ xs)
    go true e o rest = let l = length-without n xs in omega arith
    go false e (inl s) rest = let t = eq-eqb x n s in cc
    go false e (inr r) rest = let l = rest r in omega arith

-- and keeps all others
others_stay : (n : ℕ) (xs : List ℕ) (m : ℕ) → Contains xs m → m ≢ n → Contains (without n xs) m
others_stay n [] m h ne = absurd (in_none m h)
others_stay n (x ∷ xs) m h ne = go (eqb x n) refl (in_cons x xs m h) (λ r. others_stay n xs m r ne)
  where
    go : (b : Bool) → eqb x n ≡ b → (x ≡ m) ⊎ Contains xs m → (Contains xs m → Contains (without n xs) m) → Contains (cond b (without n xs) (x ∷ without n xs)) m
    go true e (inl s) rest = absurd (ne (sym s ∙ eqb-true x n e))
    go true e (inr r) rest = rest r
    go false e (inl s) rest = subst (λ (w : ℕ). Contains (x ∷ without n xs) w) s (head_in x (without n xs))
    go false e (inr r) rest = tail_in x (without n xs) m (rest r)

-- ---- chains of mates go both ways

longer : (g : Graph) (xs ys : List ℕ) (q r s : ℕ) → Chain (AreMates g) q xs r → Chain (AreMates g) r ys s → Chain (AreMates g) q (xs ++ r ∷ ys) s
longer g [] ys q r s a b = (a, b)
longer g (x ∷ xs) ys q r s a b = (a.0, longer g xs ys x r s a.1 b)

back : (g : Graph) (xs : List ℕ) (q r : ℕ) → Chain (AreMates g) q xs r → (ys : List ℕ) × Chain (AreMates g) r ys q
back g [] q r c = ([], mates_turned g q r c)
back g (x ∷ xs) q r c = let b = back g xs x r c.1 in (b.0 ++ x ∷ [], longer g b.0 [] r x q b.1 (mates_turned g q x c.0))

pub grouped_back : (g : Graph) (q r : ℕ) → AreGrouped g q r → AreGrouped g r q
grouped_back g q r (inl e) = inl (sym e)
grouped_back g q r (inr (xs, c)) = inr (back g xs q r c)

pub grouped_on : (g : Graph) (q r s : ℕ) → AreGrouped g q r → AreGrouped g r s → AreGrouped g q s
grouped_on g q r s (inl e) h = subst (λ (w : ℕ). AreGrouped g w s) (sym e) h
grouped_on g q r s (inr c) (inl e) = subst (λ (w : ℕ). AreGrouped g q w) e (inr c)
grouped_on g q r s (inr (xs, c)) (inr (ys, d)) = inr (xs ++ r ∷ ys, longer g xs ys q r s c d)

-- ---- the count

-- twice a power
double : (n : ℕ) → 2 ^ suc n ≡ 2 ^ n + 2 ^ n
double n = grind arith

positive : (n : ℕ) → 1 ≤ 2 ^ n
positive zero = omega arith
positive (suc n) = let h = positive n in let d = double n in omega arith

-- a pair that was branched on is decided
pub decided : (way : List Decision) (r : ℕ) → Contains (branch_pairs way) r → side_on way r ≡ None → ⊥
decided [] r h e = in_none r h
decided (d ∷ ds) r h e = go (eqb d.pair r) refl e d.branched h (decided ds r)
  where
    later : eqb d.pair r ≡ false → (d.pair ≡ r) ⊎ Contains (branch_pairs ds) r → Contains (branch_pairs ds) r
    later ne (inl s) = let t = eq-eqb d.pair r s in cc
    later ne (inr k) = k

    in_rest : eqb d.pair r ≡ false → (b : Bool) → Contains (cond b (d.pair ∷ branch_pairs ds) (branch_pairs ds)) r → Contains (branch_pairs ds) r
    in_rest ne true k = later ne (in_cons d.pair (branch_pairs ds) r k)
    in_rest ne false k = k

    go : (b : Bool) → eqb d.pair r ≡ b → cond b (Some d.side) (side_on ds r) ≡ None → (c : Bool) → Contains (cond c (d.pair ∷ branch_pairs ds) (branch_pairs ds)) r → (Contains (branch_pairs ds) r → side_on ds r ≡ None → ⊥) → ⊥
    go true t k c m rest = cc
    go false t k c m rest = rest (in_rest t c m) k

module _ (Joined : ℕ → ℕ → Type 0) (back : (q r : ℕ) → Joined q r → Joined r q) (on : (q r s : ℕ) → Joined q r → Joined r s → Joined q s)
    (Is : ℕ → Type 0) (things : List ℕ) (each : (q : ℕ) → Is q → (r : ℕ) × Contains things r × Joined q r)
    (Keeps : List Decision → Node → Type 0)
    (branch_rule : (way : List Decision) (q : PairId) → Keeps way (Branch q) → Is q.0 × ((r : ℕ) → Contains (branch_pairs way) r → ¬ Joined q.0 r))
    (leaf_rule : (way : List Decision) (v : ℕ) → Keeps way (OpenLeaf v) → (q : ℕ) × Is q × ((r : ℕ) → Joined q r → side_on way r ≡ None)) where
  -- everything that was not branched on is among what is left
  abbrev AreLeft : List Decision → List ℕ → Type 0
  AreLeft way left = (n : ℕ) → Contains things n → ((r : ℕ) → Contains (branch_pairs way) r → ¬ Joined n r) → Contains left n

  -- so what stands for a Branch pair is
  named : (way : List Decision) (left : List ℕ) (q : PairId) → AreLeft way left → Keeps way (Branch q) → (n : ℕ) × Contains left n × Joined q.0 n
  named way left q are keeps =
      let b = branch_rule way q keeps in
      let n = each q.0 b.0 in
      (n.0, are n.0 n.1 (λ r in_way joined. b.1 r in_way (on q.0 n.0 r n.2 joined)), n.2)

  -- after the branch it is not
  one_less : (way : List Decision) (left : List ℕ) (q : PairId) (side : Side) (n : ℕ) → AreLeft way left → Joined q.0 n → AreLeft (branch_to q side ∷ way) (without n left)
  one_less way left q side n are joined m there apart =
      others_stay n left m (are m there (λ r in_way. apart r (tail_in q.0 (branch_pairs way) r in_way)))
      (λ same. apart q.0 (head_in q.0 (branch_pairs way)) (subst (λ (w : ℕ). Joined w q.0) (sym same) (back q.0 n joined)))

  -- at most so many branches
  few : (tree : Tree) (way : List Decision) (left : List ℕ) (n : ℕ) → length left ≤ n → AreLeft way left → EachNode Keeps way tree → branch_count tree < 2 ^ n
  few (Fork q lower higher) way left zero small are r = let m = named way left q are r.0 in absurd (omega (arith, shorter m.0 left m.1))
  few (Fork q lower higher) way left (suc n) small are r =
      let m = named way left q are r.0 in
      let l = shorter m.0 left m.1 in
      let a = few lower (branch_to q Lower ∷ way) (without m.0 left) n (omega arith) (one_less way left q Lower m.0 are m.2) r.1 in
      let b = few higher (branch_to q Higher ∷ way) (without m.0 left) n (omega arith) (one_less way left q Higher m.0 are m.2) r.2 in
      let d = double n in
      omega arith
  few (Forced q side cycle rest) way left n small are r = few rest (force_to q side ∷ way) left n small are r.1
  few (Refuted cycle) way left n small are r = positive n
  few (Bounded paths) way left n small are r = positive n
  few (Left v) way left n small are r = positive n

  -- something is left at an open leaf
  one_left : (way : List Decision) (left : List ℕ) (v : ℕ) → AreLeft way left → Keeps way (OpenLeaf v) → (n : ℕ) × Contains left n
  one_left way left v are keeps =
      let f = leaf_rule way v keeps in
      let n = each f.0 f.1 in
      (n.0, are n.0 n.1 (λ r in_way joined. decided way r in_way (f.2 r (on f.0 n.0 r n.2 joined))))

  -- and with an open leaf one less
  pub fewer : (tree : Tree) (way : List Decision) (left : List ℕ) (n v : ℕ) → length left ≤ n → AreLeft way left → EachNode Keeps way tree → Contains (left_costs tree) v → branch_count tree + 1 < 2 ^ n
  fewer (Fork q lower higher) way left zero v small are r h = let m = named way left q are r.0 in absurd (omega (arith, shorter m.0 left m.1))
  fewer (Fork q lower higher) way left (suc n) v small are r h =
      let m = named way left q are r.0 in
      let l = shorter m.0 left m.1 in
      let al = one_less way left q Lower m.0 are m.2 in
      let ah = one_less way left q Higher m.0 are m.2 in
      let a = few lower (branch_to q Lower ∷ way) (without m.0 left) n (omega arith) al r.1 in
      let b = few higher (branch_to q Higher ∷ way) (without m.0 left) n (omega arith) ah r.2 in
      go (Contains-append_cases (left_costs lower) (left_costs higher) v h) (λ k. fewer lower (branch_to q Lower ∷ way) (without m.0 left) n v (omega arith) al r.1 k) (λ k. fewer higher (branch_to q Higher ∷ way) (without m.0 left) n v (omega arith) ah r.2 k) a b
    where
      go : {P Q : Type 0} → P ⊎ Q → (P → branch_count lower + 1 < 2 ^ n) → (Q → branch_count higher + 1 < 2 ^ n) → branch_count lower < 2 ^ n → branch_count higher < 2 ^ n → 1 + branch_count lower + branch_count higher + 1 < 2 ^ suc n
      go (inl o) f k a b = let z = f o in let d = double n in omega arith
      go (inr o) f k a b = let z = k o in let d = double n in omega arith
  fewer (Forced q side cycle rest) way left n v small are r h = fewer rest (force_to q side ∷ way) left n v small are r.1 h
  fewer (Refuted cycle) way left n v small are r h = absurd (in_none v h)
  fewer (Bounded paths) way left n v small are r h = absurd (in_none v h)
  fewer (Left w) way left zero v small are r h = let m = one_left way left w are r in absurd (omega (arith, shorter m.0 left m.1))
  fewer (Left w) way left (suc n) v small are r h = let p = positive n in let d = double n in omega arith

  pub fewer_branches : (tree : Tree) (v : ℕ) → EachNode Keeps [] tree → Contains (left_costs tree) v → branch_count tree + 1 < 2 ^ length things
  fewer_branches tree v r h = fewer tree [] things (length things) v (omega arith) (λ n there apart. there) r h

-- ---- open groups

-- a tree that keeps the rule on groups and has an open leaf has fewer than 2 ^ n - 1 branches, with n open groups
pub fewer_than_groups : (g : Graph) (x : FleetState) (groups : List ℕ) (tree : Tree) (v : ℕ) → AreOpenGroups g x groups → IsGroupedTree g x tree → Contains (left_costs tree) v → branch_count tree + 1 < 2 ^ length groups
fewer_than_groups g x groups tree v are keeps h =
    fewer_branches (AreGrouped g) (grouped_back g) (grouped_on g) (IsInOpenGroup g x) groups are.each (KeepsGroups g x) (λ way q k. k) (λ way w k. k) tree v keeps h

pub spent_within_groups : (g : Graph) (x : FleetState) (groups : List ℕ) (cost least budget : ℕ) (tree : Tree) → AreOpenGroups g x groups → IsSpentTree g x cost least budget tree → IsGroupedTree g x tree → budget + 1 < 2 ^ length groups
spent_within_groups g x groups cost least budget tree are spent keeps =
    let h = fewer_than_groups g x groups tree least are keeps spent.reached in
    omega (arith, h, spent.branches)
