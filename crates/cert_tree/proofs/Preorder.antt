-- A tree and the list of its nodes.
use Rattle.std.proofs.Common.{ℕ, suc, zero, ◌≡◌, ◌≢◌, ◌+◌, ◌<◌, ◌≤◌, List, [], ◌∷◌, ◌++◌, Some, refl, sym, ap, ◌∙◌, subst, arith, length, take, append_assoc, append-nil}
use Rattle.std.specs.Prelude.{slice_get}
use Rattle.fleet_base.specs.declared.order.Side.TheVariants.{Lower, Higher}
use Rattle.cert_tree.specs.declared.node.Node.{Node}
use Rattle.cert_tree.specs.declared.node.Node.TheVariants.{Branch, Force, Cyclic, Bound, OpenLeaf}
use Rattle.cert_tree.specs.Decisions.{Decision}
use Rattle.cert_tree.specs.Trees.{Tree, nodes_of, EachNode, branch_to, force_to, branch_count, left_costs}
use Rattle.cert_tree.specs.Trees.Tree.{Fork, Forced, Refuted, Bounded, Left}
use Rattle.cert_tree.specs.Preorder.{ways_after, ways_left, branches_in, left_in}
use Rattle.cert_tree.specs.Preorder.{EachListed}

module _ (meets : List Decision → Node → Type 0) where
  -- the nodes of a tree, followed by others
  pub each_of_tree : (tree : Tree) (way : List Decision) (rest : List Node) (ways : List (List Decision)) → EachNode meets way tree → EachListed meets rest ways → EachListed meets (nodes_of tree ++ rest) (way ∷ ways)
  each_of_tree (Fork q lower higher) way rest ways m r =
      let h = each_of_tree higher (branch_to q Higher ∷ way) rest ways m.2 r in
      let l = each_of_tree lower (branch_to q Lower ∷ way) (nodes_of higher ++ rest) ((branch_to q Higher ∷ way) ∷ ways) m.1 h in
      (m.0, subst (λ (ns : List Node). EachListed meets ns ((branch_to q Lower ∷ way) ∷ (branch_to q Higher ∷ way) ∷ ways)) (sym (append_assoc (nodes_of lower) (nodes_of higher) rest)) l)
  each_of_tree (Forced q side cycle tree) way rest ways m r = (m.0, each_of_tree tree (force_to q side ∷ way) rest ways m.1 r)
  each_of_tree (Refuted cycle) way rest ways m r = (m, r)
  each_of_tree (Bounded paths) way rest ways m r = (m, r)
  each_of_tree (Left v) way rest ways m r = (m, r)

  -- at its place each node meets the rule
  pub met_at : (nodes : List Node) (ways : List (List Decision)) (k : ℕ) (node : Node) (way : List Decision) (more : List (List Decision)) → EachListed meets nodes ways → slice_get nodes k ≡ Some node → ways_left (take k nodes) ways ≡ way ∷ more → meets way node
  met_at [] ways k node way more m e w = cc
  met_at (n ∷ ns) [] k node way more m e w = absurd m
  met_at (n ∷ ns) (way' ∷ ways) zero node way more m e w =
      let a : n ≡ node = cc in
      let b : way' ≡ way = cc in
      subst (λ (z : List Decision). meets z node) b (subst (λ (z : Node). meets way' z) a m.0)
  met_at (n ∷ ns) (way' ∷ ways) (suc k) node way more m e w = met_at ns (ways_after n (way' ∷ ways)) k node way more m.1 e w

  -- no node comes after the end
  pub not_after : (nodes : List Node) (ways : List (List Decision)) (k : ℕ) → EachListed meets nodes ways → k < length nodes → ways_left (take k nodes) ways ≢ []
  not_after [] ways k m lt = absurd (omega (arith, lt))
  not_after (n ∷ ns) [] k m lt = absurd m
  not_after (n ∷ ns) (way ∷ ways) zero m lt = λ e. cc
  not_after (n ∷ ns) (way ∷ ways) (suc k) m lt = not_after ns (ways_after n (way ∷ ways)) k m.1 (omega (arith, lt))

  -- a list whose nodes meet the rule, and that ends as it should, begins with the nodes of a tree
  pub record Read (nodes : List Node) (way : List Decision) (ways : List (List Decision)) : Type 0 where
    pub tree : Tree
    pub rest : List Node
    pub is : nodes ≡ nodes_of tree ++ rest
    pub meet : EachNode meets way tree
    pub rest_meet : EachListed meets rest ways
    pub ends : ways_left rest ways ≡ []
    pub shorter : length rest < length nodes

  pub tree_of : (n : ℕ) (nodes : List Node) (way : List Decision) (ways : List (List Decision)) → length nodes ≤ n → EachListed meets nodes (way ∷ ways) → ways_left nodes (way ∷ ways) ≡ [] → Read nodes way ways
  tree_of n [] way ways h m e = cc
  tree_of zero (node ∷ nodes) way ways h m e = absurd (omega (arith, h))
  tree_of (suc n) (Branch q ∷ nodes) way ways h m e =
      let l = tree_of n nodes (branch_to q Lower ∷ way) ((branch_to q Higher ∷ way) ∷ ways) (omega (arith, h)) m.1 e in
      let r = tree_of n l.rest (branch_to q Higher ∷ way) ways (omega (arith, h, l.shorter)) l.rest_meet l.ends in
      record {
        tree = Fork q l.tree r.tree;
        rest = r.rest;
        is = ap (λ (ns : List Node). Branch q ∷ ns) (l.is ∙ ap (λ (ns : List Node). nodes_of l.tree ++ ns) r.is ∙ sym (append_assoc (nodes_of l.tree) (nodes_of r.tree) r.rest));
        meet = (m.0, l.meet, r.meet);
        rest_meet = r.rest_meet;
        ends = r.ends;
        shorter = omega (arith, l.shorter, r.shorter);
      }
  tree_of (suc n) (Force q side cycle ∷ nodes) way ways h m e =
      let l = tree_of n nodes (force_to q side ∷ way) ways (omega (arith, h)) m.1 e in
      record {
        tree = Forced q side cycle l.tree;
        rest = l.rest;
        is = ap (λ (ns : List Node). Force q side cycle ∷ ns) l.is;
        meet = (m.0, l.meet);
        rest_meet = l.rest_meet;
        ends = l.ends;
        shorter = omega (arith, l.shorter);
      }
  tree_of (suc n) (Cyclic cycle ∷ nodes) way ways h m e = record { tree = Refuted cycle; rest = nodes; is = refl; meet = m.0; rest_meet = m.1; ends = e; shorter = omega arith }
  tree_of (suc n) (Bound paths ∷ nodes) way ways h m e = record { tree = Bounded paths; rest = nodes; is = refl; meet = m.0; rest_meet = m.1; ends = e; shorter = omega arith }
  tree_of (suc n) (OpenLeaf v ∷ nodes) way ways h m e = record { tree = Left v; rest = nodes; is = refl; meet = m.0; rest_meet = m.1; ends = e; shorter = omega arith }

  -- so a whole list is that of a tree
  pub whole_tree : (nodes : List Node) → EachListed meets nodes ([] ∷ []) → ways_left nodes ([] ∷ []) ≡ [] → (tree : Tree) × (nodes ≡ nodes_of tree) × EachNode meets [] tree
  whole_tree nodes m e =
      let r = tree_of (length nodes) nodes [] [] (omega arith) m e in
      (r.tree, r.is ∙ nothing r.tree r.rest r.rest_meet, r.meet)
    where
      nothing : (tree : Tree) (rest : List Node) → EachListed meets rest [] → nodes_of tree ++ rest ≡ nodes_of tree
      nothing tree [] h = append-nil (nodes_of tree)
      nothing tree (n ∷ ns) h = absurd h

-- a tree's nodes lead to its end
pub ways_of_tree : (tree : Tree) (way : List Decision) (rest : List Node) (ways : List (List Decision)) → ways_left (nodes_of tree ++ rest) (way ∷ ways) ≡ ways_left rest ways
ways_of_tree (Fork q lower higher) way rest ways =
    ap (λ (ns : List Node). ways_left ns ((branch_to q Lower ∷ way) ∷ (branch_to q Higher ∷ way) ∷ ways)) (append_assoc (nodes_of lower) (nodes_of higher) rest)
    ∙ ways_of_tree lower (branch_to q Lower ∷ way) (nodes_of higher ++ rest) ((branch_to q Higher ∷ way) ∷ ways) ∙ ways_of_tree higher (branch_to q Higher ∷ way) rest ways
ways_of_tree (Forced q side cycle tree) way rest ways = ways_of_tree tree (force_to q side ∷ way) rest ways
ways_of_tree (Refuted cycle) way rest ways = refl
ways_of_tree (Bounded paths) way rest ways = refl
ways_of_tree (Left v) way rest ways = refl

-- the same branches and open leaves
pub branches-append : (xs ys : List Node) → branches_in (xs ++ ys) ≡ branches_in xs + branches_in ys
branches-append [] ys = omega arith
branches-append (Branch q ∷ xs) ys = let h = branches-append xs ys in omega arith
branches-append (Force q side cycle ∷ xs) ys = branches-append xs ys
branches-append (Cyclic cycle ∷ xs) ys = branches-append xs ys
branches-append (Bound paths ∷ xs) ys = branches-append xs ys
branches-append (OpenLeaf v ∷ xs) ys = branches-append xs ys

pub branches_of_tree : (tree : Tree) → branches_in (nodes_of tree) ≡ branch_count tree
branches_of_tree (Fork q lower higher) = let a = branches_of_tree lower in let b = branches_of_tree higher in let c = branches-append (nodes_of lower) (nodes_of higher) in omega arith
branches_of_tree (Forced q side cycle rest) = branches_of_tree rest
branches_of_tree (Refuted cycle) = refl
branches_of_tree (Bounded paths) = refl
branches_of_tree (Left v) = refl

pub left-append : (xs ys : List Node) → left_in (xs ++ ys) ≡ left_in xs ++ left_in ys
left-append [] ys = refl
left-append (Branch q ∷ xs) ys = left-append xs ys
left-append (Force q side cycle ∷ xs) ys = left-append xs ys
left-append (Cyclic cycle ∷ xs) ys = left-append xs ys
left-append (Bound paths ∷ xs) ys = left-append xs ys
left-append (OpenLeaf v ∷ xs) ys = ap (λ (vs : List ℕ). v ∷ vs) (left-append xs ys)

pub left_of_tree : (tree : Tree) → left_in (nodes_of tree) ≡ left_costs tree
left_of_tree (Fork q lower higher) = let a = left_of_tree lower in let b = left_of_tree higher in let c = left-append (nodes_of lower) (nodes_of higher) in cc
left_of_tree (Forced q side cycle rest) = left_of_tree rest
left_of_tree (Refuted cycle) = refl
left_of_tree (Bounded paths) = refl
left_of_tree (Left v) = refl

-- ---- one node more

pub ways_one_more : (nodes : List Node) (ways : List (List Decision)) (k : ℕ) (node : Node) → slice_get nodes k ≡ Some node → ways_left (take (suc k) nodes) ways ≡ ways_after node (ways_left (take k nodes) ways)
ways_one_more [] ways k node e = cc
ways_one_more (n ∷ ns) ways zero node e = let same : n ≡ node = cc in ap (λ (m : Node). ways_after m ways) same
ways_one_more (n ∷ ns) ways (suc k) node e = ways_one_more ns (ways_after n ways) k node e

pub each_one_more : (meets : List Decision → Node → Type 0) (nodes : List Node) (ways : List (List Decision)) (k : ℕ) (node : Node) (way : List Decision) (more : List (List Decision))
    → EachListed meets (take k nodes) ways → slice_get nodes k ≡ Some node → ways_left (take k nodes) ways ≡ way ∷ more → meets way node → EachListed meets (take (suc k) nodes) ways
each_one_more meets [] ways k node way more m e w f = cc
each_one_more meets (n ∷ ns) [] zero node way more m e w f = cc
each_one_more meets (n ∷ ns) (way' ∷ ways) zero node way more m e w f =
    let a : node ≡ n = cc in
    let b : way ≡ way' = cc in
    (subst (λ (z : List Decision). meets z n) b (subst (λ (z : Node). meets way z) a f), tt)
each_one_more meets (n ∷ ns) [] (suc k) node way more m e w f = absurd m
each_one_more meets (n ∷ ns) (way' ∷ ways) (suc k) node way more m e w f = (m.0, each_one_more meets ns (ways_after n (way' ∷ ways)) k node way more m.1 e w f)

-- how many ways are left
pub branch_ways : (q : Rattle.fleet_base.specs.declared.order.PairId.PairId) (ways : List (List Decision)) → 1 ≤ length ways → length (ways_after (Branch q) ways) ≡ length ways + 1
branch_ways q [] h = absurd (omega (arith, h))
branch_ways q (way ∷ ways) h = omega arith
