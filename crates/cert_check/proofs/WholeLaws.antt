-- The branches and the open leaves of a list of nodes.
use Rattle.std.proofs.Common.{ℕ, ◌≡◌, ◌+◌, ◌<◌, ◌≤◌, ◌⊎◌, inl, inr, List, [], ◌∷◌, ◌++◌, Some, None, Option, refl, sym, ap, ◌∙◌, subst, arith, length, take, get_or}
use Rattle.std.specs.Prelude.{Contains, All}
use Rattle.std.proofs.lemmas.Bool.{cases_lt}
use Rattle.std.proofs.lemmas.List.{take_more}
use Rattle.std.proofs.lemmas.List.Elements.{All-push, Contains-append_left, Contains-append_right}
use Rattle.fleet_base.proofs.Members.{head_in}
use Rattle.fleet_base.specs.declared.order.PairId.{PairId}
use Rattle.cert_tree.specs.declared.node.Node.{Node}
use Rattle.cert_tree.specs.declared.node.Node.TheVariants.{Branch, Force, Cyclic, Bound, OpenLeaf}
use Rattle.cert_tree.specs.Preorder.{branches_in, left_in}
use Rattle.cert_check.specs.Judging.{lower_of}
use Rattle.cert_tree.proofs.Preorder.{branches-append, left-append}

-- the least of some numbers, if there is one
abbrev pub IsLowest : List ℕ → Option ℕ → Type 0
IsLowest values None = values ≡ []
IsLowest values (Some m) = Contains values m × All (λ v. m ≤ v) values

pub branches_more : (nodes : List Node) (k : ℕ) (n : Node) → k < length nodes → n ≡ get_or nodes k n → branches_in (take (k + 1) nodes) ≡ branches_in (take k nodes) + branches_in (n ∷ [])
branches_more nodes k n h is = ap branches_in (take_more nodes k n h ∙ ap (λ m. take k nodes ++ m ∷ []) (sym is)) ∙ branches-append (take k nodes) (n ∷ [])

pub left_more : (nodes : List Node) (k : ℕ) (n : Node) → k < length nodes → n ≡ get_or nodes k n → left_in (take (k + 1) nodes) ≡ left_in (take k nodes) ++ left_in (n ∷ [])
left_more nodes k n h is = ap left_in (take_more nodes k n h ∙ ap (λ m. take k nodes ++ m ∷ []) (sym is)) ∙ left-append (take k nodes) (n ∷ [])

pub lowest_same : (values more : List ℕ) (lowest : Option ℕ) → values ≡ more → IsLowest more lowest → IsLowest values lowest
lowest_same values more lowest e h = subst (λ vs. IsLowest vs lowest) (sym e) h

pub lowest_more : (values : List ℕ) (lowest : Option ℕ) (v m : ℕ) → IsLowest values lowest → m ≡ lower_of lowest v → IsLowest (values ++ v ∷ []) (Some m)
lowest_more values None v m h e = subst (λ n. IsLowest (values ++ v ∷ []) (Some n)) (sym e) (subst (λ vs. IsLowest (vs ++ v ∷ []) (Some v)) (sym h) (head_in v [], λ k d i. one k d i))
  where
    one : (k d : ℕ) → k < 1 → v ≤ get_or (v ∷ []) k d
    one k d i = let z : k ≡ 0 = omega arith in subst (λ j. v ≤ get_or (v ∷ []) j d) (sym z) (omega arith)
lowest_more values (Some n) v m h e = go (cases_lt v n)
  where
    go : (v < n) ⊎ (n ≤ v) → IsLowest (values ++ v ∷ []) (Some m)
    go (inl lt) = let z : m ≡ v = omega (arith, e) in subst (λ r. IsLowest (values ++ v ∷ []) (Some r)) (sym z) (Contains-append_right values (v ∷ []) v (head_in v []), All-push (λ r. v ≤ r) values v (λ k d i. omega (arith, lt, h.1 k d i)) (omega arith))
    go (inr le) = let z : m ≡ n = omega (arith, e) in subst (λ r. IsLowest (values ++ v ∷ []) (Some r)) (sym z) (Contains-append_left values (v ∷ []) n h.0, All-push (λ r. n ≤ r) values v h.1 le)

pub other_node : (n : Node) → ((q : PairId) → n ≡ Branch q → ⊥) → ((v : ℕ) → n ≡ OpenLeaf v → ⊥) → (branches_in (n ∷ []) ≡ 0) × (left_in (n ∷ []) ≡ [])
other_node (Branch q) b l = absurd (b q refl)
other_node (Force q side cycle) b l = (refl, refl)
other_node (Cyclic cycle) b l = (refl, refl)
other_node (Bound paths) b l = (refl, refl)
other_node (OpenLeaf v) b l = absurd (l v refl)
