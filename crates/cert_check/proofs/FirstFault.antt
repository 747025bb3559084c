-- How a checker that goes through a list shows its verdict.
use Rattle.std.proofs.Common.{ℕ, suc, zero, ◌≡◌, ◌≢◌, ◌<◌, ◌≤◌, List, [], ◌∷◌, Some, refl, sym, ap, ◌∙◌, subst, inl, inr, arith, length, take}
use Rattle.std.specs.Prelude.{slice_get}
use Rattle.std.proofs.lemmas.List.{take_all, take-take, length-take-le}
use Rattle.cert_tree.specs.declared.node.Node.{Node}
use Rattle.cert_tree.specs.Decisions.{Decision}
use Rattle.cert_check.specs.declared.verdict.NoWhy.{NoWhy}
use Rattle.cert_check.specs.declared.verdict.NoWhy.TheVariants.{Shape}
use Rattle.cert_check.specs.Verdicts.{Fits, rank_of, IsEarlier, IsFirstFault}
use Rattle.cert_tree.specs.Preorder.{ways_left, ways_at}
use Rattle.cert_check.specs.Verdicts.Fits.{after_the_end, too_early, at_node, in_whole}
use Rattle.std.proofs.lemmas.Option.{slice_get_within}
use Rattle.cert_tree.specs.Preorder.{EachListed}
use Rattle.cert_tree.proofs.Preorder.{met_at, not_after}

take_get : {X : Type 0} (xs : List X) (j k : ℕ) (x : X) → j < k → slice_get xs j ≡ Some x → slice_get (take k xs) j ≡ Some x
take_get [] j k x h e = cc
take_get (y ∷ ys) j zero x h e = absurd (omega (arith, h))
take_get (y ∷ ys) zero (suc k) x h e = e
take_get (y ∷ ys) (suc j) (suc k) x h e = take_get ys j k x (omega (arith, h)) e

-- what fits where
pub data Where (rule : List Decision → Node → NoWhy → Type 0) (whole : NoWhy → Type 0) (nodes : List Node) (k : ℕ) (why : NoWhy) : Type 0 where
  past : k < length nodes → ways_at nodes k ≡ [] → why ≡ Shape → Where rule whole nodes k why
  early : k ≡ length nodes → ways_at nodes k ≢ [] → why ≡ Shape → Where rule whole nodes k why
  here : (node : Node) (way : List Decision) (ways : List (List Decision)) → slice_get nodes k ≡ Some node → ways_at nodes k ≡ way ∷ ways → rule way node why → Where rule whole nodes k why
  all : k ≡ length nodes → whole why → Where rule whole nodes k why

where_fits : (rule : List Decision → Node → NoWhy → Type 0) (whole : NoWhy → Type 0) (nodes : List Node) (k : ℕ) (why : NoWhy) → Fits rule whole nodes k why → Where rule whole nodes k why
where_fits rule whole nodes _ _ (after_the_end k lt w) = past lt w refl
where_fits rule whole nodes _ _ (too_early w) = early refl w refl
where_fits rule whole nodes _ _ (at_node k node way ways why g w f) = here node way ways g w f
where_fits rule whole nodes _ _ (in_whole why f) = all refl f

module _ (meets : List Decision → Node → Type 0) (rule : List Decision → Node → NoWhy → Type 0) (whole : NoWhy → Type 0)
    (excludes : (way : List Decision) (node : Node) (why : NoWhy) → meets way node → rule way node why → ⊥) (nodes : List Node) where
  -- nothing fits before a place up to which all nodes are right
  before : (k j : ℕ) (w : NoWhy) → k ≤ length nodes → EachListed meets (take k nodes) ([] ∷ []) → j < k → Where rule whole nodes j w → ⊥
  before k j w le m lt (past a b c) =
      not_after meets (take k nodes) ([] ∷ []) j m (omega (arith, length-take-le k nodes le)) (ap (λ (ns : List Node). ways_left ns ([] ∷ [])) (take-take j k nodes (omega arith)) ∙ b)
  before k j w le m lt (early a b c) = omega arith
  before k j w le m lt (here node way ways a b f) =
      excludes way node w (met_at meets (take k nodes) ([] ∷ []) j node way ways m (take_get nodes j k node lt a) (ap (λ (ns : List Node). ways_left ns ([] ∷ [])) (take-take j k nodes (omega arith)) ∙ b)) f
  before k j w le m lt (all a f) = omega arith

  -- a node that fails, after nodes that do not
  pub fails_at : (k : ℕ) (node : Node) (way : List Decision) (ways : List (List Decision)) (why : NoWhy) → EachListed meets (take k nodes) ([] ∷ []) → slice_get nodes k ≡ Some node → ways_at nodes k ≡ way ∷ ways
      → rule way node why → ((w : NoWhy) → rank_of w < rank_of why → ¬ rule way node w) → IsFirstFault (Fits rule whole nodes) k why
  fails_at k node way ways why m g w f least = record { here = at_node k node way ways why g w f; first = λ j v e h. first j v e (where_fits rule whole nodes j v h) }
    where
      within : k < length nodes
      within = slice_get_within nodes k node g

      same : (j : ℕ) (v : NoWhy) → j ≡ k → rank_of v < rank_of why → Where rule whole nodes j v → ⊥
      same j v e lt (past a b c) = let x : ways_at nodes j ≡ ways_at nodes k = ap (ways_at nodes) e in cc
      same j v e lt (early a b c) = let x = within in omega arith
      same j v e lt (all a h) = let x = within in omega arith
      same j v e lt (here node' way' ways' a b h) =
          let x : ways_at nodes j ≡ ways_at nodes k = ap (ways_at nodes) e in
          let y : slice_get nodes j ≡ slice_get nodes k = ap (slice_get nodes) e in
          let n : node' ≡ node = cc in
          let d : way' ≡ way = cc in
          least v lt (subst (λ (z : List Decision). rule z node v) d (subst (λ (z : Node). rule way' z v) n h))

      first : (j : ℕ) (v : NoWhy) → IsEarlier j v k why → Where rule whole nodes j v → ⊥
      first j v (inl lt) h = before k j v (let x = within in omega arith) m lt h
      first j v (inr (e, lt)) h = same j v e lt h

  -- a node after the end
  pub fails_after : (k : ℕ) → EachListed meets (take k nodes) ([] ∷ []) → k < length nodes → ways_at nodes k ≡ [] → IsFirstFault (Fits rule whole nodes) k Shape
  fails_after k m lt w = record { here = after_the_end k lt w; first = λ j v e h. first j v e (where_fits rule whole nodes j v h) }
    where
      first : (j : ℕ) (v : NoWhy) → IsEarlier j v k Shape → Where rule whole nodes j v → ⊥
      first j v (inl lt') h = before k j v (omega arith) m lt' h
      first j v (inr (e, none)) h = omega (arith, none)

  all_of : EachListed meets nodes ([] ∷ []) → EachListed meets (take (length nodes) nodes) ([] ∷ [])
  all_of m = subst (λ (ns : List Node). EachListed meets ns ([] ∷ [])) (sym (take_all (length nodes) nodes (omega arith))) m

  -- a tree that ends too early
  pub fails_early : EachListed meets nodes ([] ∷ []) → ways_left nodes ([] ∷ []) ≢ [] → IsFirstFault (Fits rule whole nodes) (length nodes) Shape
  fails_early m w = record {
    here = too_early (λ e. w (ap (λ (ns : List Node). ways_left ns ([] ∷ [])) (sym (take_all (length nodes) nodes (omega arith))) ∙ e));
    first = λ j v e h. first j v e (where_fits rule whole nodes j v h);
  }
    where
      first : (j : ℕ) (v : NoWhy) → IsEarlier j v (length nodes) Shape → Where rule whole nodes j v → ⊥
      first j v (inl lt) h = before (length nodes) j v (omega arith) (all_of m) lt h
      first j v (inr (e, none)) h = omega (arith, none)

  -- a fault of the whole tree
  pub fails_whole : (why : NoWhy) → EachListed meets nodes ([] ∷ []) → ways_left nodes ([] ∷ []) ≡ [] → whole why → ((w : NoWhy) → rank_of w < rank_of why → ¬ whole w) → IsFirstFault (Fits rule whole nodes) (length nodes) why
  fails_whole why m w f least = record { here = in_whole why f; first = λ j v e h. first j v e (where_fits rule whole nodes j v h) }
    where
      ended : ways_at nodes (length nodes) ≡ []
      ended = ap (λ (ns : List Node). ways_left ns ([] ∷ [])) (take_all (length nodes) nodes (omega arith)) ∙ w

      same : (j : ℕ) (v : NoWhy) → j ≡ length nodes → rank_of v < rank_of why → Where rule whole nodes j v → ⊥
      same j v e lt (past a b c) = omega arith
      same j v e lt (early a b c) = b (ap (ways_at nodes) e ∙ ended)
      same j v e lt (all a h) = least v lt h
      same j v e lt (here node way ways a b h) = let x = slice_get_within nodes j node a in omega arith

      first : (j : ℕ) (v : NoWhy) → IsEarlier j v (length nodes) why → Where rule whole nodes j v → ⊥
      first j v (inl lt) h = before (length nodes) j v (omega arith) (all_of m) lt h
      first j v (inr (e, lt)) h = same j v e lt h
