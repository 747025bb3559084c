-- Groups by their names, and the rule on them as a checker finds it.
use Rattle.std.proofs.Common.{ℕ, suc, zero, ◌≡◌, ◌+◌, ◌<◌, ◌≤◌, ◌⊎◌, List, [], ◌∷◌, ◌++◌, Some, None, Option, true, false, Bool, refl, sym, ap, ◌∙◌, subst, inl, inr, arith, length, take, reverse, set, append_assoc}
use Rattle.std.specs.Prelude.{slice_get, replicate, Contains, IsTrue, not}
use Rattle.std.proofs.lemmas.Bool.{cases_eq, cases_lt, false≢true}
use Rattle.std.proofs.lemmas.List.{reverse-append, get_or-replicate, length-replicate, get_or-set_same, get_or-set_other}
use Rattle.std.proofs.Math.ListN.{get_or-eq_default}
use Rattle.std.proofs.lemmas.Option.{slice_get_within}
use Rattle.fleet_base.specs.declared.order.PairId.{PairId}
use Rattle.fleet_base.specs.declared.order.Side.{Side}
use Rattle.fleet_base.specs.Lists.{Chain}
use Rattle.fleet_base.specs.Order.{Graph}
use Rattle.fleet_base.specs.State.{FleetState}
use Rattle.fleet_base.specs.Open.{is_open}
use Rattle.fleet_base.specs.Groups.{AreMates, AreGrouped, IsGroupOf}
use Rattle.fleet_base.proofs.Members.{head_in, tail_in, in_cons}
use Rattle.cert_tree.specs.Decisions.{Decision}
use Rattle.cert_tree.specs.GroupRules.{branch_pairs, HasGroupLeft}
use Rattle.cert_tree.proofs.Branches.{grouped_back, grouped_on}
use Rattle.cert_check.specs.declared.way.Step.{Step}
use Rattle.cert_check.specs.declared.way.Step.TheVariants.{Lower, Higher, Forced}
use Rattle.cert_check.specs.Judging.{Gives}
use Rattle.cert_check.specs.Sides.{decided}
use Rattle.cert_check.specs.Taken.{IsFreeBy, AreTaken, taken_at}
use Rattle.cert_check.specs.Ways.{step_pair, branch_of, way_of, AreWithin}
use Rattle.cert_check.proofs.SideLaws.{open_within}

module _ (g : Graph) where
  -- a group has one name, which all its pairs have
  pub named : (q r n : ℕ) → IsGroupOf g q n → AreGrouped g q r → IsGroupOf g r n
  named q r n is j = record { grouped = grouped_on g r q n (grouped_back g q r j) is.grouped; least = λ s k. is.least s (grouped_on g q r s j k) }

  pub joined : (q r n : ℕ) → IsGroupOf g q n → IsGroupOf g r n → AreGrouped g q r
  joined q r n a b = grouped_on g q n r a.grouped (grouped_back g r n b.grouped)

  pub joined_by : (q r n m : ℕ) → IsGroupOf g q n → IsGroupOf g r m → n ≡ m → AreGrouped g q r
  joined_by q r n m a b e = joined q r m (subst (λ k. IsGroupOf g q k) e a) b

  pub one_name : (q r n m : ℕ) → IsGroupOf g q n → IsGroupOf g r m → AreGrouped g q r → n ≡ m
  one_name q r n m a b j =
      let x = a.least m (grouped_on g q r m j b.grouped) in
      let y = b.least n (grouped_on g r q n (grouped_back g q r j) a.grouped) in
      omega arith

  ends_within : (xs : List ℕ) (q r : ℕ) → Chain (AreMates g) q xs r → r < length g.pairs
  ends_within [] q r c = slice_get_within g.pairs r c.two c.two_listed
  ends_within (y ∷ ys) q r c = ends_within ys y r c.1

  -- all pairs of a group are there
  pub grouped_within : (q r : ℕ) → q < length g.pairs → AreGrouped g q r → r < length g.pairs
  grouped_within q r lt (inl e) = omega (arith, lt, e)
  grouped_within q r lt (inr (xs, c)) = ends_within xs q r c

  pub name_within : (q n : ℕ) → q < length g.pairs → IsGroupOf g q n → n < length g.pairs
  name_within q n lt is = grouped_within q n lt is.grouped

-- ---- the pairs that steps branched on

-- each is that of a step
pub with_step : (s : Step) (steps : List Step) (r : ℕ) → Contains (branch_pairs (way_of (s ∷ steps))) r → ((q : PairId) × (branch_of s ≡ Some q) × (q.0 ≡ r)) ⊎ Contains (branch_pairs (way_of steps)) r
with_step (Lower q) steps r h = go (in_cons q.0 (branch_pairs (way_of steps)) r h)
  where
    go : (q.0 ≡ r) ⊎ Contains (branch_pairs (way_of steps)) r → ((p : PairId) × (Some q ≡ Some p) × (p.0 ≡ r)) ⊎ Contains (branch_pairs (way_of steps)) r
    go (inl e) = inl (q, refl, e)
    go (inr k) = inr k
with_step (Higher q) steps r h = go (in_cons q.0 (branch_pairs (way_of steps)) r h)
  where
    go : (q.0 ≡ r) ⊎ Contains (branch_pairs (way_of steps)) r → ((p : PairId) × (Some q ≡ Some p) × (p.0 ≡ r)) ⊎ Contains (branch_pairs (way_of steps)) r
    go (inl e) = inl (q, refl, e)
    go (inr k) = inr k
with_step (Forced q d) steps r h = inr h

-- and that of each step is there
pub of_step : (s : Step) (steps : List Step) (q : PairId) → branch_of s ≡ Some q → Contains (branch_pairs (way_of (s ∷ steps))) q.0
of_step (Lower p) steps q e = let same : p ≡ q = cc in subst (λ (z : PairId). Contains (p.0 ∷ branch_pairs (way_of steps)) z.0) same (head_in p.0 (branch_pairs (way_of steps)))
of_step (Higher p) steps q e = let same : p ≡ q = cc in subst (λ (z : PairId). Contains (p.0 ∷ branch_pairs (way_of steps)) z.0) same (head_in p.0 (branch_pairs (way_of steps)))
of_step (Forced p d) steps q e = cc

later_step : (s : Step) (steps : List Step) (r : ℕ) → Contains (branch_pairs (way_of steps)) r → Contains (branch_pairs (way_of (s ∷ steps))) r
later_step (Lower q) steps r h = tail_in q.0 (branch_pairs (way_of steps)) r h
later_step (Higher q) steps r h = tail_in q.0 (branch_pairs (way_of steps)) r h
later_step (Forced q d) steps r h = h

behind_steps : (xs steps : List Step) (r : ℕ) → Contains (branch_pairs (way_of steps)) r → Contains (branch_pairs (way_of (xs ++ steps))) r
behind_steps [] steps r h = h
behind_steps (x ∷ xs) steps r h = later_step x (xs ++ steps) r (behind_steps xs steps r h)

-- one step more is the first of those that are read from the last one on
next_steps : (steps : List Step) (k : ℕ) (s : Step) → slice_get steps k ≡ Some s → (rest : List Step) × (reverse (take (suc k) steps) ≡ s ∷ reverse (take k steps)) × (reverse steps ≡ reverse rest ++ (s ∷ reverse (take k steps)))
next_steps [] k s e = cc
next_steps (t ∷ steps) zero s e =
    let same : t ≡ s = cc in
    (steps, ap (λ (z : Step). z ∷ []) same, reverse-append (t ∷ []) steps ∙ ap (λ (z : Step). reverse steps ++ z ∷ []) same)
next_steps (t ∷ steps) (suc k) s e =
    let h = next_steps steps k s e in (
      h.0,
      reverse-append (t ∷ []) (take (suc k) steps) ∙ ap (λ (l : List Step). l ++ t ∷ []) h.1 ∙ ap (λ (l : List Step). s ∷ l) (sym (reverse-append (t ∷ []) (take k steps))),
      reverse-append (t ∷ []) steps ∙ ap (λ (l : List Step). l ++ t ∷ []) h.2 ∙ append_assoc (reverse h.0) (s ∷ reverse (take k steps)) (t ∷ []) ∙ ap (λ (l : List Step). reverse h.0 ++ (s ∷ l)) (sym (reverse-append (t ∷ []) (take k steps))),
    )

module _ (g : Graph) (q : ℕ) (steps : List Step) (k : ℕ) (s : Step) (there : slice_get steps k ≡ Some s) where
  -- a further step that did not branch on the group
  pub one_step_more : ((p : PairId) → branch_of s ≡ Some p → AreGrouped g q p.0 → ⊥) → ((r : ℕ) → Contains (branch_pairs (way_of (reverse (take k steps)))) r → AreGrouped g q r → ⊥)
      → (r : ℕ) → Contains (branch_pairs (way_of (reverse (take (k + 1) steps)))) r → AreGrouped g q r → ⊥
  one_step_more here before r h j =
      let n = next_steps steps k s there in
      let front : reverse (take (k + 1) steps) ≡ s ∷ reverse (take k steps) = ap (λ m. reverse (take m steps)) (let z : k + 1 ≡ suc k = omega arith in z) ∙ n.1 in
      go (with_step s (reverse (take k steps)) r (subst (λ (l : List Step). Contains (branch_pairs (way_of l)) r) front h))
    where
      go : ((p : PairId) × (branch_of s ≡ Some p) × (p.0 ≡ r)) ⊎ Contains (branch_pairs (way_of (reverse (take k steps)))) r → ⊥
      go (inl (p, e, same)) = here p e (subst (λ m. AreGrouped g q m) (sym same) j)
      go (inr c) = before r c j

  -- one that did
  pub branched_there : (p : PairId) → branch_of s ≡ Some p → Contains (branch_pairs (way_of (reverse steps))) p.0
  branched_there p e =
      let n = next_steps steps k s there in
      subst (λ (l : List Step). Contains (branch_pairs (way_of l)) p.0) (sym n.2) (behind_steps (reverse n.0) (s ∷ reverse (take k steps)) p.0 (of_step s (reverse (take k steps)) p e))

within_all : (pairs : ℕ) (xs steps : List Step) → AreWithin pairs (xs ++ steps) → AreWithin pairs steps
within_all pairs [] steps w = w
within_all pairs (x ∷ xs) steps w = within_all pairs xs steps w.1

-- the pair of a step is there
pub step_within : (pairs : ℕ) (steps : List Step) (k : ℕ) (s : Step) (p : PairId) → AreWithin pairs (reverse steps) → slice_get steps k ≡ Some s → branch_of s ≡ Some p → p.0 < pairs
step_within pairs steps k s p w there e =
    let n = next_steps steps k s there in
    let h = within_all pairs (reverse n.0) (s ∷ reverse (take k steps)) (subst (λ (l : List Step). AreWithin pairs l) n.2 w) in
    go s e h.0
  where
    go : (t : Step) → branch_of t ≡ Some p → (step_pair t).0 < pairs → p.0 < pairs
    go (Lower r) f lt = let same : r ≡ p = cc in subst (λ (z : PairId). z.0 < pairs) same lt
    go (Higher r) f lt = let same : r ≡ p = cc in subst (λ (z : PairId). z.0 < pairs) same lt
    go (Forced r d) f lt = cc

-- ---- groups that are taken

-- at first none is
pub all_off : (n k : ℕ) (taken : List Bool) → taken ≡ replicate n false → taken_at taken k ≡ false
all_off n k taken e = ap (λ (l : List Bool). taken_at l k) e ∙ go (cases_lt k n)
  where
    go : (k < n) ⊎ (n ≤ k) → taken_at (replicate n false) k ≡ false
    go (inl lt) = get_or-replicate n k false false lt
    go (inr le) = get_or-eq_default (replicate n false) false (let z : length (replicate n false) ≤ k = omega (arith, length-replicate n false, le) in z)

module _ (g : Graph) (x : FleetState) (sides : List (Option Side)) where
  -- a pair is free or not
  free_or_not : (q : ℕ) → IsFreeBy g x sides q ⊎ (¬ IsFreeBy g x sides q)
  free_or_not q = go (is_open g x q) refl (decided sides q) refl
    where
      go : (b : Bool) → is_open g x q ≡ b → (o : Option Side) → decided sides q ≡ o → IsFreeBy g x sides q ⊎ (¬ IsFreeBy g x sides q)
      go true a None e = inl (a, e)
      go true a (Some s) e = inr (λ f. let z = f.1 in cc)
      go false a o e = inr (λ f. false≢true (sym a ∙ f.0))

  -- one pair more that is free
  pub taken_same : (k : ℕ) (taken : List Bool) → IsFreeBy g x sides k → AreTaken g x sides k taken → AreTaken g x sides (k + 1) taken
  taken_same k taken free t = record {
    each = λ q n lt is not_free. go q n lt is not_free (cases_eq q k);
    only = λ n e. let o = t.only n e in (o.0, omega (arith, o.1), o.2, o.3);
  }
    where
      go : (q n : ℕ) → q < k + 1 → IsGroupOf g q n → ¬ IsFreeBy g x sides q → (q ≡ k) ⊎ (q ≡ k → ⊥) → taken_at taken n ≡ true
      go q n lt is not_free (inl e) = absurd (not_free (subst (λ m. IsFreeBy g x sides m) (sym e) free))
      go q n lt is not_free (inr ne) = t.each q n (omega (arith, lt, ne)) is not_free

  -- and one that is not
  pub taken_more : (k m : ℕ) (taken now : List Bool) → ¬ IsFreeBy g x sides k → IsGroupOf g k m → m < length taken → now ≡ set taken m true → AreTaken g x sides k taken → AreTaken g x sides (k + 1) now
  taken_more k m taken now not_free name lt is t = record {
    each = λ q n low j nf. each q n low j nf (cases_eq n m);
    only = λ n e. only n e (cases_eq n m);
  }
    where
      here : (n : ℕ) → n ≡ m → taken_at now n ≡ true
      here n e = ap (λ (l : List Bool). taken_at l n) is ∙ ap (λ i. taken_at (set taken m true) i) e ∙ get_or-set_same taken m true false lt

      there : (n : ℕ) → (n ≡ m → ⊥) → taken_at now n ≡ taken_at taken n
      there n ne = ap (λ (l : List Bool). taken_at l n) is ∙ get_or-set_other taken m n true false ne

      each : (q n : ℕ) → q < k + 1 → IsGroupOf g q n → ¬ IsFreeBy g x sides q → (n ≡ m) ⊎ (n ≡ m → ⊥) → taken_at now n ≡ true
      each q n low j nf (inl e) = here n e
      each q n low j nf (inr ne) = there n ne ∙ t.each q n (earlier (cases_eq q k)) j nf
        where
          earlier : (q ≡ k) ⊎ (q ≡ k → ⊥) → q < k
          earlier (inl e) = absurd (ne (one_name g q k n m j name (inl e)))
          earlier (inr o) = omega (arith, low, o)

      only : (n : ℕ) → taken_at now n ≡ true → (n ≡ m) ⊎ (n ≡ m → ⊥) → (q : ℕ) × (q < k + 1) × IsGroupOf g q n × (¬ IsFreeBy g x sides q)
      only n e (inl same) = (k, omega arith, subst (λ i. IsGroupOf g k i) (sym same) name, not_free)
      only n e (inr ne) = let o = t.only n (sym (there n ne) ∙ e) in (o.0, omega (arith, o.1), o.2, o.3)

  pub none_taken : (taken : List Bool) → ((n : ℕ) → taken_at taken n ≡ false) → AreTaken g x sides 0 taken
  none_taken taken all = record {
    each = λ q n lt. absurd (omega (arith, lt));
    only = λ n e. absurd (false≢true (sym (all n) ∙ e));
  }

  module _ (taken : List Bool) (are : AreTaken g x sides (length g.pairs) taken) where
    -- a group that is not taken has free pairs alone
    pub free_group : (q n : ℕ) → q < length g.pairs → IsGroupOf g q n → taken_at taken n ≡ false → (r : ℕ) → AreGrouped g q r → IsFreeBy g x sides r
    free_group q n lt is off r j = go (free_or_not r)
      where
        go : IsFreeBy g x sides r ⊎ (¬ IsFreeBy g x sides r) → IsFreeBy g x sides r
        go (inl f) = f
        go (inr nf) = absurd (false≢true (sym off ∙ are.each r n (grouped_within g q r lt j) (named g q r n is j) nf))

    -- so it is left
    pub group_is_left : (q n : ℕ) → q < length g.pairs → IsGroupOf g q n → taken_at taken n ≡ false → (way : List Decision) → Gives way sides → HasGroupLeft g x way
    group_is_left q n lt is off way gives = (q, λ r j. (free_group q n lt is off r j).0, λ r j. sym (gives r) ∙ (free_group q n lt is off r j).1)

    -- where all are taken, none is left
    pub none_is_left : ((q : ℕ) → q < length g.pairs → (n : ℕ) × IsGroupOf g q n × (taken_at taken n ≡ true)) → (way : List Decision) → Gives way sides → HasGroupLeft g x way → ⊥
    none_is_left all way gives (q, opened, free) =
        let lt = open_within g x q (opened q (inl refl)) in
        let a = all q lt in
        let o = are.only a.0 a.2 in
        let j = joined g q o.0 a.0 a.1 o.2 in
        o.3 (opened o.0 j, gives o.0 ∙ free o.0 j)

-- what a test that failed says
pub denied : (b : Bool) (P : Type 0) → (IsTrue b → P) × (P → IsTrue b) → (IsTrue (not b) → P → ⊥) × ((P → ⊥) → IsTrue (not b))
denied true P t = (λ h p. false≢true h, λ n. absurd (n (t.0 refl)))
denied false P t = (λ h p. false≢true (t.1 p), λ n. refl)
