-- A text has one fault at most.
use Rattle.std.proofs.Common.{ℕ, suc, ◌+◌, ◌≤◌, ◌≡◌, List, [], ◌∷◌, ◌++◌, length, sym, ◌∙◌, ap, subst, refl, arith}
use Rattle.fleet_base.specs.declared.geometry.Cell.{Cell}
use Rattle.plan_text.specs.declared.fault.PlanKind.{PlanKind}
use Rattle.plan_text.specs.declared.fault.PlanKind.TheVariants.{Label, Path, Empty}
use Rattle.plan_text.specs.PlanText.{IsPlanLine, AreRobotLines}
use Rattle.plan_text.specs.PlanFaults.{IsKindOf, IsLineFault, IsFirstBadLine, IsPlanFault}

-- the same first bad line, counted from robot i on
same_bad : (i : ℕ) (above : List (List ℕ)) (line : List ℕ) (below : List (List ℕ)) (plan : List (List Cell)) (above' : List (List ℕ)) (line' : List ℕ) (below' : List (List ℕ)) (plan' : List (List Cell)) → above ++ line ∷ below ≡ above' ++ line' ∷ below' → AreRobotLines i above plan → AreRobotLines i above' plan' → ((path : List Cell) → IsPlanLine (i + length above) line path → ⊥) → ((path : List Cell) → IsPlanLine (i + length above') line' path → ⊥) → (length above ≡ length above') × (line ≡ line')
same_bad i [] line below plan [] line' below' plan' e good good' bad bad' = (refl, cc)
same_bad i [] line below plan (first ∷ above') line' below' [] e good good' bad bad' = absurd good'
same_bad i [] line below plan (first ∷ above') line' below' (path ∷ plan') e good good' bad bad' =
    let same : first ≡ line = cc in
    absurd (bad path (subst (λ k. IsPlanLine k line path) (none i) (subst (λ l. IsPlanLine i l path) same good'.0))) where
      none : (k : ℕ) → k ≡ k + 0
      none k = omega arith
same_bad i (first ∷ above) line below [] [] line' below' plan' e good good' bad bad' = absurd good
same_bad i (first ∷ above) line below (path ∷ plan) [] line' below' plan' e good good' bad bad' =
    let same : first ≡ line' = cc in
    absurd (bad' path (subst (λ k. IsPlanLine k line' path) (none i) (subst (λ l. IsPlanLine i l path) same good.0))) where
      none : (k : ℕ) → k ≡ k + 0
      none k = omega arith
same_bad i (first ∷ above) line below [] (first' ∷ above') line' below' plan' e good good' bad bad' = absurd good
same_bad i (first ∷ above) line below (path ∷ plan) (first' ∷ above') line' below' [] e good good' bad bad' = absurd good'
same_bad i (first ∷ above) line below (path ∷ plan) (first' ∷ above') line' below' (path' ∷ plan') e good good' bad bad' =
    let rest : above ++ line ∷ below ≡ above' ++ line' ∷ below' = cc in
    let more = same_bad (i + 1) above line below plan above' line' below' plan' rest good.1 good'.1 (λ p is. bad p (subst (λ k. IsPlanLine k line p) (moved i (length above)) is)) (λ p is. bad' p (subst (λ k. IsPlanLine k line' p) (moved i (length above')) is)) in
    (ap suc more.0, more.1) where
      moved : (k n : ℕ) → k + 1 + n ≡ k + suc n
      moved k n = omega arith

-- what a good front of n bytes is called
same_kind : (i n : ℕ) (k k' : PlanKind) → IsKindOf i n k → IsKindOf i n k' → k ≡ k'
same_kind i n Label Label a b = refl
same_kind i n Path Path a b = refl
same_kind i n Label Path a b = absurd (omega arith)
same_kind i n Path Label a b = absurd (omega arith)
same_kind i n Empty k' a b = absurd a
same_kind i n Label Empty a b = absurd b
same_kind i n Path Empty a b = absurd b

-- a line has one fault
same_fault : (i : ℕ) (line : List ℕ) (c c' : ℕ) (k k' : PlanKind) → IsLineFault i line c k → IsLineFault i line c' k' → (c ≡ c') × (k ≡ k')
same_fault i line c c' k k' a b =
    let low : a.n ≤ b.n = b.front.longest a.n a.front.within a.front.good in
    let high : b.n ≤ a.n = a.front.longest b.n b.front.within b.front.good in
    let same : b.n ≡ a.n = omega arith in
    (a.place ∙ ap (λ n. n + 1) (sym same) ∙ sym b.place, same_kind i a.n k k' a.called (subst (λ n. IsKindOf i n k') same b.called))

-- lines have one first bad line
same_first : (lines : List (List ℕ)) (l c l' c' : ℕ) (k k' : PlanKind) → IsFirstBadLine lines l c k → IsFirstBadLine lines l' c' k' → (l ≡ l') × (c ≡ c') × (k ≡ k')
same_first lines l c l' c' k k' a b =
    let both = same_bad 0 a.above a.line a.below a.plan b.above b.line b.below b.plan (sym a.stands ∙ b.stands) a.good b.good (λ path is. a.fault.bad path (subst (λ j. IsPlanLine j a.line path) (none (length a.above)) is)) (λ path is. b.fault.bad path (subst (λ j. IsPlanLine j b.line path) (none (length b.above)) is)) in
    let moved : IsLineFault (length a.above) a.line c' k' = subst (λ n. IsLineFault n a.line c' k') (sym both.0) (subst (λ x. IsLineFault (length b.above) x c' k') (sym both.1) b.fault) in
    let fault = same_fault (length a.above) a.line c c' k k' a.fault moved in
    (a.number ∙ ap (λ n. n + 1) both.0 ∙ sym b.number, fault.0, fault.1) where
      none : (n : ℕ) → 0 + n ≡ n
      none n = omega arith

-- a list with a bad line is not empty
not_empty : (lines : List (List ℕ)) (l c : ℕ) (k : PlanKind) → lines ≡ [] → IsFirstBadLine lines l c k → ⊥
not_empty lines l c k none a = go a.above a.line a.below (sym none ∙ a.stands) where
  go : (above : List (List ℕ)) (line : List ℕ) (below : List (List ℕ)) → [] ≡ above ++ line ∷ below → ⊥
  go [] line below e = cc
  go (first ∷ above) line below e = cc

-- lines have one fault
pub one_fault : (lines : List (List ℕ)) (l c l' c' : ℕ) (k k' : PlanKind) → IsPlanFault lines l c k → IsPlanFault lines l' c' k' → (l ≡ l') × (c ≡ c') × (k ≡ k')
one_fault lines l c l' c' Empty Empty a b = (a.1 ∙ sym b.1, a.2 ∙ sym b.2, refl)
one_fault lines l c l' c' Empty Label a b = absurd (not_empty lines l' c' Label a.0 b)
one_fault lines l c l' c' Empty Path a b = absurd (not_empty lines l' c' Path a.0 b)
one_fault lines l c l' c' Label Empty a b = absurd (not_empty lines l c Label b.0 a)
one_fault lines l c l' c' Path Empty a b = absurd (not_empty lines l c Path b.0 a)
one_fault lines l c l' c' Label Label a b = same_first lines l c l' c' Label Label a b
one_fault lines l c l' c' Label Path a b = same_first lines l c l' c' Label Path a b
one_fault lines l c l' c' Path Label a b = same_first lines l c l' c' Path Label a b
one_fault lines l c l' c' Path Path a b = same_first lines l c l' c' Path Path a b
