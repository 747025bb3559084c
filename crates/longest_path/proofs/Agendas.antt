-- Agendas that take a visit in, and give one out.
use Rattle.std.proofs.Common.{ℕ, ◌≡◌, ◌≢◌, ◌+◌, ◌<◌, ◌≤◌, ◌⊎◌, List, [], ◌∷◌, Bool, true, false, refl, sym, ap, ◌∙◌, subst, inl, inr, arith, length}
use Rattle.std.specs.Prelude.{Contains}
use Rattle.std.specs.List.Sorted.{IsPermutation}
use Rattle.std.proofs.lemmas.List.Sorted.{Contains-permutation}
use Rattle.fleet_base.specs.declared.geometry.Visit.{Visit}
use Rattle.fleet_base.specs.Order.{Graph}
use Rattle.fleet_base.proofs.Members.{head_in, tail_in, in_cons}
use Rattle.plan_graph.specs.Limits.{visit_count}
use Rattle.longest_path.specs.Cells.{HasCell, put, AreAlike, is_marked, no_marks, mark_count, cell_count}
use Rattle.longest_path.specs.declared.agenda.Waiting.{Waiting}
use Rattle.longest_path.proofs.Cells.{cell_put, cell_other, marks_within, mark_put, count_put, weight}
use Rattle.longest_path.proofs.Zeros.{same_at}
use Rattle.longest_path.proofs.Raising.{same_or_differs}

-- each marked visit stands in the list
abbrev pub Waits : List Waiting → List (List Bool) → Type 0
Waits items marks = (v : Visit) → is_marked marks v ≡ true → (w : Waiting) × Contains items w × (w.visit ≡ v)

pub waits_none : (items : List Waiting) (g : Graph) (marks : List (List Bool)) → marks ≡ no_marks g → Waits items marks
waits_none items g marks e v m = absurd (let z = same_at false g v in let k = ap (λ (r : List (List Bool)). is_marked r v) e in cc)

-- nothing waits in an empty list
pub none_waits : (items : List Waiting) (marks : List (List Bool)) → Waits items marks → length items ≡ 0 → (v : Visit) → is_marked marks v ≡ false
none_waits items marks waits empty v = go (is_marked marks v) refl
  where
    go : (b : Bool) → is_marked marks v ≡ b → b ≡ false
    go false e = refl
    go true e = absurd (let w = waits v e in let lt = w.1.1 in omega (arith, lt, empty))

-- a visit is marked and put in
pub waits_pushed : (items more : List Waiting) (marks : List (List Bool)) (w : Waiting) → HasCell marks w.visit → IsPermutation (w ∷ items) more → Waits items marks → Waits more (put marks w.visit true)
waits_pushed items more marks w has p waits v m = go (same_or_differs v w.visit)
  where
    go : (v ≡ w.visit) ⊎ (v ≢ w.visit) → (u : Waiting) × Contains more u × (u.visit ≡ v)
    go (inl e) = (w, Contains-permutation (w ∷ items) more w p (head_in w items), sym e)
    go (inr ne) =
        let found = waits v (sym (cell_other marks w.visit v true false has ne) ∙ m) in
        (found.0, Contains-permutation (w ∷ items) more found.0 p (tail_in w items found.0 found.1), found.2)

-- one that is marked already is marked again
pub waits_marked : (items : List Waiting) (marks : List (List Bool)) (v : Visit) → HasCell marks v → is_marked marks v ≡ true → Waits items marks → Waits items (put marks v true)
waits_marked items marks v has here waits u m = go (same_or_differs u v)
  where
    go : (u ≡ v) ⊎ (u ≢ v) → (w : Waiting) × Contains items w × (w.visit ≡ u)
    go (inl e) = waits u (ap (λ (t : Visit). is_marked marks t) e ∙ here)
    go (inr ne) = waits u (sym (cell_other marks v u true false has ne) ∙ m)

-- what was taken out is not the one that is looked for
left : (items rest : List Waiting) (w : Waiting) (v : Visit) → IsPermutation items (w ∷ rest) → v ≢ w.visit → ((u : Waiting) × Contains items u × (u.visit ≡ v)) → (u : Waiting) × Contains rest u × (u.visit ≡ v)
left items rest w v p ne (u, h, e) = go (in_cons w rest u (Contains-permutation items (w ∷ rest) u p h))
  where
    go : (w ≡ u) ⊎ Contains rest u → (t : Waiting) × Contains rest t × (t.visit ≡ v)
    go (inl same) = absurd (ne (sym e ∙ sym (ap (λ (t : Waiting). t.visit) same)))
    go (inr h') = (u, h', e)

-- a visit that is not marked is taken out
pub waits_dropped : (items rest : List Waiting) (marks : List (List Bool)) (w : Waiting) → is_marked marks w.visit ≡ false → IsPermutation items (w ∷ rest) → Waits items marks → Waits rest marks
waits_dropped items rest marks w none p waits v m = left items rest w v p (λ e. let z = ap (λ (t : Visit). is_marked marks t) e in cc) (waits v m)

-- a marked one is taken out, and its mark too
pub waits_taken : (items rest : List Waiting) (marks : List (List Bool)) (w : Waiting) → HasCell marks w.visit → IsPermutation items (w ∷ rest) → Waits items marks → Waits rest (put marks w.visit false)
waits_taken items rest marks w has p waits v m = go (same_or_differs v w.visit)
  where
    go : (v ≡ w.visit) ⊎ (v ≢ w.visit) → (u : Waiting) × Contains rest u × (u.visit ≡ v)
    go (inl e) = absurd (let z = ap (λ (t : Visit). is_marked (put marks w.visit false) t) e in let k = cell_put marks w.visit false false has in cc)
    go (inr ne) = left items rest w v p ne (waits v (sym (cell_other marks w.visit v false false has ne) ∙ m))

-- where a visit is not marked, one more has room
pub room_for_one : (marks : List (List Bool)) (v : Visit) (n room : ℕ) → HasCell marks v → is_marked marks v ≡ false → n ≤ mark_count marks → cell_count marks ≤ room → n < room
room_for_one marks v n room has none few all =
    let z = marks_within (put marks v true) in
    let k = mark_put marks v true has in
    let e = ap weight none in
    omega (arith, z, k, e, count_put marks v true has, few, all)

pub count_added : (marks : List (List Bool)) (v : Visit) → HasCell marks v → is_marked marks v ≡ false → mark_count (put marks v true) ≡ mark_count marks + 1
count_added marks v has none = let k = mark_put marks v true has in let e = ap weight none in omega (arith, k, e)

pub count_again : (marks : List (List Bool)) (v : Visit) → HasCell marks v → is_marked marks v ≡ true → mark_count (put marks v true) ≡ mark_count marks
count_again marks v has m = let k = mark_put marks v true has in let e = ap weight m in omega (arith, k, e)

pub count_taken : (marks : List (List Bool)) (v : Visit) → HasCell marks v → is_marked marks v ≡ true → mark_count (put marks v false) + 1 ≡ mark_count marks
count_taken marks v has m = let k = mark_put marks v false has in let e = ap weight m in omega (arith, k, e)
