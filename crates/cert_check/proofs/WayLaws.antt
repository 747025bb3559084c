-- Decisions are of pairs that differ, so there is room for them.
use Rattle.std.proofs.Common.{ℕ, suc, ◌≡◌, ◌≢◌, ◌<◌, ◌⊎◌, List, [], ◌∷◌, Some, None, Option, true, false, Bool, cond, refl, sym, ap, ◌∙◌, subst, inl, inr, arith, length, map, reverse, eqb, set, get_or}
use Rattle.std.specs.Prelude.{Contains, vec_len}
use Rattle.std.specs.Vec.{vec_capacity}
use Rattle.std.proofs.lemmas.Bool.{eq-eqb, cases_eq, ne_eqb}
use Rattle.std.proofs.lemmas.List.{get_or-set_same, get_or-set_other}
use Rattle.fleet_base.specs.declared.order.Side.{Side}
use Rattle.fleet_base.proofs.Members.{in_cons, in_none}
use Rattle.fleet_base.proofs.Sorting.{Distinct}
use Rattle.fleet_base.proofs.Walks.{few_below}
use Rattle.cert_check.specs.declared.way.Way.{Way}
use Rattle.cert_check.specs.declared.way.Step.{Step}
use Rattle.cert_check.specs.declared.way.Step.TheVariants.{Lower, Higher, Forced}
use Rattle.cert_tree.specs.Decisions.{side_on}
use Rattle.cert_check.specs.Sides.{decided}
use Rattle.cert_check.specs.Ways.{step_pair, step_side, decision_of, way_of, AreApart, AreWithin, HasWay}

abbrev pub pairs_of : List Step → List ℕ
pairs_of steps = map (λ s. (step_pair s).0) steps

decision_pair : (s : Step) → (decision_of s).pair ≡ (step_pair s).0
decision_pair (Lower q) = refl
decision_pair (Higher q) = refl
decision_pair (Forced q s) = refl

decision_side : (s : Step) → (decision_of s).side ≡ step_side s
decision_side (Lower q) = refl
decision_side (Higher q) = refl
decision_side (Forced q s) = refl

-- a pair among the steps has a side
sided : (steps : List Step) (q : ℕ) → Contains (pairs_of steps) q → side_on (way_of steps) q ≢ None
sided [] q h = absurd (in_none q h)
sided (s ∷ steps) q h = go (cases_eq (step_pair s).0 q) (in_cons (step_pair s).0 (pairs_of steps) q h) (sided steps q)
  where
    at : (b : Bool) → eqb (decision_of s).pair q ≡ b → (b ≡ true) ⊎ (side_on (way_of steps) q ≢ None) → cond b (Some (decision_of s).side) (side_on (way_of steps) q) ≢ None
    at true e o k = cc
    at false e (inl t) k = cc
    at false e (inr n) k = n k

    go : ((step_pair s).0 ≡ q) ⊎ ((step_pair s).0 ≡ q → ⊥) → ((step_pair s).0 ≡ q) ⊎ Contains (pairs_of steps) q → (Contains (pairs_of steps) q → side_on (way_of steps) q ≢ None) → side_on (way_of (s ∷ steps)) q ≢ None
    go (inl e) o rest = at (eqb (decision_of s).pair q) refl (inl (eq-eqb (decision_of s).pair q (decision_pair s ∙ e)))
    go (inr n) (inl e) rest = absurd (n e)
    go (inr n) (inr m) rest = at (eqb (decision_of s).pair q) refl (inr (rest m))

distinct : (steps : List Step) → AreApart steps → Distinct (pairs_of steps)
distinct [] a = tt
distinct (s ∷ steps) a = (λ h. sided steps (step_pair s).0 h a.0, distinct steps a.1)

within : (pairs : ℕ) (steps : List Step) → AreWithin pairs steps → (q : ℕ) → Contains (pairs_of steps) q → q < pairs
within pairs [] a q h = absurd (in_none q h)
within pairs (s ∷ steps) a q h = go (in_cons (step_pair s).0 (pairs_of steps) q h) (within pairs steps a.1 q)
  where
    go : ((step_pair s).0 ≡ q) ⊎ Contains (pairs_of steps) q → (Contains (pairs_of steps) q → q < pairs) → q < pairs
    go (inl e) rest = subst (λ n. n < pairs) e a.0
    go (inr m) rest = rest m

length-pairs_of : (steps : List Step) → length (pairs_of steps) ≡ length steps
length-pairs_of [] = refl
length-pairs_of (s ∷ steps) = ap suc (length-pairs_of steps)

-- where a pair is undecided there are fewer decisions than pairs
pub few : (pairs : ℕ) (steps : List Step) (q : ℕ) → AreApart steps → AreWithin pairs steps → q < pairs → side_on (way_of steps) q ≡ None → length steps < pairs
few pairs steps q apart inside low free =
    omega (arith, length-pairs_of steps, few_below pairs (q ∷ pairs_of steps) ((λ h. sided steps q h free), distinct steps apart) (λ r m. there r (in_cons q (pairs_of steps) r m)))
  where
    there : (r : ℕ) → (q ≡ r) ⊎ Contains (pairs_of steps) r → r < pairs
    there r (inl e) = omega (arith, low, e)
    there r (inr m) = within pairs steps inside r m

-- the sides with one decision more
pub sides_more : (sides : List (Option Side)) (steps : List Step) (s : Step) → ((q : ℕ) → decided sides q ≡ side_on (way_of steps) q) → (step_pair s).0 < length sides → (q : ℕ) → decided (set sides (step_pair s).0 (Some (step_side s))) q ≡ side_on (way_of (s ∷ steps)) q
sides_more sides steps s same inside q = go (cases_eq (step_pair s).0 q)
  where
    test : (b : Bool) → eqb (decision_of s).pair q ≡ b → side_on (way_of (s ∷ steps)) q ≡ cond b (Some (decision_of s).side) (side_on (way_of steps) q)
    test b e = ap (λ c. cond c (Some (decision_of s).side) (side_on (way_of steps) q)) e

    go : ((step_pair s).0 ≡ q) ⊎ ((step_pair s).0 ≡ q → ⊥) → decided (set sides (step_pair s).0 (Some (step_side s))) q ≡ side_on (way_of (s ∷ steps)) q
    go (inl e) = ap (λ r. get_or (set sides (step_pair s).0 (Some (step_side s))) r None) (sym e) ∙ get_or-set_same sides (step_pair s).0 (Some (step_side s)) None inside ∙ ap Some (sym (decision_side s)) ∙ sym (test true (eq-eqb (decision_of s).pair q (decision_pair s ∙ e)))
    go (inr n) = get_or-set_other sides (step_pair s).0 q (Some (step_side s)) None (λ e. n (sym e)) ∙ same q ∙ sym (test false (ne_eqb (decision_of s).pair q (λ e. n (sym (decision_pair s) ∙ e))))

-- and with the last one taken back
pub sides_less : (sides : List (Option Side)) (steps : List Step) (s : Step) → ((q : ℕ) → decided sides q ≡ side_on (way_of (s ∷ steps)) q) → AreApart (s ∷ steps) → (step_pair s).0 < length sides → (q : ℕ) → decided (set sides (step_pair s).0 None) q ≡ side_on (way_of steps) q
sides_less sides steps s same apart inside q = go (cases_eq (step_pair s).0 q)
  where
    go : ((step_pair s).0 ≡ q) ⊎ ((step_pair s).0 ≡ q → ⊥) → decided (set sides (step_pair s).0 None) q ≡ side_on (way_of steps) q
    go (inl e) = ap (λ r. get_or (set sides (step_pair s).0 None) r None) (sym e) ∙ get_or-set_same sides (step_pair s).0 None None inside ∙ sym apart.0 ∙ ap (side_on (way_of steps)) e
    go (inr n) = get_or-set_other sides (step_pair s).0 q None None (λ e. n (sym e)) ∙ same q ∙ ap (λ c. cond c (Some (decision_of s).side) (side_on (way_of steps) q)) (ne_eqb (decision_of s).pair q (λ e. n (sym (decision_pair s) ∙ e)))

-- a way with the same steps and sides is the same way
pub has_way_kept : (old new : Way) (steps : List Step) → HasWay old steps → new.steps.items ≡ old.steps.items → vec_capacity new.steps ≡ vec_capacity old.steps → new.sides.items ≡ old.sides.items → vec_len new.sides ≡ vec_len old.sides → HasWay new (reverse new.steps.items)
has_way_kept old new steps h s room items len =
    let same : reverse new.steps.items ≡ steps = ap (λ (l : List Step). reverse l) s ∙ h.kept in
    subst (λ (l : List Step). HasWay new l) (sym same) (record {
      kept = same;
      sides = λ q. ap (λ (l : List (Option Side)). decided l q) items ∙ h.sides q;
      apart = h.apart;
      within = subst (λ n. AreWithin n steps) (sym len) h.within;
      room = omega (arith, h.room, len, room);
    })
