-- Who waits, and where he stands.
use Rattle.std.proofs.Common.{ℕ, suc, zero, ◌≡◌, ◌<◌, ◌≤◌, ◌⊎◌, List, [], ◌∷◌, ◌++◌, Some, eqb, sym, ap, ◌∙◌, subst, inl, inr, arith, length}
use Rattle.std.specs.Prelude.{Contains, slice_get, slice_index, IsTrue, ◌↔◌, reverse}
use Rattle.std.proofs.Math.ListN.{set}
use Rattle.std.proofs.lemmas.Bool.{eqb-true, eq-eqb}
use Rattle.std.proofs.lemmas.List.{get_or-set_same, get_or-set_other, reverse-append}
use Rattle.std.proofs.lemmas.List.Elements.{Contains-append_left, Contains-append_right}
use Rattle.fleet_base.proofs.Members.{head_in, in_cons, in_none, element_at, place_of_element}
use Rattle.fleet_base.proofs.AllVisits.{in_map, from_map}
use Rattle.plan_graph.specs.declared.work.Waiting.{Waiting}
use Rattle.plan_graph.specs.Listing.{robots_of}
use Rattle.plan_graph.specs.Working.{KnowPlaces}
use Rattle.plan_graph.proofs.Listing.{slice_get-push_cases}

-- the robot that stands at the place of this one is this one, or this one does not wait
pub standing : (waiting : List Waiting) (place : List ℕ) (robot k : ℕ) (w : Waiting) → KnowPlaces waiting place → slice_get waiting k ≡ Some w → slice_index place robot ≡ k → IsTrue (eqb w.robot robot) ↔ Contains (robots_of waiting) robot
standing waiting place robot k w know here at = (λ t. there (eqb-true w.robot robot t), λ h. back (from_map (λ (x : Waiting). x.robot) waiting robot h))
  where
    there : w.robot ≡ robot → Contains (robots_of waiting) robot
    there e = subst (λ (m : ℕ). Contains (robots_of waiting) m) e (in_map (λ (x : Waiting). x.robot) waiting w (element_at waiting k w here))

    back : (x : Waiting) × Contains waiting x × (x.robot ≡ robot) → IsTrue (eqb w.robot robot)
    back (x, h, e) =
        let p = place_of_element waiting x h in
        let same : k ≡ p.0 = sym at ∙ ap (λ (m : ℕ). slice_index place m) (sym e) ∙ know p.0 x p.2 in
        let is : Some w ≡ Some x = sym here ∙ ap (λ (m : ℕ). slice_get waiting m) same ∙ p.2 in
        let one : w ≡ x = cc in
        eq-eqb w.robot robot (ap (λ (y : Waiting). y.robot) one ∙ e)

-- where no robot stands at its place, it does not wait
pub not_standing : (waiting : List Waiting) (place : List ℕ) (robot : ℕ) → KnowPlaces waiting place → length waiting ≤ slice_index place robot → Contains (robots_of waiting) robot → ⊥
not_standing waiting place robot know past h = back (from_map (λ (x : Waiting). x.robot) waiting robot h)
  where
    back : (x : Waiting) × Contains waiting x × (x.robot ≡ robot) → ⊥
    back (x, h, e) =
        let p = place_of_element waiting x h in
        omega (arith, p.1, know p.0 x p.2, ap (λ (m : ℕ). slice_index place m) e)

-- one robot more waits, at the end
pub know_places_push : (waiting : List Waiting) (place : List ℕ) (w : Waiting) → KnowPlaces waiting place → w.robot < length place → (Contains (robots_of waiting) w.robot → ⊥) → KnowPlaces (waiting ++ w ∷ []) (set place w.robot (length waiting))
know_places_push waiting place w know there new k x e = go (slice_get-push_cases waiting w k x e)
  where
    go : (slice_get waiting k ≡ Some x) ⊎ ((k ≡ length waiting) × (w ≡ x)) → slice_index (set place w.robot (length waiting)) x.robot ≡ k
    go (inl h) =
        let ne : x.robot ≡ w.robot → ⊥ = λ s. new (subst (λ (m : ℕ). Contains (robots_of waiting) m) s (in_map (λ (y : Waiting). y.robot) waiting x (element_at waiting k x h))) in
        get_or-set_other place w.robot x.robot (length waiting) 0 ne ∙ know k x h
    go (inr h) = subst (λ (y : Waiting). slice_index (set place w.robot (length waiting)) y.robot ≡ k) h.1 (get_or-set_same place w.robot (length waiting) 0 there ∙ sym h.0)

-- and one less
pub know_places_pop : (waiting : List Waiting) (w : Waiting) (place : List ℕ) → KnowPlaces (waiting ++ w ∷ []) place → KnowPlaces waiting place
know_places_pop waiting w place know k x e = know k x (front waiting k e)
  where
    front : (ws : List Waiting) (k : ℕ) → slice_get ws k ≡ Some x → slice_get (ws ++ w ∷ []) k ≡ Some x
    front [] k e = cc
    front (y ∷ ys) zero e = e
    front (y ∷ ys) (suc k) e = front ys k e

-- ---- the last one first

pub reverse_push : (ws : List Waiting) (w : Waiting) → reverse (ws ++ w ∷ []) ≡ w ∷ reverse ws
reverse_push ws w = reverse-append ws (w ∷ [])

pub in_reverse : (ws : List Waiting) (w : Waiting) → Contains ws w → Contains (reverse ws) w
in_reverse [] w h = absurd (in_none w h)
in_reverse (x ∷ xs) w h = subst (λ (ys : List Waiting). Contains ys w) (sym (reverse-append (x ∷ []) xs)) (go (in_cons x xs w h) (in_reverse xs w))
  where
    go : (x ≡ w) ⊎ Contains xs w → (Contains xs w → Contains (reverse xs) w) → Contains (reverse xs ++ x ∷ []) w
    go (inl e) later = Contains-append_right (reverse xs) (x ∷ []) w (subst (λ (y : Waiting). Contains (x ∷ []) y) e (head_in x []))
    go (inr h) later = Contains-append_left (reverse xs) (x ∷ []) w (later h)

-- who waits, waits in the reversed list
pub waits_reversed : (ws : List Waiting) (robot : ℕ) → Contains (robots_of ws) robot → Contains (robots_of (reverse ws)) robot
waits_reversed ws robot h = go (from_map (λ (x : Waiting). x.robot) ws robot h)
  where
    go : (x : Waiting) × Contains ws x × (x.robot ≡ robot) → Contains (robots_of (reverse ws)) robot
    go (x, h, e) = subst (λ (m : ℕ). Contains (robots_of (reverse ws)) m) e (in_map (λ (y : Waiting). y.robot) (reverse ws) x (in_reverse ws x h))
