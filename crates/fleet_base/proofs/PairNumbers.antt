-- The numbers of the pairs of each visit, as they are noted pair by pair.
use Rattle.std.proofs.Common.{ℕ, suc, zero, ◌≡◌, ◌≢◌, ◌+◌, ◌<◌, List, [], ◌∷◌, ◌++◌, true, false, Bool, cond, refl, sym, ap, ◌∙◌, subst, arith, length, get_or, set, take}
use Rattle.std.specs.Prelude.{◌&&◌, ◌||◌, ◌==◌, Contains, replicate}
use Rattle.std.proofs.lemmas.Bool.{eqb-true, eq-eqb}
use Rattle.std.proofs.lemmas.List.Elements.{Contains-get_or}
use Rattle.std.proofs.lemmas.List.{take_more, map-append, length-take, get_or-set_same, get_or-set_other, length-set, append-nil}
use Rattle.fleet_base.specs.declared.geometry.Visit.{Visit}
use Rattle.fleet_base.specs.declared.geometry.PlannedVisit.{PlannedVisit}
use Rattle.fleet_base.specs.declared.order.Pair.{Pair}
use Rattle.fleet_base.specs.declared.order.PairId.{PairId}
use Rattle.fleet_base.specs.Lists.{row_of}
use Rattle.fleet_base.specs.Plan.{IsOnRoute, AreRoutes, last_of}
use Rattle.fleet_base.specs.Pairs.{pairs_of, numbers_from, numbers_of, same_visit}
use Rattle.fleet_base.specs.PairLists.{numbers_at, AreNumbers, no_numbers, noted, HasList}
use Rattle.fleet_base.proofs.PairLaws.{listed_pair}
use Rattle.fleet_base.proofs.GraphLaws.{length-map, get_or-map_default, route_is_some}

abbrev visit : ℕ → ℕ → Visit
visit i k = record { robot = i; index = k }

-- whether the pair is one of the visit
abbrev pub is_of : Pair → Visit → Bool
is_of p v = same_visit p.lower v || same_visit p.higher v

abbrev pub number : ℕ → PairId
number n = record { 0 = n }

-- the number of a pair where it is one of the visit
abbrev pub number_if : Bool → ℕ → List PairId
number_if b n = cond b (number n ∷ []) []

-- one pair more at the end
pub numbers_more : (q : ℕ) (ps : List Pair) (p : Pair) (v : Visit) → numbers_from q (ps ++ p ∷ []) v ≡ numbers_from q ps v ++ number_if (is_of p v) (q + length ps)
numbers_more q [] p v = go (is_of p v) (omega arith)
  where
    go : (b : Bool) → q + 0 ≡ q → cond b (number q ∷ []) [] ≡ [] ++ number_if b (q + 0)
    go true e = ap (λ (n : ℕ). number n ∷ []) (sym e)
    go false e = refl
numbers_more q (r ∷ rs) p v =
    let e : q + 1 + length rs ≡ q + length (r ∷ rs) = omega arith in
    go (is_of r v) (numbers_more (q + 1) rs p v ∙ ap (λ (n : ℕ). numbers_from (q + 1) rs v ++ number_if (is_of p v) n) e)
  where
    go : (b : Bool) → numbers_from (q + 1) (rs ++ p ∷ []) v ≡ numbers_from (q + 1) rs v ++ number_if (is_of p v) (q + length (r ∷ rs))
        → cond b (number q ∷ numbers_from (q + 1) (rs ++ p ∷ []) v) (numbers_from (q + 1) (rs ++ p ∷ []) v) ≡ cond b (number q ∷ numbers_from (q + 1) rs v) (numbers_from (q + 1) rs v) ++ number_if (is_of p v) (q + length (r ∷ rs))
    go true e = ap (λ (ns : List PairId). number q ∷ ns) e
    go false e = e

-- the same visit, by its parts
pub same_visit_true : (u v : Visit) → u.robot ≡ v.robot → u.index ≡ v.index → same_visit u v ≡ true
same_visit_true u v r k = rw (eq-eqb u.robot v.robot r, eq-eqb u.index v.index k)

pub robots_differ : (u v : Visit) → u.robot ≢ v.robot → same_visit u v ≡ false
robots_differ u v ne = go (u.robot == v.robot) refl
  where
    go : (b : Bool) → (u.robot == v.robot) ≡ b → (b && (u.index == v.index)) ≡ false
    go true e = absurd (ne (eqb-true u.robot v.robot e))
    go false e = refl

pub indices_differ : (u v : Visit) → u.index ≢ v.index → same_visit u v ≡ false
indices_differ u v ne = go (u.robot == v.robot) (u.index == v.index) refl
  where
    go : (a b : Bool) → (u.index == v.index) ≡ b → (a && b) ≡ false
    go true true e = absurd (ne (eqb-true u.index v.index e))
    go true false e = refl
    go false b e = refl

-- two visits are the same, or differ in a part
data SameOrNot (u v : Visit) : Type 0 where
  same : u.robot ≡ v.robot → u.index ≡ v.index → SameOrNot u v
  other_robot : u.robot ≢ v.robot → SameOrNot u v
  other_index : u.robot ≡ v.robot → u.index ≢ v.index → SameOrNot u v

same_or_not : (u v : Visit) → SameOrNot u v
same_or_not u v = go (u.robot == v.robot) (u.index == v.index) refl refl
  where
    go : (a b : Bool) → (u.robot == v.robot) ≡ a → (u.index == v.index) ≡ b → SameOrNot u v
    go true true e f = same (eqb-true u.robot v.robot e) (eqb-true u.index v.index f)
    go true false e f = other_index (eqb-true u.robot v.robot e) (λ k. let t : (u.index == v.index) ≡ true = eq-eqb u.index v.index k in cc)
    go false b e f = other_robot (λ r. let t : (u.robot == v.robot) ≡ true = eq-eqb u.robot v.robot r in cc)

-- what a number more makes of the list of a visit
noted_itself : (numbers : List (List (List PairId))) (v : Visit) (q : PairId) → HasList numbers v → numbers_at (noted numbers v q) v.robot v.index ≡ numbers_at numbers v.robot v.index ++ q ∷ []
noted_itself numbers v q h =
    let row = set (row_of numbers v.robot) v.index (numbers_at numbers v.robot v.index ++ q ∷ []) in
    ap (λ (r : List (List PairId)). row_of r v.index) (get_or-set_same numbers v.robot row [] h.0)
    ∙ get_or-set_same (row_of numbers v.robot) v.index (numbers_at numbers v.robot v.index ++ q ∷ []) [] h.1

append_none : (xs : List PairId) → xs ≡ xs ++ []
append_none xs = sym (append-nil xs)

pub noted_at : (numbers : List (List (List PairId))) (v : Visit) (q : PairId) (i k : ℕ) → HasList numbers v
    → numbers_at (noted numbers v q) i k ≡ numbers_at numbers i k ++ cond (same_visit v (visit i k)) (q ∷ []) []
noted_at numbers v q i k h = go (same_or_not v (visit i k))
  where
    row : List (List PairId)
    row = set (row_of numbers v.robot) v.index (numbers_at numbers v.robot v.index ++ q ∷ [])

    go : SameOrNot v (visit i k) → numbers_at (noted numbers v q) i k ≡ numbers_at numbers i k ++ cond (same_visit v (visit i k)) (q ∷ []) []
    go (same r e) =
        subst (λ (b : Bool). numbers_at (noted numbers v q) i k ≡ numbers_at numbers i k ++ cond b (q ∷ []) []) (sym (same_visit_true v (visit i k) r e))
        (subst (λ (m : ℕ). numbers_at (noted numbers v q) m k ≡ numbers_at numbers m k ++ q ∷ []) r
        (subst (λ (m : ℕ). numbers_at (noted numbers v q) v.robot m ≡ numbers_at numbers v.robot m ++ q ∷ []) e (noted_itself numbers v q h)))
    go (other_robot ne) =
        subst (λ (b : Bool). numbers_at (noted numbers v q) i k ≡ numbers_at numbers i k ++ cond b (q ∷ []) []) (sym (robots_differ v (visit i k) ne))
        (ap (λ (r : List (List PairId)). row_of r k) (get_or-set_other numbers v.robot i _ [] (λ e. ne (sym e))) ∙ append_none (numbers_at numbers i k))
    go (other_index r ne) =
        subst (λ (b : Bool). numbers_at (noted numbers v q) i k ≡ numbers_at numbers i k ++ cond b (q ∷ []) []) (sym (indices_differ v (visit i k) ne))
        (subst (λ (m : ℕ). numbers_at (noted numbers v q) m k ≡ numbers_at numbers m k ++ []) r
        (ap (λ (w : List (List PairId)). row_of w k) (get_or-set_same numbers v.robot _ [] h.0) ∙ get_or-set_other (row_of numbers v.robot) v.index k _ [] (λ e. ne (sym e)) ∙ append_none (numbers_at numbers v.robot k)))

-- and of the shape
pub noted_length : (numbers : List (List (List PairId))) (v : Visit) (q : PairId) → length (noted numbers v q) ≡ length numbers
noted_length numbers v q = length-set numbers v.robot (set (row_of numbers v.robot) v.index (numbers_at numbers v.robot v.index ++ q ∷ []))

pub noted_row : (numbers : List (List (List PairId))) (v : Visit) (q : PairId) (i : ℕ) → v.robot < length numbers → length (row_of (noted numbers v q) i) ≡ length (row_of numbers i)
noted_row numbers v q i h = go (v.robot == i) refl
  where
    go : (b : Bool) → (v.robot == i) ≡ b → length (row_of (noted numbers v q) i) ≡ length (row_of numbers i)
    go true e =
        subst (λ (m : ℕ). length (row_of (noted numbers v q) m) ≡ length (row_of numbers m)) (eqb-true v.robot i e)
        (ap (λ (r : List (List PairId)). length r) (get_or-set_same numbers v.robot _ [] h) ∙ length-set (row_of numbers v.robot) v.index _)
    go false e =
        let ne : i ≢ v.robot = λ k. let t : (v.robot == i) ≡ true = eq-eqb v.robot i (sym k) in cc in
        ap (λ (r : List (List PairId)). length r) (get_or-set_other numbers v.robot i _ [] ne)

-- the numbers of these pairs are noted, for each visit of the routes
pub record AreNoted (numbers : List (List (List PairId))) (routes : List (List PlannedVisit)) (pairs : List Pair) : Type 0 where
  pub robots : length numbers ≡ length routes
  pub visits : (i : ℕ) → length (row_of numbers i) ≡ length (row_of routes i)
  pub said : AreNumbers numbers pairs

get_or-replicate : (n k : ℕ) → get_or (replicate {A = List PairId} n []) k [] ≡ []
get_or-replicate zero k = refl
get_or-replicate (suc n) zero = refl
get_or-replicate (suc n) (suc k) = get_or-replicate n k

length-replicate_lists : (n : ℕ) → length (replicate {A = List PairId} n []) ≡ n
length-replicate_lists zero = refl
length-replicate_lists (suc n) = ap suc (length-replicate_lists n)

none_row : (routes : List (List PlannedVisit)) (i : ℕ) → row_of (no_numbers routes) i ≡ replicate {A = List PairId} (length (row_of routes i)) []
none_row routes i = get_or-map_default (λ (route : List PlannedVisit). replicate {A = List PairId} (length route) []) routes i []

pub none_noted : (routes : List (List PlannedVisit)) → AreNoted (no_numbers routes) routes []
none_noted routes = record {
  robots = length-map (λ (route : List PlannedVisit). replicate {A = List PairId} (length route) []) routes;
  visits = λ i. ap (λ (r : List (List PairId)). length r) (none_row routes i) ∙ length-replicate_lists (length (row_of routes i));
  said = λ i k. ap (λ (r : List (List PairId)). row_of r k) (none_row routes i) ∙ get_or-replicate (length (row_of routes i)) k;
}

-- one of two tests holds at most
one_of_two : (a b : Bool) (xs ys : List PairId) → (a ≡ true → b ≡ false) → (xs ++ cond a ys []) ++ cond b ys [] ≡ xs ++ cond (a || b) ys []
one_of_two true true xs ys h = let f : true ≡ false = h refl in cc
one_of_two true false xs ys h = append-nil (xs ++ ys)
one_of_two false b xs ys h = ap (λ (zs : List PairId). zs ++ cond b ys []) (append-nil xs)

-- a pair of the plan: its visits are there, and are of different robots
pub record IsListed (routes : List (List PlannedVisit)) (p : Pair) : Type 0 where
  pub low : IsOnRoute routes p.lower
  pub high : IsOnRoute routes p.higher
  pub differ : p.lower.robot ≢ p.higher.robot
  pub low_there : p.lower.robot < length routes
  pub high_there : p.higher.robot < length routes

is_listed : (routes : List (List PlannedVisit)) (p : Pair) → Contains (pairs_of routes) p → IsListed routes p
is_listed routes p h =
    let l = listed_pair routes p h in
    let w = l.4 in
    subst (λ (r : Pair). IsListed routes r) (sym w.is) (record {
      low = w.lower_on;
      high = w.higher_on;
      differ = λ e. omega (arith, w.order, e);
      low_there = omega (arith, w.order, w.there);
      high_there = w.there;
    })

pub listed_at : (routes : List (List PlannedVisit)) (list : List Pair) (k : ℕ) (d : Pair) → list ≡ pairs_of routes → k < length list → IsListed routes (get_or list k d)
listed_at routes list k d e h = is_listed routes (get_or list k d) (subst (λ (ps : List Pair). Contains ps (get_or list k d)) e (Contains-get_or list k d h))

-- both of its visits have a list
pub lower_has_list : (numbers : List (List (List PairId))) (routes : List (List PlannedVisit)) (pairs : List Pair) (p : Pair) → AreNoted numbers routes pairs → IsListed routes p → HasList numbers p.lower
lower_has_list numbers routes pairs p n l = (omega (arith, l.low_there, n.robots), omega (arith, l.low, n.visits p.lower.robot))

pub higher_has_list : (numbers : List (List (List PairId))) (routes : List (List PlannedVisit)) (pairs : List Pair) (p : Pair) → AreNoted numbers routes pairs → IsListed routes p → HasList numbers p.higher
higher_has_list numbers routes pairs p n l = (omega (arith, l.high_there, n.robots), omega (arith, l.high, n.visits p.higher.robot))

-- and the second one still has it when the first was noted
pub still_has_list : (numbers : List (List (List PairId))) (v u : Visit) (q : PairId) → v.robot < length numbers → HasList numbers u → HasList (noted numbers v q) u
still_has_list numbers v u q there h = (omega (arith, h.0, noted_length numbers v q), omega (arith, h.1, noted_row numbers v q u.robot there))

-- a pair more, noted for both of its visits
pub pair_noted : (numbers : List (List (List PairId))) (routes : List (List PlannedVisit)) (pairs : List Pair) (p : Pair)
    → AreNoted numbers routes pairs → IsListed routes p → AreNoted (noted (noted numbers p.lower (number (length pairs))) p.higher (number (length pairs))) routes (pairs ++ p ∷ [])
pair_noted numbers routes pairs p n l = record {
  robots = noted_length once p.higher q ∙ noted_length numbers p.lower q ∙ n.robots;
  visits = λ i. noted_row once p.higher q i high.0 ∙ noted_row numbers p.lower q i low.0 ∙ n.visits i;
  said = λ i k. noted_at once p.higher q i k high ∙ ap (λ (xs : List PairId). xs ++ cond (same_visit p.higher (visit i k)) (q ∷ []) []) (noted_at numbers p.lower q i k low)
      ∙ one_of_two (same_visit p.lower (visit i k)) (same_visit p.higher (visit i k)) (numbers_at numbers i k) (q ∷ []) (λ e. apart i k e)
      ∙ ap (λ (xs : List PairId). xs ++ cond (is_of p (visit i k)) (q ∷ []) []) (n.said i k)
      ∙ ap (λ (m : ℕ). numbers_of pairs (visit i k) ++ number_if (is_of p (visit i k)) m) plain
      ∙ sym (numbers_more 0 pairs p (visit i k));
}
  where
    q : PairId
    q = number (length pairs)

    once : List (List (List PairId))
    once = noted numbers p.lower q

    plain : length pairs ≡ 0 + length pairs
    plain = omega arith

    low : HasList numbers p.lower
    low = lower_has_list numbers routes pairs p n l

    high : HasList once p.higher
    high = still_has_list numbers p.lower p.higher q low.0 (higher_has_list numbers routes pairs p n l)

    apart : (i k : ℕ) → same_visit p.lower (visit i k) ≡ true → same_visit p.higher (visit i k) ≡ false
    apart i k e = robots_differ p.higher (visit i k) (λ r. l.differ (go (p.lower.robot == i) refl e ∙ sym r))
      where
        go : (b : Bool) → (p.lower.robot == i) ≡ b → (b && (p.lower.index == k)) ≡ true → p.lower.robot ≡ i
        go true f t = eqb-true p.lower.robot i f
        go false f t = cc

-- the pairs listed so far, and the next one
pub next_noted : (numbers : List (List (List PairId))) (routes : List (List PlannedVisit)) (list : List Pair) (k : ℕ) (d : Pair) → list ≡ pairs_of routes → k < length list → AreNoted numbers routes (take k list)
    → AreNoted (noted (noted numbers (get_or list k d).lower (number k)) (get_or list k d).higher (number k)) routes (take (k + 1) list)
next_noted numbers routes list k d e h n =
    let p = get_or list k d in
    let taken : length (take k list) ≡ k = omega (arith, length-take k list) in
    subst (λ (ps : List Pair). AreNoted (noted (noted numbers p.lower (number k)) p.higher (number k)) routes ps) (sym (take_more list k d h))
    (subst (λ (m : ℕ). AreNoted (noted (noted numbers p.lower (number m)) p.higher (number m)) routes (take k list ++ p ∷ [])) taken
    (pair_noted numbers routes (take k list) p n (listed_at routes list k d e h)))

-- the lists of one robot more
pub none_more : (routes : List (List PlannedVisit)) (r : ℕ) → r < length routes → no_numbers (take (r + 1) routes) ≡ no_numbers (take r routes) ++ replicate (length (row_of routes r)) [] ∷ []
none_more routes r h = ap (λ (rs : List (List PlannedVisit)). no_numbers rs) (take_more routes r [] h) ∙ map-append (λ (route : List PlannedVisit). replicate {A = List PairId} (length route) []) (take r routes) (row_of routes r ∷ [])

-- as many lists as visits
pub visits_of_robot : (routes : List (List PlannedVisit)) → AreRoutes routes → (r : ℕ) → r < length routes → last_of routes r + 1 ≡ length (row_of routes r)
visits_of_robot routes a r h = omega (arith, route_is_some routes a r h)
