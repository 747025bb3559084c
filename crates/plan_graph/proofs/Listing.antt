-- A list of visits that grows robot by robot, each visit after everything that is before it.
use Rattle.std.proofs.Common.{ℕ, suc, zero, ◌≡◌, ◌+◌, ◌<◌, ◌≤◌, ◌⊎◌, List, [], ◌∷◌, ◌++◌, Some, Option, refl, sym, ap, ◌∙◌, subst, inl, inr, arith, length, get_or, sum}
use Rattle.std.specs.Prelude.{Contains, slice_get, sum_by}
use Rattle.std.proofs.Math.ListN.{set}
use Rattle.std.proofs.lemmas.Bool.{cases_lt, cases_eq, cases_order}
use Rattle.std.proofs.lemmas.List.{length-set, get_or-set_same, get_or-set_other, get_or_past, length_push}
use Rattle.std.proofs.lemmas.List.Sums.{sum_by-set, sum_by-cons}
use Rattle.std.proofs.lemmas.List.Elements.{Contains-append_left, Contains-push, Contains-push_cases}
use Rattle.std.proofs.lemmas.Option.{slice_get_within, get_or_from_slice_get, slice_get-get_or}
use Rattle.fleet_base.specs.declared.geometry.Visit.{Visit}
use Rattle.fleet_base.specs.declared.order.Side.{Side}
use Rattle.fleet_base.specs.Lists.{AllDifferent}
use Rattle.fleet_base.specs.Order.{Graph, IsVisit, last_in, Before, IsSorted}
use Rattle.fleet_base.proofs.Members.{in_none, place_of_element, element_at}
use Rattle.plan_graph.specs.Limits.{visit_count}
use Rattle.plan_graph.specs.Listing.{front, IsListing, IsFree}

-- ---- lists

pub slice_get-append_left : {X : Type 0} (xs ys : List X) (k : ℕ) (x : X) → slice_get xs k ≡ Some x → slice_get (xs ++ ys) k ≡ Some x
slice_get-append_left [] ys k x e = cc
slice_get-append_left (x' ∷ xs) ys zero x e = e
slice_get-append_left (x' ∷ xs) ys (suc k) x e = slice_get-append_left xs ys k x e

pub slice_get-push_cases : {X : Type 0} (xs : List X) (y : X) (k : ℕ) (x : X) → slice_get (xs ++ y ∷ []) k ≡ Some x → (slice_get xs k ≡ Some x) ⊎ ((k ≡ length xs) × (y ≡ x))
slice_get-push_cases [] y zero x e = inr (refl, cc)
slice_get-push_cases [] y (suc k) x e = cc
slice_get-push_cases (x' ∷ xs) y zero x e = inl e
slice_get-push_cases (x' ∷ xs) y (suc k) x e = go (slice_get-push_cases xs y k x e)
  where
    go : (slice_get xs k ≡ Some x) ⊎ ((k ≡ length xs) × (y ≡ x)) → (slice_get xs k ≡ Some x) ⊎ ((suc k ≡ suc (length xs)) × (y ≡ x))
    go (inl h) = inl h
    go (inr h) = inr (ap suc h.0, h.1)

-- a list without repeats and one element more
pub all_different_push : {X : Type 0} (xs : List X) (y : X) → AllDifferent xs → (Contains xs y → ⊥) → AllDifferent (xs ++ y ∷ [])
all_different_push xs y apart new j k d lt within same =
    let short : k < length xs + 1 = omega (arith, within, length_push xs y) in
    go (cases_lt k (length xs)) (slice_get-push_cases xs y j (get_or (xs ++ y ∷ []) j d) (slice_get-get_or (xs ++ y ∷ []) j d (omega arith))) (slice_get-push_cases xs y k (get_or (xs ++ y ∷ []) k d) (slice_get-get_or (xs ++ y ∷ []) k d within))
  where
    go : (k < length xs) ⊎ (length xs ≤ k) → (slice_get xs j ≡ Some (get_or (xs ++ y ∷ []) j d)) ⊎ ((j ≡ length xs) × (y ≡ get_or (xs ++ y ∷ []) j d))
        → (slice_get xs k ≡ Some (get_or (xs ++ y ∷ []) k d)) ⊎ ((k ≡ length xs) × (y ≡ get_or (xs ++ y ∷ []) k d)) → ⊥
    go o (inr b) c = absurd (omega (arith, b.0, within, length_push xs y))
    go o (inl b) (inl c) = apart j k d lt (slice_get_within xs k _ c) (get_or_from_slice_get xs j _ d b ∙ same ∙ sym (get_or_from_slice_get xs k _ d c))
    go o (inl b) (inr c) =
        let e : get_or (xs ++ y ∷ []) j d ≡ y = same ∙ sym c.1 in
        new (element_at xs j y (b ∙ ap Some e))

sum_none : (xs : List ℕ) → ((i : ℕ) → get_or xs i 0 ≡ 0) → sum xs ≡ 0
sum_none [] none = refl
sum_none (x ∷ xs) none =
    let first : x ≡ 0 = none 0 in
    let rest = sum_none xs (λ i. none (suc i)) in
    omega (arith, sum_by-cons (λ (y : ℕ). y) x xs)

-- numbers that are within other numbers have no greater sum
sum_within : (xs lasts : List ℕ) → length xs ≡ length lasts → ((i : ℕ) → i < length lasts → get_or xs i 0 ≤ get_or lasts i 0 + 1) → sum xs ≤ sum_by (λ last. last + 1) lasts
sum_within [] lasts e within = omega arith
sum_within (x ∷ xs) [] e within = absurd (omega (arith, e))
sum_within (x ∷ xs) (l ∷ ls) e within =
    let first : x ≤ l + 1 = within 0 (omega arith) in
    let rest = sum_within xs ls (omega (arith, e)) (λ i h. within (suc i) (omega (arith, h))) in
    omega (arith, sum_by-cons (λ (y : ℕ). y) x xs, sum_by-cons (λ (last : ℕ). last + 1) l ls)

-- and a smaller sum where one of them falls short
sum_short : (xs lasts : List ℕ) → length xs ≡ length lasts → ((i : ℕ) → i < length lasts → get_or xs i 0 ≤ get_or lasts i 0 + 1) → (j : ℕ) → j < length lasts → get_or xs j 0 ≤ get_or lasts j 0
    → sum xs < sum_by (λ last. last + 1) lasts
sum_short xs [] e within j there short = absurd (omega (arith, there))
sum_short [] (l ∷ ls) e within j there short = absurd (omega (arith, e))
sum_short (x ∷ xs) (l ∷ ls) e within zero there short =
    let rest = sum_within xs ls (omega (arith, e)) (λ i h. within (suc i) (omega (arith, h))) in
    omega (arith, short, sum_by-cons (λ (y : ℕ). y) x xs, sum_by-cons (λ (last : ℕ). last + 1) l ls)
sum_short (x ∷ xs) (l ∷ ls) e within (suc j) there short =
    let first : x ≤ l + 1 = within 0 (omega arith) in
    let rest = sum_short xs ls (omega (arith, e)) (λ i h. within (suc i) (omega (arith, h))) j (omega (arith, there)) short in
    omega (arith, sum_by-cons (λ (y : ℕ). y) x xs, sum_by-cons (λ (last : ℕ). last + 1) l ls)

-- ---- listings

module _ (g : Graph) (order : ℕ → Option Side) where
  pub nothing_listed : (listed : List ℕ) → length listed ≡ length g.lasts → ((i : ℕ) → get_or listed i 0 ≡ 0) → IsListing g order listed []
  nothing_listed listed e none = record {
    robots = e;
    within = λ i h. omega (arith, none i);
    there = λ v h. absurd (in_none v h);
    each = λ v h. absurd (omega (arith, h, none v.robot));
    once = λ j k d lt h. absurd (omega (arith, h));
    earlier = λ k u v e b there. cc;
    count = sym (sum_none listed none);
  }

  pub few_listed : (listed : List ℕ) (list : List Visit) → IsListing g order listed list → sum listed ≤ visit_count g
  few_listed listed list l = sum_within listed g.lasts l.robots l.within

  pub fewer_listed : (listed : List ℕ) (list : List Visit) → IsListing g order listed list → (i : ℕ) → i < length g.lasts → get_or listed i 0 ≤ last_in g i → sum listed < visit_count g
  fewer_listed listed list l i there short = sum_short listed g.lasts l.robots l.within i there short

  -- what is listed is there
  pub listed_there : (listed : List ℕ) (list : List Visit) → IsListing g order listed list → (v : Visit) → v.index < get_or listed v.robot 0 → IsVisit g v
  listed_there listed list l v h = go (cases_lt v.robot (length g.lasts))
    where
      go : (v.robot < length g.lasts) ⊎ (length g.lasts ≤ v.robot) → IsVisit g v
      go (inl lt) = record { robot = lt; index = omega (arith, h, l.within v.robot lt) }
      go (inr past) = absurd (omega (arith, h, get_or_past listed v.robot 0 (omega (arith, past, l.robots))))

  -- where all visits of each robot are listed, each edge goes forward in the list of all of them
  pub complete : (listed : List ℕ) (list : List Visit) → IsListing g order listed list → ((i : ℕ) → i < length g.lasts → last_in g i < get_or listed i 0) → IsSorted g order list
  complete listed list l all = record {
    visits = λ v h. listed_there listed list l v (l.there v h);
    each = λ v h. l.each v (omega (arith, h.index, all v.robot h.robot));
    once = l.once;
    forward = λ j k u v eu ev before. forward j k u v eu ev before;
  }
    where
      forward : (j k : ℕ) (u v : Visit) → slice_get list j ≡ Some u → slice_get list k ≡ Some v → Before g order u v → j < k
      forward j k u v eu ev before =
          let here : IsVisit g u = listed_there listed list l u (l.there u (element_at list j u eu)) in
          let found = l.earlier k u v ev before here in
          go found.0 found.1 found.2 (cases_order j found.0)
        where
          same : (m : ℕ) → slice_get list m ≡ Some u → get_or list m u ≡ get_or list j u
          same m em = get_or_from_slice_get list m u u em ∙ sym (get_or_from_slice_get list j u u eu)

          go : (m : ℕ) → m < k → slice_get list m ≡ Some u → (j ≡ m) ⊎ ((j < m) ⊎ (m < j)) → j < k
          go m lt em (inl e) = omega arith
          go m lt em (inr (inl less)) = omega arith
          go m lt em (inr (inr more)) = absurd (l.once m j u more (slice_get_within list j u eu) (same m em))

  -- one visit more of a robot
  pub list_next : (listed : List ℕ) (list : List Visit) → IsListing g order listed list → (i : ℕ) → i < length g.lasts → get_or listed i 0 ≤ last_in g i → IsFree g order listed (front listed i)
      → IsListing g order (set listed i (get_or listed i 0 + 1)) (list ++ front listed i ∷ [])
  list_next listed list l i there short free = record {
    robots = length-set listed i _ ∙ l.robots;
    within = λ j h. within j h (cases_eq j i);
    there = λ w h. listed_now w (Contains-push_cases list (front listed i) w h);
    each = λ w h. each w h (cases_eq w.robot i);
    once = all_different_push list (front listed i) l.once (λ h. omega (arith, l.there (front listed i) h));
    earlier = λ k u w e before here. earlier k u w before here (slice_get-push_cases list (front listed i) k w e);
    count = omega (arith, length_push list (front listed i), l.count, sum_by-set (λ (x : ℕ). x) listed i (get_or listed i 0 + 1) 0 inside);
  }
    where
      inside : i < length listed
      inside = omega (arith, there, l.robots)

      one_more : get_or (set listed i (get_or listed i 0 + 1)) i 0 ≡ get_or listed i 0 + 1
      one_more = get_or-set_same listed i _ 0 inside

      within : (j : ℕ) → j < length g.lasts → (j ≡ i) ⊎ (j ≡ i → ⊥) → get_or (set listed i (get_or listed i 0 + 1)) j 0 ≤ last_in g j + 1
      within j h (inl e) = subst (λ (m : ℕ). get_or (set listed i (get_or listed i 0 + 1)) m 0 ≤ last_in g m + 1) (sym e) (omega (arith, one_more, short))
      within j h (inr ne) = omega (arith, get_or-set_other listed i j (get_or listed i 0 + 1) 0 ne, l.within j h)

      grows : (j : ℕ) → (j ≡ i) ⊎ (j ≡ i → ⊥) → get_or listed j 0 ≤ get_or (set listed i (get_or listed i 0 + 1)) j 0
      grows j (inl e) = subst (λ (m : ℕ). get_or listed m 0 ≤ get_or (set listed i (get_or listed i 0 + 1)) m 0) (sym e) (omega (arith, one_more))
      grows j (inr ne) = omega (arith, get_or-set_other listed i j (get_or listed i 0 + 1) 0 ne)

      listed_now : (w : Visit) → Contains list w ⊎ (front listed i ≡ w) → w.index < get_or (set listed i (get_or listed i 0 + 1)) w.robot 0
      listed_now w (inl h) = omega (arith, l.there w h, grows w.robot (cases_eq w.robot i))
      listed_now w (inr e) = subst (λ (x : Visit). x.index < get_or (set listed i (get_or listed i 0 + 1)) x.robot 0) e (omega (arith, one_more))

      is_front : (w : Visit) → w.robot ≡ i → w.index ≡ get_or listed i 0 → front listed i ≡ w
      is_front w r k = λ t. record { robot = sym r t; index = sym k t }

      each_here : (w : Visit) → w.robot ≡ i → w.index < get_or listed i 0 + 1 → (w.index < get_or listed i 0) ⊎ (get_or listed i 0 ≤ w.index) → Contains (list ++ front listed i ∷ []) w
      each_here w r h (inl lt) = Contains-append_left list (front listed i ∷ []) w (l.each w (subst (λ (m : ℕ). w.index < get_or listed m 0) (sym r) lt))
      each_here w r h (inr ge) = subst (λ (x : Visit). Contains (list ++ front listed i ∷ []) x) (is_front w r (omega arith)) (Contains-push list (front listed i))

      each : (w : Visit) → w.index < get_or (set listed i (get_or listed i 0 + 1)) w.robot 0 → (w.robot ≡ i) ⊎ (w.robot ≡ i → ⊥) → Contains (list ++ front listed i ∷ []) w
      each w h (inl e) =
          let up : w.index < get_or listed i 0 + 1 = subst (λ (n : ℕ). w.index < n) (ap (λ (m : ℕ). get_or (set listed i (get_or listed i 0 + 1)) m 0) e ∙ one_more) h in
          each_here w e up (cases_lt w.index (get_or listed i 0))
      each w h (inr ne) = Contains-append_left list (front listed i ∷ []) w (l.each w (omega (arith, h, get_or-set_other listed i w.robot (get_or listed i 0 + 1) 0 ne)))

      -- a visit that is listed has a place in front of the new one
      before_end : (u : Visit) → u.index < get_or listed u.robot 0 → (j : ℕ) × (j < length list) × (slice_get (list ++ front listed i ∷ []) j ≡ Some u)
      before_end u h =
          let p = place_of_element list u (l.each u h) in
          (p.0, p.1, slice_get-append_left list (front listed i ∷ []) p.0 u p.2)

      into_front : (u : Visit) → Before g order u (front listed i) → IsVisit g u → u.index < get_or listed u.robot 0
      into_front u (inl e) here =
          let r : i ≡ u.robot = ap (λ (w : Visit). w.robot) e in
          let k : get_or listed i 0 ≡ u.index + 1 = ap (λ (w : Visit). w.index) e in
          subst (λ (m : ℕ). u.index < get_or listed m 0) r (omega (arith, k))
      into_front u (inr e) here = free e.0 u e.1 here

      earlier : (k : ℕ) (u w : Visit) → Before g order u w → IsVisit g u → (slice_get list k ≡ Some w) ⊎ ((k ≡ length list) × (front listed i ≡ w)) → (j : ℕ) × (j < k) × (slice_get (list ++ front listed i ∷ []) j ≡ Some u)
      earlier k u w before here (inl e) =
          let p = l.earlier k u w e before here in
          (p.0, p.1, slice_get-append_left list (front listed i ∷ []) p.0 u p.2)
      earlier k u w before here (inr e) =
          let p = before_end u (into_front u (subst (λ (x : Visit). Before g order u x) (sym e.1) before) here) in
          (p.0, omega (arith, p.1, e.0), p.2)
