-- The list that is made of a pair's mates, and what the lists tell of a graph.
use Rattle.std.proofs.Common.{ℕ, suc, ◌≡◌, ◌+◌, ◌-◌, ◌/◌, ◌%◌, ◌<◌, ◌≤◌, ◌⊎◌, List, [], ◌∷◌, ◌++◌, Some, None, Option, refl, sym, ap, ◌∙◌, subst, inl, inr, arith, length, take, drop, map, append_assoc, length-drop}
use Rattle.std.specs.Prelude.{Contains}
use Rattle.std.specs.Option.{option_to_list}
use Rattle.std.proofs.Math.Seq.{drop-append_seam, get_or-append_seam}
use Rattle.std.proofs.lemmas.Bool.{cases_lt}
use Rattle.std.proofs.lemmas.Option.{slice_get_within}
use Rattle.std.proofs.lemmas.List.{get_or_past, get_or_append_left, drop-append-le, take-append-le}
use Rattle.std.proofs.lemmas.List.Elements.{Contains-append_left, Contains-append_right, Contains-append_cases}
use Rattle.fleet_base.specs.declared.order.PairId.{PairId}
use Rattle.fleet_base.specs.Lists.{Chain, row_of}
use Rattle.fleet_base.specs.Order.{Graph}
use Rattle.fleet_base.specs.Groups.{AreMates, AreGrouped, IsGroupOf}
use Rattle.fleet_base.proofs.Members.{head_in, in_one, in_none}
use Rattle.fleet_base.proofs.Mates.{mates_turned}
use Rattle.fleet_base.proofs.PairNumbers.{number}
use Rattle.plan_graph.specs.Limits.{IsPlanGraph}
use Rattle.edge_groups.specs.declared.cursor.Cursor.{Cursor}
use Rattle.edge_groups.specs.declared.listing.Finder.{Finder}
use Rattle.edge_groups.specs.Finding.{IsCursorFor, IsReady}
use Rattle.edge_groups.specs.Kept.{mates_at, AreWithin}
use Rattle.edge_groups.specs.Mates.{AreMatesOf, AreAllMates}
use Rattle.edge_groups.specs.Names.{IsBeside, AreJoined, AreMutual, IsNameOf}
use Rattle.edge_groups.specs.Ranks.{rank_in, IsBehind, IsReached}
use Rattle.edge_groups.proofs.Ascending.{Ascends, ascends_append, ascends_at}
use Rattle.edge_groups.proofs.RankLaws.{AreApart, ranks_ascend, ranked_below, mates_apart, apart_mates}

abbrev number_of : PairId → ℕ
number_of q = q.0

-- four lists behind another one
pub behind : (ms xs ys zs ws : List PairId) → drop (length ms) (ms ++ xs ++ ys ++ zs ++ ws) ≡ xs ++ (ys ++ (zs ++ ws))
behind ms xs ys zs ws =
    let e : ms ++ xs ++ ys ++ zs ++ ws ≡ ms ++ (xs ++ (ys ++ (zs ++ ws))) =
    append_assoc (ms ++ xs ++ ys) zs ws ∙ append_assoc (ms ++ xs) ys (zs ++ ws) ∙ append_assoc ms xs (ys ++ (zs ++ ws)) in
    ap (drop (length ms)) e ∙ drop-append_seam ms (xs ++ (ys ++ (zs ++ ws)))

pub part_kept : (mates more : List PairId) (place : ℕ) → place / 8 + place % 8 ≤ length mates → mates_at (mates ++ more) place ≡ mates_at mates place
part_kept mates more place h =
    let start : place / 8 ≤ length mates = omega (arith, h) in
    let count : place / 8 + place % 8 - place / 8 ≤ length (drop (place / 8) mates) = omega (arith, h, length-drop (place / 8) mates) in
    ap (take (place / 8 + place % 8 - place / 8)) (drop-append-le (place / 8) mates more start) ∙ take-append-le (place / 8 + place % 8 - place / 8) (drop (place / 8) mates) more count

-- what is appended leaves the lists that are there
rows_kept : (places : List ℕ) (mates more : List PairId) → AreWithin places (length mates) → map (mates_at (mates ++ more)) places ≡ map (mates_at mates) places
rows_kept [] mates more h = refl
rows_kept (p ∷ ps) mates more h =
    ap (λ (row : List PairId). row ∷ map (mates_at (mates ++ more)) ps) (part_kept mates more p (h 0 (omega arith)))
    ∙ ap (λ (rows : List (List PairId)). mates_at mates p ∷ rows) (rows_kept ps mates more (λ k lt. h (suc k) (omega (arith, lt))))

-- four lists that are appended are one row more
pub closed_row : (old new : List PairId) (places places_new : List ℕ) (rows : List (List PairId)) (xs ys zs ws : List PairId) (start : ℕ) → new ≡ old ++ xs ++ ys ++ zs ++ ws → places_new ≡ places → start ≡ length old
    → AreWithin places (length old) → rows ≡ map (mates_at new) places_new ++ drop start new ∷ [] → rows ≡ map (mates_at old) places ++ (xs ++ (ys ++ (zs ++ ws))) ∷ []
closed_row old new places places_new rows xs ys zs ws start e same from within h =
    let whole : old ++ xs ++ ys ++ zs ++ ws ≡ old ++ (xs ++ (ys ++ (zs ++ ws))) =
    append_assoc (old ++ xs ++ ys) zs ws ∙ append_assoc (old ++ xs) ys (zs ++ ws) ∙ append_assoc old xs (ys ++ (zs ++ ws)) in
    let kept : map (mates_at new) places_new ≡ map (mates_at old) places =
    ap (λ (ps : List ℕ). map (mates_at new) ps) same ∙ ap (λ (ms : List PairId). map (mates_at ms) places) (e ∙ whole) ∙ rows_kept places old (xs ++ (ys ++ (zs ++ ws))) within in
    let row : drop start new ≡ xs ++ (ys ++ (zs ++ ws)) = ap (λ (n : ℕ). drop n new) from ∙ ap (drop (length old)) e ∙ behind old xs ys zs ws in
    h ∙ ap (λ (rs : List (List PairId)). rs ++ drop start new ∷ []) kept ∙ ap (λ (r : List PairId). map (mates_at old) places ++ r ∷ []) row

one_ascends : (o : Option PairId) → Ascends number_of (option_to_list o)
one_ascends None = tt
one_ascends (Some q) = (λ r h. absurd (in_none r h), tt)

module _ (g : Graph) (plan : IsPlanGraph g) where
  -- a cursor stays behind for the next pair
  pub still_behind : (at raise lead q r : ℕ) → q < r → r < length g.pairs → IsBehind g at raise (rank_in g q + lead) → IsBehind g at raise (rank_in g r + lead)
  still_behind at raise lead q r lt there b = record { within = b.within; less = λ k h. omega (arith, b.less k h, ranks_ascend g plan q r lt there) }

  -- a cursor behind the mates of one pair is behind those of the next
  pub ready_next : (f : Finder) (q : ℕ) → q + 1 < length g.pairs → IsReady g f q → IsReady g f (q + 1)
  ready_next f q there r = record { before_before = next 131073 0 f.before_before r.before_before; before_behind = next 131071 0 f.before_behind r.before_behind; behind_before = next 0 131071 f.behind_before r.behind_before; behind_behind = next 0 131073 f.behind_behind r.behind_behind }
    where
      next : (raise lead : ℕ) (c : Cursor) → IsCursorFor g c raise lead q → IsCursorFor g c raise lead (q + 1)
      next raise lead c h = (h.0, h.1, still_behind c.at raise lead q (q + 1) (omega arith) there h.2)

  -- so is one that has found what is so far from a pair
  pub cursor_next : (c new : Cursor) (raise lead q rank : ℕ) → q + 1 < length g.pairs → IsCursorFor g c raise lead q → rank ≡ rank_in g q → new.raise ≡ c.raise → new.lead ≡ c.lead → IsBehind g new.at c.raise (rank + c.lead) → IsCursorFor g new raise lead (q + 1)
  cursor_next c new raise lead q rank there h e er el b =
      let wanted : rank + c.lead ≡ rank_in g q + lead = omega (arith, e, h.1) in
      let here : IsBehind g new.at raise (rank_in g q + lead) = subst (λ (n : ℕ). IsBehind g new.at raise n) wanted (subst (λ (n : ℕ). IsBehind g new.at n (rank + c.lead)) h.0 b) in
      (er ∙ h.0, el ∙ h.1, still_behind new.at raise lead q (q + 1) (omega arith) there here)

  -- what such a cursor finds
  pub reached_for : (c : Cursor) (raise lead q rank : ℕ) (o : Option PairId) → IsCursorFor g c raise lead q → rank ≡ rank_in g q → IsReached g c.raise (rank + c.lead) o → IsReached g raise (rank_in g q + lead) o
  reached_for c raise lead q rank o h e r =
      let wanted : rank + c.lead ≡ rank_in g q + lead = omega (arith, e, h.1) in
      subst (λ (n : ℕ). IsReached g raise n o) wanted (subst (λ (n : ℕ). IsReached g n (rank + c.lead) o) h.0 r)

  reached_in : (raise wanted : ℕ) (o : Option PairId) → IsReached g raise wanted o → (r : PairId) → Contains (option_to_list o) r → (r.0 < length g.pairs) × (rank_in g r.0 + raise ≡ wanted)
  reached_in raise wanted None h r c = absurd (in_none r c)
  reached_in raise wanted (Some q) h r c = subst (λ (p : PairId). (p.0 < length g.pairs) × (rank_in g p.0 + raise ≡ wanted)) (in_one q r c) h

  reached_each : (raise wanted : ℕ) (o : Option PairId) → IsReached g raise wanted o → (r : PairId) → r.0 < length g.pairs → rank_in g r.0 + raise ≡ wanted → Contains (option_to_list o) r
  reached_each raise wanted None h r there e = absurd (h r.0 there e)
  reached_each raise wanted (Some q) h r there e = go (cases_lt q.0 r.0) (cases_lt r.0 q.0)
    where
      go : (q.0 < r.0) ⊎ (r.0 ≤ q.0) → (r.0 < q.0) ⊎ (q.0 ≤ r.0) → Contains (q ∷ []) r
      go (inl lt) b = absurd (omega (arith, ranks_ascend g plan q.0 r.0 lt there, e, h.1))
      go (inr le) (inl lt) = absurd (omega (arith, ranks_ascend g plan r.0 q.0 lt h.0, e, h.1))
      go (inr le) (inr ge) =
          let same : q.0 ≡ r.0 = omega (arith, le, ge) in
          let whole : q ≡ r = λ i. record { 0 = same i } in
          subst (λ (p : PairId). Contains (q ∷ []) p) whole (head_in q [])

  module _ (q : ℕ) (there : q < length g.pairs) (a b c d : Option PairId)
      (ra : IsReached g 131073 (rank_in g q + 0) a) (rb : IsReached g 131071 (rank_in g q + 0) b) (rc : IsReached g 0 (rank_in g q + 131071) c) (rd : IsReached g 0 (rank_in g q + 131073) d) where
    from_a : (r : PairId) → Contains (option_to_list a) r → (r.0 < length g.pairs) × (rank_in g r.0 + 131073 ≡ rank_in g q + 0)
    from_a = reached_in 131073 (rank_in g q + 0) a ra

    from_b : (r : PairId) → Contains (option_to_list b) r → (r.0 < length g.pairs) × (rank_in g r.0 + 131071 ≡ rank_in g q + 0)
    from_b = reached_in 131071 (rank_in g q + 0) b rb

    from_c : (r : PairId) → Contains (option_to_list c) r → (r.0 < length g.pairs) × (rank_in g r.0 + 0 ≡ rank_in g q + 131071)
    from_c = reached_in 0 (rank_in g q + 131071) c rc

    from_d : (r : PairId) → Contains (option_to_list d) r → (r.0 < length g.pairs) × (rank_in g r.0 + 0 ≡ rank_in g q + 131073)
    from_d = reached_in 0 (rank_in g q + 131073) d rd

    abbrev row : List PairId
    row = option_to_list a ++ (option_to_list b ++ (option_to_list c ++ option_to_list d))

    only : (r : PairId) → Contains row r → AreMates g q r.0
    only r h = first (Contains-append_cases (option_to_list a) (option_to_list b ++ (option_to_list c ++ option_to_list d)) r h)
      where
        third : Contains (option_to_list c) r ⊎ Contains (option_to_list d) r → AreMates g q r.0
        third (inl k) = apart_mates g plan q r.0 there (from_c r k).0 (inr (inr (inl (omega (arith, (from_c r k).1)))))
        third (inr k) = apart_mates g plan q r.0 there (from_d r k).0 (inr (inr (inr (omega (arith, (from_d r k).1)))))

        second : Contains (option_to_list b) r ⊎ Contains (option_to_list c ++ option_to_list d) r → AreMates g q r.0
        second (inl k) = apart_mates g plan q r.0 there (from_b r k).0 (inr (inl (omega (arith, (from_b r k).1))))
        second (inr k) = third (Contains-append_cases (option_to_list c) (option_to_list d) r k)

        first : Contains (option_to_list a) r ⊎ Contains (option_to_list b ++ (option_to_list c ++ option_to_list d)) r → AreMates g q r.0
        first (inl k) = apart_mates g plan q r.0 there (from_a r k).0 (inl (omega (arith, (from_a r k).1)))
        first (inr k) = second (Contains-append_cases (option_to_list b) (option_to_list c ++ option_to_list d) r k)

    each_mate : (r : PairId) → AreMates g q r.0 → Contains row r
    each_mate r m = go (mates_apart g plan q r.0 m)
      where
        here : r.0 < length g.pairs
        here = slice_get_within g.pairs r.0 m.two m.two_listed

        go : AreApart g plan q r.0 → Contains row r
        go (inl e) = Contains-append_left (option_to_list a) _ r (reached_each 131073 (rank_in g q + 0) a ra r here (omega (arith, e)))
        go (inr (inl e)) =
            Contains-append_right (option_to_list a) _ r (Contains-append_left (option_to_list b) _ r (reached_each 131071 (rank_in g q + 0) b rb r here (omega (arith, e))))
        go (inr (inr (inl e))) =
            Contains-append_right (option_to_list a) _ r (Contains-append_right (option_to_list b) _ r (Contains-append_left (option_to_list c) _ r (reached_each 0 (rank_in g q + 131071) c rc r here (omega (arith, e)))))
        go (inr (inr (inr e))) =
            Contains-append_right (option_to_list a) _ r (Contains-append_right (option_to_list b) _ r (Contains-append_right (option_to_list c) _ r (reached_each 0 (rank_in g q + 131073) d rd r here (omega (arith, e)))))

    below : (x y : PairId) → x.0 < length g.pairs → rank_in g x.0 < rank_in g y.0 → x.0 < y.0
    below x y h lt = ranked_below g plan x.0 y.0 h lt

    b_below : (x y : PairId) → Contains (option_to_list b) x → Contains (option_to_list c) y ⊎ Contains (option_to_list d) y → x.0 < y.0
    b_below x y h (inl l) = below x y (from_b x h).0 (omega (arith, (from_b x h).1, (from_c y l).1))
    b_below x y h (inr l) = below x y (from_b x h).0 (omega (arith, (from_b x h).1, (from_d y l).1))

    a_below : (x y : PairId) → Contains (option_to_list a) x → Contains (option_to_list b) y ⊎ Contains (option_to_list c ++ option_to_list d) y → x.0 < y.0
    a_below x y h (inl l) = below x y (from_a x h).0 (omega (arith, (from_a x h).1, (from_b y l).1))
    a_below x y h (inr l) = go (Contains-append_cases (option_to_list c) (option_to_list d) y l)
      where
        go : Contains (option_to_list c) y ⊎ Contains (option_to_list d) y → x.0 < y.0
        go (inl n) = below x y (from_a x h).0 (omega (arith, (from_a x h).1, (from_c y n).1))
        go (inr n) = below x y (from_a x h).0 (omega (arith, (from_a x h).1, (from_d y n).1))

    rising : Ascends number_of row
    rising =
        ascends_append number_of (option_to_list a) (option_to_list b ++ (option_to_list c ++ option_to_list d)) (one_ascends a)
        (ascends_append number_of (option_to_list b) (option_to_list c ++ option_to_list d) (one_ascends b)
        (ascends_append number_of (option_to_list c) (option_to_list d) (one_ascends c) (one_ascends d)
        (λ x y h k. below x y (from_c x h).0 (omega (arith, (from_c x h).1, (from_d y k).1))))
        (λ x y h k. b_below x y h (Contains-append_cases (option_to_list c) (option_to_list d) y k)))
        (λ x y h k. a_below x y h (Contains-append_cases (option_to_list b) (option_to_list c ++ option_to_list d) y k))

    -- what the four cursors find are the pair's mates
    pub found_mates : AreMatesOf g q (option_to_list a ++ (option_to_list b ++ (option_to_list c ++ option_to_list d)))
    found_mates = record { mates = only; each = each_mate; ascending = λ j k x y ex ey lt. ascends_at number_of row rising j k x y ex ey lt }

-- the lists tell which pairs are mates
module _ (g : Graph) (rows : List (List PairId)) (all : AreAllMates g rows) where
  beside_mates : (q r : ℕ) → IsBeside rows q r → AreMates g q r
  beside_mates q r h = go (cases_lt q (length rows))
    where
      go : (q < length rows) ⊎ (length rows ≤ q) → AreMates g q r
      go (inl there) = (all.lists q (omega (arith, there, all.count))).mates (number r) h
      go (inr past) = absurd (in_none (number r) (subst (λ (row : List PairId). Contains row (number r)) (get_or_past rows q [] past) h))

  mates_beside : (q r : ℕ) → AreMates g q r → IsBeside rows q r
  mates_beside q r m = (all.lists q (slice_get_within g.pairs q m.one m.one_listed)).each (number r) m

  pub lists_are_mutual : AreMutual rows
  lists_are_mutual = record {
    there = λ q r h. let m = beside_mates q r h in omega (arith, all.count, slice_get_within g.pairs r m.two m.two_listed);
    back = λ q r h. mates_beside r q (mates_turned g q r (beside_mates q r h));
  }

  to_mates : (between : List ℕ) (q r : ℕ) → Chain (IsBeside rows) q between r → Chain (AreMates g) q between r
  to_mates [] q r c = beside_mates q r c
  to_mates (y ∷ ys) q r c = (beside_mates q y c.0, to_mates ys y r c.1)

  from_mates : (between : List ℕ) (q r : ℕ) → Chain (AreMates g) q between r → Chain (IsBeside rows) q between r
  from_mates [] q r c = mates_beside q r c
  from_mates (y ∷ ys) q r c = (mates_beside q y c.0, from_mates ys y r c.1)

  grouped : (q r : ℕ) → AreJoined rows q r → AreGrouped g q r
  grouped q r (inl e) = inl e
  grouped q r (inr (between, c)) = inr (between, to_mates between q r c)

  joined : (q r : ℕ) → AreGrouped g q r → AreJoined rows q r
  joined q r (inl e) = inl e
  joined q r (inr (between, c)) = inr (between, from_mates between q r c)

  -- the least number that a pair is joined with names its group
  pub names_group : (q name : ℕ) → IsNameOf rows q name → IsGroupOf g q name
  names_group q name n = record { grouped = grouped q name n.joined; least = λ r h. n.least r (joined q r h) }

-- one row more
pub rows_more : (g : Graph) (rows : List (List PairId)) (row : List PairId) (n : ℕ) → length rows ≡ n → ((k : ℕ) → k < n → AreMatesOf g k (row_of rows k)) → AreMatesOf g n row
    → (k : ℕ) → k < n + 1 → AreMatesOf g k (row_of (rows ++ row ∷ []) k)
rows_more g rows row n e old new k lt = go (cases_lt k n)
  where
    go : (k < n) ⊎ (n ≤ k) → AreMatesOf g k (row_of (rows ++ row ∷ []) k)
    go (inl less) = subst (λ (r : List PairId). AreMatesOf g k r) (sym (get_or_append_left rows (row ∷ []) [] k (omega (arith, less, e)))) (old k less)
    go (inr more) =
        let same : n ≡ k = omega (arith, lt, more) in
        let at_end : row_of (rows ++ row ∷ []) n ≡ row = ap (λ (j : ℕ). row_of (rows ++ row ∷ []) j) (sym e) ∙ get_or-append_seam rows row [] [] in
        subst (λ (j : ℕ). AreMatesOf g j (row_of (rows ++ row ∷ []) j)) same (subst (λ (r : List PairId). AreMatesOf g n r) (sym at_end) new)
