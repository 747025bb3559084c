-- Who is in which cell, and the first two robots in one, found from the last robot down.
use Rattle.std.proofs.Common.{ℕ, suc, ◌≡◌, ◌<◌, ◌≤◌, ◌⊎◌, List, [], ◌∷◌, Option, Some, None, true, refl, sym, ap, ◌∙◌, subst, inl, inr, arith, length}
use Rattle.std.specs.declared.cmp.Ordering.{Ordering}
use Rattle.std.specs.declared.cmp.Ordering.TheVariants.{Less, Equal, Greater}
use Rattle.std.specs.Ordering.{nat_cmp, ordering_then, is_eq}
use Rattle.std.specs.BTreeMap.{BTreeMap, Updates, IsEmpty, is_at}
use Rattle.std.specs.Map.{lookup}
use Rattle.std.proofs.lemmas.Bool.{cases_eq, false_from_ne_true}
use Rattle.std.proofs.lemmas.Map.Lookups.{exact_unsigned}
use Rattle.fleet_base.specs.declared.geometry.Cell.{Cell}
use Rattle.fleet_base.specs.Plan.{cell_at}
use Rattle.fleet_base.specs.Grid.{cell_order}
use Rattle.plan_check.specs.Faults.{IsAtMost}
use Rattle.plan_check.specs.Ticks.{IsFirstPair}
use Rattle.plan_check.specs.Occupants.{occupant, HasOccupants, SharesFrom}
use Rattle.plan_check.proofs.Firsts.{one_at_most}

-- cells in one row and one column are the same
same_parts : (a b : Cell) → a.row ≡ b.row → a.col ≡ b.col → a ≡ b
same_parts a b rows cols = λ i. record { row = rows i; col = cols i }

-- cells that are equal in the order are the same
same_order : (o : Ordering) → is_eq o ≡ true → o ≡ Equal
same_order Less h = cc
same_order Equal h = refl
same_order Greater h = cc

then_equal : (o p : Ordering) → ordering_then o p ≡ Equal → (o ≡ Equal) × (p ≡ Equal)
then_equal Less p h = cc
then_equal Equal p h = (refl, h)
then_equal Greater p h = cc

pub cells_equal : (a b : Cell) → is_eq (cell_order a b) ≡ true → a ≡ b
cells_equal a b h =
    let e = then_equal (nat_cmp a.row b.row) (nat_cmp a.col b.col) (same_order (cell_order a b) h) in
    let r : a.row ≡ b.row = exact_unsigned a.row b.row e.0 in
    let c : a.col ≡ b.col = exact_unsigned a.col b.col e.1 in
    same_parts a b r c

-- two cells are the same or not
pub cases_cell : (a b : Cell) → (a ≡ b) ⊎ (a ≡ b → ⊥)
cases_cell a b = go (cases_eq a.row b.row) (cases_eq a.col b.col)
  where
    go : (a.row ≡ b.row) ⊎ (a.row ≡ b.row → ⊥) → (a.col ≡ b.col) ⊎ (a.col ≡ b.col → ⊥) → (a ≡ b) ⊎ (a ≡ b → ⊥)
    go (inl r) (inl c) = inl (same_parts a b r c)
    go (inr n) c = inr (λ e. n (ap (λ (x : Cell). x.row) e))
    go (inl r) (inr n) = inr (λ e. n (ap (λ (x : Cell). x.col) e))

module _ (m n : BTreeMap Cell ℕ) (cell : Cell) (robot : ℕ) (put : Updates cell_order m n cell (Some robot)) where
  -- a cell has the robot that was put there, and each other keeps its own
  pub put_here : (q : Cell) → cell ≡ q → occupant n q ≡ Some robot
  put_here q e = subst (λ (w : Cell). occupant n w ≡ Some robot) e put.1

  pub put_apart : (q : Cell) → (cell ≡ q → ⊥) → occupant n q ≡ occupant m q
  put_apart q ne = put.2 q (false_from_ne_true (is_eq (cell_order cell q)) (λ h. ne (cells_equal cell q h)))

module _ (plan : List (List Cell)) (t : ℕ) where
  -- from the last robot on there is none
  pub no_occupants : (m : BTreeMap Cell ℕ) (from : ℕ) → IsEmpty m → length plan ≤ from → HasOccupants m plan t from
  no_occupants m from empty h = record {
    kept = λ c i e. let n : occupant m c ≡ None = ap (λ (es : List (Cell × ℕ)). lookup (is_at (cell_order c)) es) empty in cc;
    least = λ i low there. absurd (omega (arith, h, low, there));
  }

  pub no_shares : (from : ℕ) → length plan ≤ from → IsFirstPair (SharesFrom plan t from) None
  no_shares from h i j s = let a = s.low in let b = s.below in let k = s.there in omega arith

  -- one robot more, from above
  module _ (from r : ℕ) (next : from ≡ suc r) (there : r < length plan) (m n : BTreeMap Cell ℕ) (put : Updates cell_order m n (cell_at plan r t) (Some r)) (before : HasOccupants m plan t from) where
    pub more_occupants : HasOccupants n plan t r
    more_occupants = record { kept = λ c i e. keeps c i e (cases_cell (cell_at plan r t) c); least = λ i low h. lowest i low h (cases_eq i r) (cases_cell (cell_at plan r t) (cell_at plan i t)) }
      where
        keeps : (c : Cell) (i : ℕ) → occupant n c ≡ Some i → (cell_at plan r t ≡ c) ⊎ (cell_at plan r t ≡ c → ⊥) → (r ≤ i) × (i < length plan) × (cell_at plan i t ≡ c)
        keeps c i e (inl s) =
            let o = put_here m n (cell_at plan r t) r put c s in
            let same : r ≡ i = cc in
            (omega arith, omega arith, subst (λ (w : ℕ). cell_at plan w t ≡ c) same s)
        keeps c i e (inr ne) =
            let o = put_apart m n (cell_at plan r t) r put c ne in
            let k = before.kept c i (sym o ∙ e) in
            (let a = k.0 in omega arith, k.1, k.2)

        lowest : (i : ℕ) → r ≤ i → i < length plan → (i ≡ r) ⊎ (i ≡ r → ⊥) → (cell_at plan r t ≡ cell_at plan i t) ⊎ (cell_at plan r t ≡ cell_at plan i t → ⊥) → (least : ℕ) × (occupant n (cell_at plan i t) ≡ Some least) × (least ≤ i)
        lowest i low h o (inl s) = (r, put_here m n (cell_at plan r t) r put (cell_at plan i t) s, low)
        lowest i low h (inl e) (inr ne) = absurd (ne (ap (λ (w : ℕ). cell_at plan w t) (sym e)))
        lowest i low h (inr apart) (inr ne) =
            let above : from ≤ i = omega arith in
            let l = before.least i above h in
            (l.0, put_apart m n (cell_at plan r t) r put (cell_at plan i t) ne ∙ l.1, l.2)

    -- it shares its cell with none, where nobody was there
    pub shares_no_more : (s : Option (ℕ × ℕ)) → None ≡ occupant m (cell_at plan r t) → IsFirstPair (SharesFrom plan t from) s → IsFirstPair (SharesFrom plan t r) s
    shares_no_more None empty h = λ i j s. go i j s (cases_eq i r)
      where
        go : (i j : ℕ) → SharesFrom plan t r i j → (i ≡ r) ⊎ (i ≡ r → ⊥) → ⊥
        go i j s (inr ne) = h i j (record { low = (let a = s.low in omega arith); below = s.below; there = s.there; same = s.same })
        go i j s (inl e) =
            let l = before.least j (let a = s.below in omega arith) s.there in
            let k : occupant m (cell_at plan r t) ≡ Some l.0 = subst (λ (c : Cell). occupant m c ≡ Some l.0) (sym s.same ∙ ap (λ (w : ℕ). cell_at plan w t) e) l.1 in
            cc
    shares_no_more (Some p) empty h = (record { low = (let a = h.0.low in omega arith); below = h.0.below; there = h.0.there; same = h.0.same }, λ i j s. go i j s (cases_eq i r))
      where
        go : (i j : ℕ) → SharesFrom plan t r i j → (i ≡ r) ⊎ (i ≡ r → ⊥) → IsAtMost (p.0 ∷ p.1 ∷ []) (i ∷ j ∷ [])
        go i j s (inr ne) = h.1 i j (record { low = (let a = s.low in omega arith); below = s.below; there = s.there; same = s.same })
        go i j s (inl e) =
            let l = before.least j (let a = s.below in omega arith) s.there in
            let k : occupant m (cell_at plan r t) ≡ Some l.0 = subst (λ (c : Cell). occupant m c ≡ Some l.0) (sym s.same ∙ ap (λ (w : ℕ). cell_at plan w t) e) l.1 in
            absurd cc

    -- it shares its cell with the least of those who were there, and no two before it share one
    pub shares_more : (b : ℕ) → Some b ≡ occupant m (cell_at plan r t) → IsFirstPair (SharesFrom plan t r) (Some (r, b))
    shares_more b here = (record { low = omega arith; below = (let a = k.0 in omega arith); there = k.1; same = sym k.2 }, λ i j s. go i j s (cases_eq i r))
      where
        k : (from ≤ b) × (b < length plan) × (cell_at plan b t ≡ cell_at plan r t)
        k = before.kept (cell_at plan r t) b (sym here)

        go : (i j : ℕ) → SharesFrom plan t r i j → (i ≡ r) ⊎ (i ≡ r → ⊥) → IsAtMost (r ∷ b ∷ []) (i ∷ j ∷ [])
        go i j s (inr ne) = inl (let a = s.low in omega arith)
        go i j s (inl e) =
            let l = before.least j (let a = s.below in omega arith) s.there in
            let o : occupant m (cell_at plan r t) ≡ Some l.0 = subst (λ (c : Cell). occupant m c ≡ Some l.0) (sym s.same ∙ ap (λ (w : ℕ). cell_at plan w t) e) l.1 in
            let same : b ≡ l.0 = cc in
            let le = l.2 in
            inr (sym e, one_at_most b j (λ lt. omega (arith, lt, same, le)))
