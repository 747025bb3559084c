-- The order of cells, and the visits at one cell in a list that is sorted by them.
use Rattle.std.proofs.Common.{ℕ, ◌≡◌, ◌-◌, ◌≤◌, List, Bool, true, false, not, refl, sym, ap, ◌∙◌, arith, length, get_or, take, drop, length-drop, take_all}
use Rattle.std.specs.Prelude.{filter, ◌&&◌, ◌==◌}
use Rattle.std.specs.declared.cmp.Ordering.{Ordering}
use Rattle.std.specs.declared.cmp.Ordering.TheVariants.{Less, Equal, Greater}
use Rattle.std.specs.Ordering.{is_lt, is_le, is_eq, nat_cmp, ordering_then, ordering_reverse, ordering_index}
use Rattle.std.specs.Cmp.{IsTotalOrder, then_total, on_total, nat_cmp_total}
use Rattle.std.specs.List.Sorted.{IsSortedByKey, IsNonDecreasingBy, IsPartitionedBy, IsPartitionPoint}
use Rattle.std.proofs.lemmas.List.Sorted.{searchable_from_sorted}
use Rattle.fleet_base.specs.declared.geometry.Cell.{Cell}
use Rattle.fleet_base.specs.Grid.{same_cell, cell_order}
use Rattle.switch_pairs.specs.declared.stops.Stop.{Stop}
use Rattle.switch_pairs.specs.Stops.{is_at}
use Rattle.switch_pairs.proofs.Lists.{filter_alike, filter_both}
use Rattle.switch_pairs.proofs.Points.{before_point, after_point}

pub cell_total : IsTotalOrder cell_order
cell_total = then_total (on_total (λ (c : Cell). c.row) nat_cmp_total) (on_total (λ (c : Cell). c.col) nat_cmp_total)

-- numbers are equal where their order says so
eq_number : (x y : ℕ) → is_eq (nat_cmp x y) ≡ (x == y)
eq_number x y = grind arith

eq_then : (r s : Ordering) → is_eq (ordering_then r s) ≡ (is_eq r && is_eq s)
eq_then Less s = refl
eq_then Equal s = refl
eq_then Greater s = refl

-- and so are cells
eq_cell : (a b : Cell) → is_eq (cell_order a b) ≡ same_cell a b
eq_cell a b = eq_then (nat_cmp a.row b.row) (nat_cmp a.col b.col) ∙ ap (λ (t : Bool). t && is_eq (nat_cmp a.col b.col)) (eq_number a.row b.row) ∙ ap (λ (t : Bool). (a.row == b.row) && t) (eq_number a.col b.col)

eq_back : (r : Ordering) → is_eq (ordering_reverse r) ≡ is_eq r
eq_back Less = refl
eq_back Equal = refl
eq_back Greater = refl

-- neither before nor after
level : (r : Ordering) → (not (is_lt r) && is_le r) ≡ is_eq r
level Less = refl
level Equal = refl
level Greater = refl

neither : (r : Ordering) → (not (is_lt r) && not (is_lt (ordering_reverse r))) ≡ is_eq r
neither Less = refl
neither Equal = refl
neither Greater = refl

-- a cell not before another and not after it is the same
pub level_cells : (c d : Cell) → (not (is_lt (cell_order d c)) && is_le (cell_order d c)) ≡ same_cell c d
level_cells c d = level (cell_order d c) ∙ ap is_eq (cell_total.antisymm d c) ∙ eq_back (cell_order c d) ∙ eq_cell c d

pub tied_cells : (c d : Cell) → (not (is_lt (cell_order c d)) && not (is_lt (cell_order d c))) ≡ same_cell c d
tied_cells c d = ap (λ (r : Ordering). not (is_lt (cell_order c d)) && not (is_lt r)) (cell_total.antisymm d c) ∙ neither (cell_order c d) ∙ eq_cell c d

-- numbers of which neither is below the other are equal
pub tied_numbers : (a b : ℕ) → (not (is_lt (nat_cmp a b)) && not (is_lt (nat_cmp b a))) ≡ (b == a)
tied_numbers a b =
    ap (λ (r : Ordering). not (is_lt (nat_cmp a b)) && not (is_lt r)) (nat_cmp_total.antisymm b a) ∙ neither (nat_cmp a b)
    ∙ sym (ap is_eq (nat_cmp_total.antisymm b a) ∙ eq_back (nat_cmp a b)) ∙ eq_number b a

lt_low : (r : Ordering) → is_lt r ≡ true → ordering_index r ≤ 0
lt_low Less e = omega arith
lt_low Equal e = cc
lt_low Greater e = cc

low_lt : (r : Ordering) → ordering_index r ≤ 0 → is_lt r ≡ true
low_lt Less e = refl
low_lt Equal e = absurd (omega (arith, e))
low_lt Greater e = absurd (omega (arith, e))

le_low : (r : Ordering) → is_le r ≡ true → ordering_index r ≤ 1
le_low Less e = omega arith
le_low Equal e = omega arith
le_low Greater e = cc

low_le : (r : Ordering) → ordering_index r ≤ 1 → is_le r ≡ true
low_le Less e = refl
low_le Equal e = refl
low_le Greater e = absurd (omega (arith, e))

-- where the answers rise, what is below stands before the rest
pub parted_lt : {X : Type 0} (f : X → Ordering) (xs : List X) → IsNonDecreasingBy (λ y. ordering_index (f y)) xs → IsPartitionedBy (λ y. is_lt (f y)) xs
parted_lt f xs up = λ i j d le lt h. low_lt (f (get_or xs i d)) (omega (arith, up i j d le lt, lt_low (f (get_or xs j d)) h))

pub parted_le : {X : Type 0} (f : X → Ordering) (xs : List X) → IsNonDecreasingBy (λ y. ordering_index (f y)) xs → IsPartitionedBy (λ y. is_le (f y)) xs
parted_le f xs up = λ i j d le lt h. low_le (f (get_or xs i d)) (omega (arith, up i j d le lt, le_low (f (get_or xs j d)) h))

-- in a list sorted by cells, the visits before a cell stand before the rest
pub rising : (c : Cell) (stops : List Stop) → IsSortedByKey (λ s. s.cell) cell_order stops → IsNonDecreasingBy (λ s. ordering_index (cell_order s.cell c)) stops
rising c stops s = searchable_from_sorted cell_total (λ (t : Stop). t.cell) stops c s

-- the visits from the first one at a cell on, and of those the ones that are not after it
pub run_is : (c : Cell) (stops rest : List Stop) (a b : ℕ) → rest ≡ drop a stops
    → IsPartitionPoint (λ s. is_lt (cell_order s.cell c) ≡ true) (λ s. is_lt (cell_order s.cell c) ≡ false) stops a
    → IsPartitionPoint (λ s. is_le (cell_order s.cell c) ≡ true) (λ s. is_le (cell_order s.cell c) ≡ false) rest b
    → take b rest ≡ filter (is_at c) stops
run_is c stops rest a b e p q =
    before_point (λ s. is_le (cell_order s.cell c)) rest b q.0 q.1
    ∙ ap (filter (λ s. is_le (cell_order s.cell c))) (e ∙ after_point (λ s. is_lt (cell_order s.cell c)) stops a p.0 p.1)
    ∙ filter_both (λ s. not (is_lt (cell_order s.cell c))) (λ s. is_le (cell_order s.cell c)) stops
    ∙ filter_alike (λ s. not (is_lt (cell_order s.cell c)) && is_le (cell_order s.cell c)) (is_at c) stops (λ s. level_cells c s.cell)

-- the rest of a list from a place on
pub rest_is : {X : Type 0} (xs : List X) (a : ℕ) → take (length xs - a) (drop a xs) ≡ drop a xs
rest_is xs a = let e : length (drop a xs) ≤ length xs - a = omega (arith, length-drop a xs) in take_all (length xs - a) (drop a xs) e
