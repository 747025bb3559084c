-- The steps from place to place, one by one.
use Rattle.std.proofs.Common.{ℕ, ◌+◌, ◌-◌, ◌*◌, ◌<◌, ◌≤◌, ◌≡◌, Option, Some, None, Bool, true, false, ◌&&◌, cond, eqb, ltb, leb, option_map, sym, ◌∙◌, ap, subst, refl, arith}
use Rattle.std.proofs.lemmas.Bool.{eqb-true, ltb-true, leb-true, lt-ltb, le-leb, ne_eqb, and_parts, and_from, cond-true, cond-false}
use Rattle.std.proofs.lemmas.Option.{cond_some}
use Rattle.fleet_base.specs.declared.geometry.Cell.{Cell}
use Rattle.plan_text.specs.declared.place.Place.{Place}
use Rattle.plan_text.specs.declared.place.Place.TheVariants.{Start, Open, Row, Comma, Col, Closed, Dash, Arrow}
use Rattle.plan_text.specs.Places.{digit_of, extended_by, next_place}

-- a cell of two numbers
abbrev pub cell_at : ℕ → ℕ → Cell
cell_at r c = record { row = r; col = c }

-- which byte leads where
pub data Step : Place → ℕ → Place → Type 0 where
  first_opens : Step Start 40 Open
  next_opens : Step Arrow 40 Open
  row_begins : (d : ℕ) → d < 10 → Step Open (48 + d) (Row d)
  row_goes_on : (r d : ℕ) → 0 < r → r < 1000 → d < 10 → Step (Row r) (48 + d) (Row (10 * r + d))
  row_ends : (r : ℕ) → Step (Row r) 44 (Comma r)
  col_begins : (r d : ℕ) → d < 10 → Step (Comma r) (48 + d) (Col (cell_at r d))
  col_goes_on : (r c d : ℕ) → 0 < c → c < 1000 → d < 10 → Step (Col (cell_at r c)) (48 + d) (Col (cell_at r (10 * c + d)))
  col_ends : (c : Cell) → Step (Col c) 41 (Closed c)
  dash_comes : (c : Cell) → Step (Closed c) 45 Dash
  arrow_ends : Step Dash 62 Arrow

-- what an option that is there came from
option_map_some : {A B : Type 0} (f : A → B) (o : Option A) (y : B) → option_map f o ≡ Some y → (x : A) × (o ≡ Some x) × (f x ≡ y)
option_map_some f None y e = absurd cc
option_map_some f (Some x) y e = (x, refl, cc)

-- a digit is a byte from 48 on
pub digit_parts : (b d : ℕ) → digit_of b ≡ Some d → (b ≡ 48 + d) × (d < 10)
digit_parts b d e =
    let parts = cond_some (leb 48 b && leb b 57) (b - 48) d e in
    let tests = and_parts (leb 48 b) (leb b 57) parts.0 in
    let low : 48 ≤ b = leb-true 48 b tests.0 in
    let high : b ≤ 57 = leb-true b 57 tests.1 in
    let value : b - 48 ≡ d = parts.1 in
    (omega arith, omega arith)

-- one more digit
pub extended_parts : (n b m : ℕ) → extended_by n b ≡ Some m → (d : ℕ) × (0 < n) × (n < 1000) × (d < 10) × (b ≡ 48 + d) × (m ≡ 10 * n + d)
extended_parts n b m e = go (ltb 0 n && ltb n 1000) refl e where
  go : (t : Bool) → ltb 0 n && ltb n 1000 ≡ t → cond t (option_map (λ d. 10 * n + d) (digit_of b)) None ≡ Some m → (d : ℕ) × (0 < n) × (n < 1000) × (d < 10) × (b ≡ 48 + d) × (m ≡ 10 * n + d)
  go false t h = absurd cc
  go true t h =
      let tests = and_parts (ltb 0 n) (ltb n 1000) t in
      let found = option_map_some (λ d. 10 * n + d) (digit_of b) m h in
      let digit = digit_parts b found.0 found.1 in
      (found.0, ltb-true 0 n tests.0, ltb-true n 1000 tests.1, digit.1, digit.0, sym found.2)

-- the table has these steps alone
pub step_of : (p : Place) (b : ℕ) (q : Place) → next_place p b ≡ Some q → Step p b q
step_of Start b q e =
    let parts = cond_some (eqb b 40) Open q e in
    let is : 40 ≡ b = sym (eqb-true b 40 parts.0) in
    subst (λ x. Step Start x q) is (subst (λ x. Step Start 40 x) parts.1 first_opens)
step_of Arrow b q e =
    let parts = cond_some (eqb b 40) Open q e in
    let is : 40 ≡ b = sym (eqb-true b 40 parts.0) in
    subst (λ x. Step Arrow x q) is (subst (λ x. Step Arrow 40 x) parts.1 next_opens)
step_of Open b q e =
    let found = option_map_some Row (digit_of b) q e in
    let digit = digit_parts b found.0 found.1 in
    subst (λ x. Step Open x q) (sym digit.0) (subst (λ x. Step Open (48 + found.0) x) found.2 (row_begins found.0 digit.1))
step_of (Row r) b q e = go (eqb b 44) refl e where
  go : (t : Bool) → eqb b 44 ≡ t → cond t (Some (Comma r)) (option_map Row (extended_by r b)) ≡ Some q → Step (Row r) b q
  go true t h =
      let is : 44 ≡ b = sym (eqb-true b 44 t) in
      let to : Comma r ≡ q = cc in
      subst (λ x. Step (Row r) x q) is (subst (λ x. Step (Row r) 44 x) to (row_ends r))
  go false t h =
      let found = option_map_some Row (extended_by r b) q h in
      let parts = extended_parts r b found.0 found.1 in
      let to : Row (10 * r + parts.0) ≡ q = ap Row (sym parts.5) ∙ found.2 in
      subst (λ x. Step (Row r) x q) (sym parts.4) (subst (λ x. Step (Row r) (48 + parts.0) x) to (row_goes_on r parts.0 parts.1 parts.2 parts.3))
step_of (Comma r) b q e =
    let found = option_map_some (λ n. Col (cell_at r n)) (digit_of b) q e in
    let digit = digit_parts b found.0 found.1 in
    subst (λ x. Step (Comma r) x q) (sym digit.0) (subst (λ x. Step (Comma r) (48 + found.0) x) found.2 (col_begins r found.0 digit.1))
step_of (Col c) b q e = go (eqb b 41) refl e where
  go : (t : Bool) → eqb b 41 ≡ t → cond t (Some (Closed c)) (option_map (λ n. Col (cell_at c.row n)) (extended_by c.col b)) ≡ Some q → Step (Col c) b q
  go true t h =
      let is : 41 ≡ b = sym (eqb-true b 41 t) in
      let to : Closed c ≡ q = cc in
      subst (λ x. Step (Col c) x q) is (subst (λ x. Step (Col c) 41 x) to (col_ends c))
  go false t h =
      let found = option_map_some (λ n. Col (cell_at c.row n)) (extended_by c.col b) q h in
      let parts = extended_parts c.col b found.0 found.1 in
      let to : Col (cell_at c.row (10 * c.col + parts.0)) ≡ q = ap (λ n. Col (cell_at c.row n)) (sym parts.5) ∙ found.2 in
      subst (λ x. Step (Col c) x q) (sym parts.4) (subst (λ x. Step (Col c) (48 + parts.0) x) to (col_goes_on c.row c.col parts.0 parts.1 parts.2 parts.3))
step_of (Closed c) b q e =
    let parts = cond_some (eqb b 45) Dash q e in
    let is : 45 ≡ b = sym (eqb-true b 45 parts.0) in
    subst (λ x. Step (Closed c) x q) is (subst (λ x. Step (Closed c) 45 x) parts.1 (dash_comes c))
step_of Dash b q e =
    let parts = cond_some (eqb b 62) Arrow q e in
    let is : 62 ≡ b = sym (eqb-true b 62 parts.0) in
    subst (λ x. Step Dash x q) is (subst (λ x. Step Dash 62 x) parts.1 arrow_ends)

-- a digit is read as its value
digit_is : (d : ℕ) → d < 10 → digit_of (48 + d) ≡ Some d
digit_is d small =
    let low : leb 48 (48 + d) ≡ true = le-leb 48 (48 + d) (omega arith) in
    let high : leb (48 + d) 57 ≡ true = le-leb (48 + d) 57 (omega arith) in
    let value : (48 + d) - 48 ≡ d = omega arith in
    cond-true (leb 48 (48 + d) && leb (48 + d) 57) (Some ((48 + d) - 48)) None (and_from (leb 48 (48 + d)) (leb (48 + d) 57) low high) ∙ ap Some value

-- a number takes one more digit
extended_is : (n d : ℕ) → 0 < n → n < 1000 → d < 10 → extended_by n (48 + d) ≡ Some (10 * n + d)
extended_is n d some few small =
    cond-true (ltb 0 n && ltb n 1000) (option_map (λ x. 10 * n + x) (digit_of (48 + d))) None (and_from (ltb 0 n) (ltb n 1000) (lt-ltb 0 n some) (lt-ltb n 1000 few)) ∙ ap (λ o. option_map (λ x. 10 * n + x) o) (digit_is d small)

-- the table has each of these steps
pub step_is : (p : Place) (b : ℕ) (q : Place) → Step p b q → next_place p b ≡ Some q
step_is p b q first_opens = refl
step_is p b q next_opens = refl
step_is p b q (row_begins d small) = ap (option_map Row) (digit_is d small)
step_is p b q (row_goes_on r d some few small) =
    cond-false (eqb (48 + d) 44) (Some (Comma r)) (option_map Row (extended_by r (48 + d))) (ne_eqb (48 + d) 44 (λ e. omega arith)) ∙ ap (option_map Row) (extended_is r d some few small)
step_is p b q (row_ends r) = refl
step_is p b q (col_begins r d small) = ap (option_map (λ n. Col (cell_at r n))) (digit_is d small)
step_is p b q (col_goes_on r c d some few small) =
    cond-false (eqb (48 + d) 41) (Some (Closed (cell_at r c))) (option_map (λ n. Col (cell_at r n)) (extended_by c (48 + d))) (ne_eqb (48 + d) 41 (λ e. omega arith)) ∙ ap (option_map (λ n. Col (cell_at r n))) (extended_is c d some few small)
step_is p b q (col_ends c) = refl
step_is p b q (dash_comes c) = refl
step_is p b q arrow_ends = refl
