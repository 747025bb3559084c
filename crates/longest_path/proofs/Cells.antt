-- One item of rows is written.
use Rattle.std.proofs.Common.{ℕ, ◌≡◌, ◌≢◌, ◌+◌, ◌-◌, ◌<◌, ◌≤◌, ◌⊎◌, List, [], ◌∷◌, Bool, true, false, cond, refl, sym, ap, ◌∙◌, subst, inl, inr, arith, length, set, get_or}
use Rattle.std.specs.Prelude.{sum_by}
use Rattle.std.proofs.lemmas.Bool.{cases_lt, cases_eq}
use Rattle.std.proofs.lemmas.List.{get_or-set_same, get_or-set_other, get_or_past, length-set}
use Rattle.std.proofs.lemmas.List.Sums.{sum_by-cons, sum_by-set}
use Rattle.fleet_base.specs.declared.geometry.Visit.{Visit}
use Rattle.fleet_base.specs.Lists.{row_of}
use Rattle.longest_path.specs.Cells.{HasCell, put, AreAlike, is_marked, mark_count, cell_count}

-- the item of a visit, and another value where there is none
abbrev pub cell : {X : Type 0} → List (List X) → Visit → X → X
cell rows v d = get_or (row_of rows v.robot) v.index d

pub cell_put : {X : Type 0} (rows : List (List X)) (v : Visit) (x d : X) → HasCell rows v → cell (put rows v x) v d ≡ x
cell_put rows v x d has =
    ap (λ row. get_or row v.index d) (get_or-set_same rows v.robot (set (row_of rows v.robot) v.index x) [] has.0)
    ∙ get_or-set_same (row_of rows v.robot) v.index x d has.1

pub cell_other : {X : Type 0} (rows : List (List X)) (v w : Visit) (x d : X) → HasCell rows v → w ≢ v → cell (put rows v x) w d ≡ cell rows w d
cell_other rows v w x d has ne = go (cases_eq w.robot v.robot) (cases_eq w.index v.index)
  where
    go : (w.robot ≡ v.robot) ⊎ (w.robot ≢ v.robot) → (w.index ≡ v.index) ⊎ (w.index ≢ v.index) → cell (put rows v x) w d ≡ cell rows w d
    go (inr r) i = ap (λ row. get_or row w.index d) (get_or-set_other rows v.robot w.robot (set (row_of rows v.robot) v.index x) [] r)
    go (inl r) (inl i) = absurd (ne (λ j. record { robot = r j; index = i j }))
    go (inl r) (inr i) =
        ap (λ k. get_or (row_of (put rows v x) k) w.index d) r
        ∙ ap (λ row. get_or row w.index d) (get_or-set_same rows v.robot (set (row_of rows v.robot) v.index x) [] has.0)
        ∙ get_or-set_other (row_of rows v.robot) v.index w.index x d i
        ∙ ap (λ k. get_or (row_of rows k) w.index d) (sym r)

pub put_alike : {X : Type 0} (rows : List (List X)) (v : Visit) (x : X) → HasCell rows v → AreAlike rows (put rows v x)
put_alike rows v x has = record { rows = sym (length-set rows v.robot (set (row_of rows v.robot) v.index x)); each = λ i. go i (cases_eq i v.robot) }
  where
    go : (i : ℕ) → (i ≡ v.robot) ⊎ (i ≢ v.robot) → length (row_of rows i) ≡ length (row_of (put rows v x) i)
    go i (inr ne) = sym (ap (λ row. length row) (get_or-set_other rows v.robot i (set (row_of rows v.robot) v.index x) [] ne))
    go i (inl e) = sym (
        ap (λ k. length (row_of (put rows v x) k)) e
        ∙ ap (λ row. length row) (get_or-set_same rows v.robot (set (row_of rows v.robot) v.index x) [] has.0)
        ∙ length-set (row_of rows v.robot) v.index x
        ∙ ap (λ k. length (row_of rows k)) (sym e))

pub alike_refl : {X : Type 0} (xs : List (List X)) → AreAlike xs xs
alike_refl xs = record { rows = refl; each = λ i. refl }

pub alike_sym : {X Y : Type 0} (xs : List (List X)) (ys : List (List Y)) → AreAlike xs ys → AreAlike ys xs
alike_sym xs ys a = record { rows = sym a.rows; each = λ i. sym (a.each i) }

pub alike_on : {X Y Z : Type 0} (xs : List (List X)) (ys : List (List Y)) (zs : List (List Z)) → AreAlike xs ys → AreAlike ys zs → AreAlike xs zs
alike_on xs ys zs a b = record { rows = a.rows ∙ b.rows; each = λ i. a.each i ∙ b.each i }

pub alike_cell : {X Y : Type 0} (xs : List (List X)) (ys : List (List Y)) (v : Visit) → AreAlike xs ys → HasCell xs v → HasCell ys v
alike_cell xs ys v a has = (omega (arith, has.0, a.rows), omega (arith, has.1, a.each v.robot))

-- a marked visit is there
pub marked_cell : (marks : List (List Bool)) (v : Visit) → is_marked marks v ≡ true → HasCell marks v
marked_cell marks v m = go (cases_lt v.robot (length marks)) (cases_lt v.index (length (row_of marks v.robot)))
  where
    go : (v.robot < length marks) ⊎ (length marks ≤ v.robot) → (v.index < length (row_of marks v.robot)) ⊎ (length (row_of marks v.robot) ≤ v.index) → HasCell marks v
    go (inl r) (inl i) = (r, i)
    go r (inr i) = absurd (let z = get_or_past (row_of marks v.robot) v.index false i in cc)
    go (inr r) (inl i) = absurd (let z = ap (λ (row : List Bool). length row) (get_or_past marks v.robot [] r) in omega (arith, z, i))

module _ {X : Type 0} (f : X → ℕ) where
  -- the sum over all items
  abbrev pub total : List (List X) → ℕ
  total rows = sum_by (λ row. sum_by f row) rows

  pub total_put : (rows : List (List X)) (v : Visit) (x d : X) → HasCell rows v → total (put rows v x) + f (cell rows v d) ≡ total rows + f x
  total_put rows v x d has =
      let one = sum_by-set f (row_of rows v.robot) v.index x d has.1 in
      let all = sum_by-set (λ (row : List X). sum_by f row) rows v.robot (set (row_of rows v.robot) v.index x) [] has.0 in
      omega (arith, one, all)

pub count_put : {X : Type 0} (rows : List (List X)) (v : Visit) (x : X) → HasCell rows v → cell_count (put rows v x) ≡ cell_count rows
count_put rows v x has =
    let one = length-set (row_of rows v.robot) v.index x in
    let all = sum_by-set (λ (row : List _). length row) rows v.robot (set (row_of rows v.robot) v.index x) [] has.0 in
    omega (arith, one, all)

abbrev pub weight : Bool → ℕ
weight b = cond b 1 0

row_weight : (row : List Bool) → sum_by weight row ≤ length row
row_weight [] = omega arith
row_weight (b ∷ row) = let rest = row_weight row in let z = sum_by-cons weight b row in let w = at b in omega (arith, rest, z, w)
  where
    at : (b : Bool) → weight b ≤ 1
    at true = omega arith
    at false = omega arith

-- no more visits are marked than there are
pub marks_within : (marks : List (List Bool)) → mark_count marks ≤ cell_count marks
marks_within [] = omega arith
marks_within (row ∷ rows) =
    let rest = marks_within rows in
    let here = row_weight row in
    omega (arith, rest, here, sum_by-cons (λ (r : List Bool). sum_by weight r) row rows, sum_by-cons (λ (r : List Bool). length r) row rows)

pub mark_put : (marks : List (List Bool)) (v : Visit) (b : Bool) → HasCell marks v → mark_count (put marks v b) + weight (is_marked marks v) ≡ mark_count marks + weight b
mark_put marks v b has = total_put weight marks v b false has

pub marked_added : (marks : List (List Bool)) (v w : Visit) → HasCell marks v → is_marked marks w ≡ true → is_marked (put marks v true) w ≡ true
marked_added marks v w has m = go (cases_eq w.robot v.robot) (cases_eq w.index v.index)
  where
    other : w ≢ v → is_marked (put marks v true) w ≡ true
    other ne = cell_other marks v w true false has ne ∙ m

    go : (w.robot ≡ v.robot) ⊎ (w.robot ≢ v.robot) → (w.index ≡ v.index) ⊎ (w.index ≢ v.index) → is_marked (put marks v true) w ≡ true
    go (inr r) i = other (λ e. r (ap (λ (u : Visit). u.robot) e))
    go r (inr i) = other (λ e. i (ap (λ (u : Visit). u.index) e))
    go (inl r) (inl i) = let e : w ≡ v = (λ j. record { robot = r j; index = i j }) in ap (λ (u : Visit). is_marked (put marks v true) u) e ∙ cell_put marks v true false has
