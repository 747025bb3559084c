-- Rows of the same lengths.
use Rattle.std.proofs.Common.{ℕ, suc, zero, ◌≡◌, ◌+◌, ◌<◌, ◌≤◌, ◌⊎◌, List, [], ◌∷◌, refl, ap, ◌∙◌, inl, inr, arith, length, map, set, get_or}
use Rattle.std.proofs.lemmas.Bool.{cases_lt, cases_eq}
use Rattle.std.proofs.lemmas.List.{get_or-set_same, get_or-set_other, length-set}
use Rattle.fleet_base.specs.Lists.{row_of}
use Rattle.cert_check.proofs.RoundLaws.{lengths_set}

pub row_len : (rs ts : List (List ℕ)) (i : ℕ) → map length rs ≡ map length ts → length (row_of rs i) ≡ length (row_of ts i)
row_len [] [] i e = refl
row_len [] (t ∷ ts) i e = cc
row_len (r ∷ rs) [] i e = cc
row_len (r ∷ rs) (t ∷ ts) zero e = let s : length r ≡ length t = cc in s
row_len (r ∷ rs) (t ∷ ts) (suc i) e = let s : map length rs ≡ map length ts = cc in row_len rs ts i s

pub same_rows : (rs ts : List (List ℕ)) → map length rs ≡ map length ts → length rs ≡ length ts
same_rows [] [] e = refl
same_rows [] (t ∷ ts) e = cc
same_rows (r ∷ rs) [] e = cc
same_rows (r ∷ rs) (t ∷ ts) e = let s : map length rs ≡ map length ts = cc in ap suc (same_rows rs ts s)

-- what is 0 past its end, and before it
pub past_end : (row : List ℕ) (k : ℕ) → length row ≤ k → get_or row k 0 ≡ 0
past_end [] k h = refl
past_end (x ∷ row) zero h = absurd (omega (arith, h))
past_end (x ∷ row) (suc k) h = past_end row k (omega (arith, h))

pub rows_past : (rows : List (List ℕ)) (i : ℕ) → length rows ≤ i → row_of rows i ≡ []
rows_past [] i h = refl
rows_past (r ∷ rows) zero h = absurd (omega (arith, h))
rows_past (r ∷ rows) (suc i) h = rows_past rows i (omega (arith, h))

-- one more place of a row is 0
pub index_more : (rows now first : List (List ℕ)) (i k : ℕ) → i < length rows → k < length (row_of rows i) → now ≡ set rows i (set (row_of rows i) k 0)
    → ((j m : ℕ) → j < i → get_or (row_of rows j) m 0 ≡ 0) × ((m : ℕ) → m < k → get_or (row_of rows i) m 0 ≡ 0) × (map length rows ≡ map length first)
    → ((j m : ℕ) → j < i → get_or (row_of now j) m 0 ≡ 0) × ((m : ℕ) → m < k + 1 → get_or (row_of now i) m 0 ≡ 0) × (map length now ≡ map length first)
index_more rows now first i k inside there is h = (
  λ j m lt. ap (λ (r : List (List ℕ)). get_or (row_of r j) m 0) is ∙ ap (λ (r : List ℕ). get_or r m 0) (get_or-set_other rows i j (set (row_of rows i) k 0) [] (λ e. omega (arith, e, lt))) ∙ h.0 j m lt,
  λ m lt. ap (λ (r : List (List ℕ)). get_or (row_of r i) m 0) is ∙ ap (λ (r : List ℕ). get_or r m 0) (get_or-set_same rows i (set (row_of rows i) k 0) [] inside) ∙ at m lt (cases_eq m k),
  ap (λ (r : List (List ℕ)). map length r) is ∙ lengths_set rows i (set (row_of rows i) k 0) (length-set (row_of rows i) k 0) ∙ h.2,
)
  where
    at : (m : ℕ) → m < k + 1 → (m ≡ k) ⊎ (m ≡ k → ⊥) → get_or (set (row_of rows i) k 0) m 0 ≡ 0
    at m lt (inl e) = ap (λ n. get_or (set (row_of rows i) k 0) n 0) e ∙ get_or-set_same (row_of rows i) k 0 0 there
    at m lt (inr n) = get_or-set_other (row_of rows i) k m 0 0 n ∙ h.1 m (omega (arith, lt, n))

-- so is one more row
pub robot_more : (rows : List (List ℕ)) (i k : ℕ) → length (row_of rows i) ≤ k → ((j m : ℕ) → j < i → get_or (row_of rows j) m 0 ≡ 0) → ((m : ℕ) → m < k → get_or (row_of rows i) m 0 ≡ 0) → (j m : ℕ) → j < i + 1 → get_or (row_of rows j) m 0 ≡ 0
robot_more rows i k end before here j m lt = go (cases_eq j i)
  where
    at : (m < k) ⊎ (k ≤ m) → get_or (row_of rows i) m 0 ≡ 0
    at (inl l) = here m l
    at (inr g) = past_end (row_of rows i) m (omega (arith, end, g))

    go : (j ≡ i) ⊎ (j ≡ i → ⊥) → get_or (row_of rows j) m 0 ≡ 0
    go (inl e) = ap (λ n. get_or (row_of rows n) m 0) e ∙ at (cases_lt m k)
    go (inr n) = before j m (omega (arith, lt, n))

-- all of them
pub all_zero : (rows : List (List ℕ)) (i : ℕ) → length rows ≤ i → ((j m : ℕ) → j < i → get_or (row_of rows j) m 0 ≡ 0) → (j m : ℕ) → get_or (row_of rows j) m 0 ≡ 0
all_zero rows i end before j m = go (cases_lt j i)
  where
    go : (j < i) ⊎ (i ≤ j) → get_or (row_of rows j) m 0 ≡ 0
    go (inl l) = before j m l
    go (inr g) = ap (λ (r : List ℕ). get_or r m 0) (rows_past rows j (omega (arith, end, g)))
