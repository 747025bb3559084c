-- How long two texts are the same.
use Rattle.std.proofs.Common.{◌≡◌, ◌≢◌, ℕ, ◌<◌, ◌≤◌, List, length, get_or, take, sym, ◌∙◌, ap, arith}
use Rattle.std.proofs.lemmas.List.{get_or-take}
use Rattle.fleet_recovery.specs.Papers.{AgreeFor}

-- the byte at a place differs, and none before it
pub differ_at : (xs ys : List ℕ) (n : ℕ) → n < length xs → n < length ys → take n xs ≡ take n ys → get_or xs n 0 ≢ get_or ys n 0 → AgreeFor xs ys n
differ_at xs ys n hx hy same differ = record { within_first = omega (arith, hx); within_second = omega (arith, hy); same = same; longest = longest }
  where
    longest : (m : ℕ) → m ≤ length xs → m ≤ length ys → take m xs ≡ take m ys → m ≤ n
    longest m mx my equal = omega (arith, not_above)
      where
        not_above : n < m → ⊥
        not_above h = differ (sym (get_or-take m xs n 0 h) ∙ ap (λ (l : List ℕ). get_or l n 0) equal ∙ get_or-take m ys n 0 h)
