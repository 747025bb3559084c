-- Ranges of numbers in parts.
use Rattle.std.proofs.Common.{ℕ, suc, zero, ◌≡◌, ◌+◌, ◌-◌, ◌<◌, ◌≤◌, List, [], ◌∷◌, ◌++◌, ap, ◌∙◌, arith}
use Rattle.std.specs.List.{range_with_len}
use Rattle.fleet_base.specs.Lists.{range}

joined : (a m n : ℕ) → range_with_len a (m + n) ≡ range_with_len a m ++ range_with_len (a + m) n
joined a zero n = let e : zero + n ≡ n = omega arith in let f : a ≡ a + zero = omega arith in ap (range_with_len a) e ∙ ap (λ b. range_with_len b n) f
joined a (suc m) n =
    let e : suc m + n ≡ suc (m + n) = omega arith in
    let f : a + 1 + m ≡ a + suc m = omega arith in
    ap (range_with_len a) e ∙ ap (λ (l : List ℕ). a ∷ l) (joined (a + 1) m n ∙ ap (λ b. range_with_len (a + 1) m ++ range_with_len b n) f)

-- a range in two parts
pub range_parts : (a b c : ℕ) → a ≤ b → b ≤ c → range a c ≡ range a b ++ range b c
range_parts a b c h k =
    let e : c - a ≡ (b - a) + (c - b) = omega arith in
    let f : a + (b - a) ≡ b = omega arith in
    ap (range_with_len a) e ∙ joined a (b - a) (c - b) ∙ ap (λ d. range_with_len a (b - a) ++ range_with_len d (c - b)) f

-- a range begins with its first number
pub range_first : (a b : ℕ) → a < b → range a b ≡ a ∷ range (a + 1) b
range_first a b h = let e : b - a ≡ suc (b - (a + 1)) = omega arith in ap (range_with_len a) e

-- one number more
pub range_more : (n : ℕ) → range 0 (n + 1) ≡ range 0 n ++ n ∷ []
range_more n =
    let low : 0 ≤ n = omega arith in
    let up : n ≤ n + 1 = omega arith in
    let lt : n < n + 1 = omega arith in
    let none : (n + 1) - (n + 1) ≡ 0 = omega arith in
    range_parts 0 n (n + 1) low up ∙ ap (λ (l : List ℕ). range 0 n ++ l) (range_first n (n + 1) lt ∙ ap (λ d. n ∷ range_with_len (n + 1) d) none)
