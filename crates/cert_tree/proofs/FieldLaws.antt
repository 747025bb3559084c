-- A field of a line ends at the next space or with the line.
use Rattle.std.proofs.Common.{ℕ, ◌≡◌, ◌^◌, ◌<◌, ◌≤◌, List, [], ◌∷◌, ◌++◌, refl, sym, ap, ◌∙◌, arith, drop, length, length-append}
use Rattle.std.specs.Prelude.{decimal}
use Rattle.std.proofs.lemmas.Fmt.{decimal_injective}
use Rattle.fleet_base.specs.Bytes.{field, IsNumber}
use Rattle.fleet_base.proofs.LineLaws.{AtLeast, decimal-at_least}
use Rattle.cert_tree.specs.Reading.{BeginsField, HasNoSpace, TakesNumber}

apart : (xs : List ℕ) → AtLeast 48 xs → HasNoSpace xs
apart [] a = tt
apart (x ∷ xs) a = (λ e. omega (arith, a.0, e), apart xs a.1)

-- two ways to part a text at its first space are one
split : (a b xs ys : List ℕ) → HasNoSpace a → HasNoSpace b → BeginsField xs → BeginsField ys → a ++ xs ≡ b ++ ys → (a ≡ b) × (xs ≡ ys)
split [] [] xs ys na nb fx fy e = (refl, e)
split [] (d ∷ b) [] ys na nb fx fy e = cc
split [] (d ∷ b) (c ∷ xs) ys na nb fx fy e = let s : c ≡ d = cc in absurd (nb.0 (sym s ∙ fx))
split (c ∷ a) [] xs [] na nb fx fy e = cc
split (c ∷ a) [] xs (d ∷ ys) na nb fx fy e = let s : c ≡ d = cc in absurd (na.0 (s ∙ fy))
split (c ∷ a) (d ∷ b) xs ys na nb fx fy e =
    let s : c ≡ d = cc in
    let r = split a b xs ys na.1 nb.1 fx fy (let t : a ++ xs ≡ b ++ ys = cc in t) in
    (let t : a ≡ b = r.0 in let u : c ∷ a ≡ d ∷ b = cc in u, r.1)

-- a field in front determines its number and what follows
pub field_split : (m n : ℕ) (xs ys : List ℕ) → m < 2 ^ 64 → n < 2 ^ 64 → BeginsField xs → BeginsField ys → field m ++ xs ≡ field n ++ ys → (m ≡ n) × (xs ≡ ys)
field_split m n xs ys hm hn fx fy e =
    let r = split (decimal m) (decimal n) xs ys (apart (decimal m) (decimal-at_least m)) (apart (decimal n) (decimal-at_least n)) fx fy (ap (drop 1) e) in
    (decimal_injective m n hm hn r.0, r.1)

-- a number below 2^32 is one below 2^64
pub small : (n : ℕ) → n < 2 ^ 32 → n < 2 ^ 64
small n h = omega (arith, h)

-- a text takes no number where what stands before its next space is none
pub word_not_taken : (text digits rest : List ℕ) → text ≡ 32 ∷ (digits ++ rest) → HasNoSpace digits → BeginsField rest → ((n : ℕ) → IsNumber digits n → ⊥) → (n : ℕ) (after : List ℕ) → TakesNumber (2 ^ 64) text n after → ⊥
word_not_taken text digits rest parts plain begins none n after takes =
    let r = split digits (decimal n) rest after plain (apart (decimal n) (decimal-at_least n)) begins takes.2 (ap (drop 1) (sym parts ∙ takes.0)) in
    none n (record { digits = r.0; fits = takes.1 })

-- the number that a text takes is one
pub taken_once : (limit : ℕ) (text rest after : List ℕ) (m n : ℕ) → limit ≤ 2 ^ 64 → TakesNumber (2 ^ 64) text m rest → TakesNumber limit text n after → (m ≡ n) × (rest ≡ after)
taken_once limit text rest after m n le a b = field_split m n rest after a.1 (omega (arith, le, b.1)) a.2 b.2 (sym a.0 ∙ b.0)

-- a text that takes a number is longer than what follows
pub longer : (limit : ℕ) (text rest : List ℕ) (n : ℕ) → TakesNumber limit text n rest → length rest < length text
longer limit text rest n takes = omega (arith, ap length takes.0, length-append (decimal n) rest)
