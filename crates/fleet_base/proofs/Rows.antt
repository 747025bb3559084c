-- Lists of lists.
use Rattle.std.proofs.Common.{ℕ, suc, zero, ◌≡◌, ◌<◌, List, [], ◌∷◌, refl, ◌∙◌, arith, length, get_or}
use Rattle.fleet_base.specs.Lists.{row_of}

-- within a list it is no matter what stands for what is missing
pub get_or_within : {X : Type 0} (xs : List X) (i : ℕ) (d e : X) → i < length xs → get_or xs i d ≡ get_or xs i e
get_or_within [] i d e h = absurd (omega (arith, h))
get_or_within (x ∷ xs) zero d e h = refl
get_or_within (x ∷ xs) (suc i) d e h = get_or_within xs i d e (omega (arith, h))

-- what is read at a place of a list of lists
pub row_at : {X : Type 0} (xs : List (List X)) (i : ℕ) (row : List X) → i < length xs → row ≡ get_or xs i row → row ≡ row_of xs i
row_at xs i row h e = e ∙ get_or_within xs i row [] h
