-- Rows of zeros are as long as the robots' routes.
use Rattle.std.proofs.Common.{ℕ, ◌≡◌, ◌+◌, List, [], ◌∷◌, refl, ap, ◌∙◌, length, map, replicate}
use Rattle.std.proofs.lemmas.List.{length-replicate}
use Rattle.fleet_base.specs.VisitRows.{zero_rows}

pub lengths_zero : (lasts : List ℕ) → map length (zero_rows lasts) ≡ map (λ last. last + 1) lasts
lengths_zero [] = refl
lengths_zero (last ∷ lasts) =
    ap (λ (n : ℕ). n ∷ map length (zero_rows lasts)) (length-replicate (last + 1) 0) ∙ ap (λ (ns : List ℕ). (last + 1) ∷ ns) (lengths_zero lasts)
