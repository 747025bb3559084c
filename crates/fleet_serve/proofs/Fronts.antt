-- Fronts of lists.
use Rattle.std.proofs.Common.{ℕ, ◌≡◌, ◌+◌, ◌-◌, List, ◌++◌, sym, ap, ◌∙◌, length, take, drop}
use Rattle.std.proofs.lemmas.List.{length-drop}
use Rattle.std.proofs.Math.Seq.{take-add, take-length}

-- what is lent from a place on is all that follows
pub rest_lent : (xs : List ℕ) (s : ℕ) → take (length xs - s) (drop s xs) ≡ drop s xs
rest_lent xs s = ap (λ (k : ℕ). take k (drop s xs)) (sym (length-drop s xs)) ∙ take-length (drop s xs)

-- a front, and a front of what follows it
pub front_of_rest : (xs : List ℕ) (s n : ℕ) → take s xs ++ take n (take (length xs - s) (drop s xs)) ≡ take (s + n) xs
front_of_rest xs s n = ap (λ (t : List ℕ). take s xs ++ take n t) (rest_lent xs s) ∙ sym (take-add s n xs)
