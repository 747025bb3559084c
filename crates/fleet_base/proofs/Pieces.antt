-- The pieces of a text between its LFs, and a line without its CR.
use Rattle.std.proofs.Common.{ℕ, ◌+◌, ◌-◌, ◌≤◌, ◌≡◌, ◌≢◌, Bool, true, false, cond, eqb, List, [], ◌∷◌, ◌++◌, length, take, get_or, sym, ◌∙◌, ap, refl, arith}
use Rattle.std.specs.List.{AllByRecursion}
use Rattle.std.proofs.lemmas.Bool.{cond-false, ne_eqb, eqb-true}
use Rattle.std.proofs.lemmas.List.{take_all, take_more}
use Rattle.fleet_base.specs.Bytes.{in_front, pieces_of, without_cr}

-- no byte is LF
abbrev pub HasNoLf : List ℕ → Type 0
HasNoLf xs = AllByRecursion (λ c. c ≢ 10) xs

-- there is a piece
pub pieces_some : (xs : List ℕ) → (piece : List ℕ) × (pieces : List (List ℕ)) × (pieces_of xs ≡ piece ∷ pieces)
pieces_some [] = ([], [], refl)
pieces_some (c ∷ cs) = go (eqb c 10) (pieces_some cs)
  where
    go : (t : Bool) → ((piece : List ℕ) × (pieces : List (List ℕ)) × (pieces_of cs ≡ piece ∷ pieces)) → (piece : List ℕ) × (pieces : List (List ℕ)) × (cond t ([] ∷ pieces_of cs) (in_front c (pieces_of cs)) ≡ piece ∷ pieces)
    go true w = ([], pieces_of cs, refl)
    go false w = (c ∷ w.0, w.1, ap (in_front c) w.2)

-- a text without an LF is one piece
pub pieces_whole : (xs : List ℕ) → HasNoLf xs → pieces_of xs ≡ xs ∷ []
pieces_whole [] none = refl
pieces_whole (c ∷ cs) none =
    cond-false (eqb c 10) ([] ∷ pieces_of cs) (in_front c (pieces_of cs)) (ne_eqb c 10 none.0) ∙ ap (in_front c) (pieces_whole cs none.1)

-- the first piece ends at the first LF
pub pieces_first : (xs ys : List ℕ) → HasNoLf xs → pieces_of (xs ++ 10 ∷ ys) ≡ xs ∷ pieces_of ys
pieces_first [] ys none = refl
pieces_first (c ∷ cs) ys none =
    cond-false (eqb c 10) ([] ∷ pieces_of (cs ++ 10 ∷ ys)) (in_front c (pieces_of (cs ++ 10 ∷ ys))) (ne_eqb c 10 none.0) ∙ ap (in_front c) (pieces_first cs ys none.1)

-- one CR at the end is dropped
pub without_cr-push : (xs : List ℕ) → without_cr (xs ++ 13 ∷ []) ≡ xs
without_cr-push [] = refl
without_cr-push (a ∷ []) = refl
without_cr-push (a ∷ b ∷ xs) = ap (λ ys. a ∷ ys) (without_cr-push (b ∷ xs))

-- nothing else is
pub without_cr-other : (xs : List ℕ) (c : ℕ) → c ≢ 13 → without_cr (xs ++ c ∷ []) ≡ xs ++ c ∷ []
without_cr-other [] c other = cond-false (eqb c 13) [] (c ∷ []) (ne_eqb c 13 other)
without_cr-other (a ∷ []) c other = ap (λ ys. a ∷ ys) (without_cr-other [] c other)
without_cr-other (a ∷ b ∷ xs) c other = ap (λ ys. a ∷ ys) (without_cr-other (b ∷ xs) c other)

-- the CR at the end of a line is dropped
pub without_cr_cut : (xs : List ℕ) → 1 ≤ length xs → get_or xs (length xs - 1) 0 ≡ 13 → without_cr xs ≡ take (length xs - 1) xs
without_cr_cut xs some last =
    let split : xs ≡ take (length xs - 1) xs ++ get_or xs (length xs - 1) 0 ∷ [] = sym (take_all (length xs - 1 + 1) xs (omega arith)) ∙ take_more xs (length xs - 1) 0 (omega arith) in
    ap without_cr (split ∙ ap (λ c. take (length xs - 1) xs ++ c ∷ []) last) ∙ without_cr-push (take (length xs - 1) xs)

-- a line without it stays
pub without_cr_kept : (xs : List ℕ) → (1 ≤ length xs → get_or xs (length xs - 1) 0 ≡ 13 → ⊥) → without_cr xs ≡ xs
without_cr_kept [] other = refl
without_cr_kept (a ∷ xs) other =
    let split : a ∷ xs ≡ take (length xs) (a ∷ xs) ++ get_or (a ∷ xs) (length xs) 0 ∷ [] = sym (take_all (length xs + 1) (a ∷ xs) (omega arith)) ∙ take_more (a ∷ xs) (length xs) 0 (omega arith) in
    let place : length (a ∷ xs) - 1 ≡ length xs = omega arith in
    ap without_cr split ∙ without_cr-other (take (length xs) (a ∷ xs)) (get_or (a ∷ xs) (length xs) 0) (λ e. other (omega arith) (ap (λ k. get_or (a ∷ xs) k 0) place ∙ e)) ∙ sym split

-- a line that does not end with a CR stays
pub without_cr-none : (line : List ℕ) → ((front : List ℕ) → line ≢ front ++ 13 ∷ []) → without_cr line ≡ line
without_cr-none [] none = refl
without_cr-none (c ∷ []) none = by_cr (eqb c 13) refl
  where
    by_cr : (b : Bool) → eqb c 13 ≡ b → without_cr (c ∷ []) ≡ c ∷ []
    by_cr true e = absurd (none [] (ap (λ x. x ∷ []) (eqb-true c 13 e)))
    by_cr false e = rw e refl
without_cr-none (c ∷ d ∷ cs) none = ap (λ rest. c ∷ rest) (without_cr-none (d ∷ cs) (λ front e. none (c ∷ front) (ap (λ rest. c ∷ rest) e)))

-- at most one byte goes
pub without_cr-shorter : (line : List ℕ) → length (without_cr line) ≤ length line
without_cr-shorter [] = omega arith
without_cr-shorter (c ∷ []) = by_cr (eqb c 13)
  where
    by_cr : (b : Bool) → length (cond b [] (c ∷ [])) ≤ 1
    by_cr true = omega arith
    by_cr false = omega arith
without_cr-shorter (c ∷ d ∷ cs) = omega (arith, without_cr-shorter (d ∷ cs))

pub without_cr-length : (line : List ℕ) → length line ≤ length (without_cr line) + 1
without_cr-length [] = omega arith
without_cr-length (c ∷ []) = by_cr (eqb c 13)
  where
    by_cr : (b : Bool) → 1 ≤ length (cond b [] (c ∷ [])) + 1
    by_cr true = omega arith
    by_cr false = omega arith
without_cr-length (c ∷ d ∷ cs) = omega (arith, without_cr-length (d ∷ cs))
