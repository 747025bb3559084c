-- How the lines of a file follow from its first line and the text after it.
use Rattle.std.proofs.Common.{ℕ, suc, ◌≡◌, ◌+◌, ◌-◌, ◌<◌, ◌≤◌, Bool, true, false, List, [], ◌∷◌, map, length, take, drop, cond, eqb, ltb, Some, None, add-one, refl, sym, ap, ◌∙◌, arith}
use Rattle.std.proofs.lemmas.Bool.{ltb-true, ltb-false}
use Rattle.std.proofs.lemmas.Option.{cond_some}
use Rattle.std.proofs.lemmas.List.{take_all, take_rest, drop_all, length-map}
use Rattle.std.specs.List.{position, position_or_len, before_first, after_first}
use Rattle.fleet_base.proofs.Pieces.{pieces_some}
use Rattle.fleet_base.specs.Bytes.{in_front, pieces_of, without_cr, without_empty_end, file_lines}

-- whether a byte ends a line
abbrev pub is_end : ℕ → Bool
is_end b = eqb b 10

-- a piece before others is kept
pub without_end-kept : (line : List ℕ) (pieces : List (List ℕ)) (p : List ℕ) (ps : List (List ℕ)) → pieces ≡ p ∷ ps → without_empty_end (line ∷ pieces) ≡ line ∷ without_empty_end pieces
without_end-kept line [] p ps e = cc
without_end-kept [] (q ∷ qs) p ps e = refl
without_end-kept (c ∷ cs) (q ∷ qs) p ps e = refl

-- another byte goes in front of the first piece
without_end-in_front : (c : ℕ) (pieces : List (List ℕ)) (p : List ℕ) (ps : List (List ℕ)) → without_empty_end pieces ≡ p ∷ ps → without_empty_end (in_front c pieces) ≡ (c ∷ p) ∷ ps
without_end-in_front c [] p ps e = cc
without_end-in_front c ([] ∷ []) p ps e = cc
without_end-in_front c ((x ∷ xs) ∷ []) p ps e = cc
without_end-in_front c (q ∷ r ∷ rs) p ps e = cc

one-add : (n : ℕ) → 1 + n ≡ suc n
one-add n = omega arith

drop_next : (c : ℕ) (cs : List ℕ) (n : ℕ) → drop (n + 1) (c ∷ cs) ≡ drop n cs
drop_next c cs n = rw add-one refl

-- how the parts before and after the first LF follow from the first byte
before_first-ended : (c : ℕ) (cs : List ℕ) → is_end c ≡ true → before_first is_end (c ∷ cs) ≡ []
before_first-ended c cs e = rw e refl

after_first-ended : (c : ℕ) (cs : List ℕ) → is_end c ≡ true → after_first is_end (c ∷ cs) ≡ cs
after_first-ended c cs e = rw e refl

before_first-more : (c : ℕ) (cs : List ℕ) → is_end c ≡ false → before_first is_end (c ∷ cs) ≡ c ∷ before_first is_end cs
before_first-more c cs e = rw (e, one-add) refl

after_first-more : (c : ℕ) (cs : List ℕ) → is_end c ≡ false → after_first is_end (c ∷ cs) ≡ after_first is_end cs
after_first-more c cs e =
    let m = position_or_len is_end cs in
    rw e (drop_next c cs (1 + m) ∙ ap (λ n. drop n cs) (omega arith))

same_parts : (p q x y : List ℕ) → p ≡ q → x ≡ y → p ∷ without_empty_end (pieces_of x) ≡ q ∷ without_empty_end (pieces_of y)
same_parts p q x y e f = cc

-- the pieces of a text that is not empty: what stands before the first LF, and the pieces of what stands after it
first_piece : (c : ℕ) (cs : List ℕ) → without_empty_end (pieces_of (c ∷ cs)) ≡ before_first is_end (c ∷ cs) ∷ without_empty_end (pieces_of (after_first is_end (c ∷ cs)))
first_piece c [] = by_end (eqb c 10) refl
  where
    by_end : (b : Bool) → eqb c 10 ≡ b → without_empty_end (pieces_of (c ∷ [])) ≡ before_first is_end (c ∷ []) ∷ without_empty_end (pieces_of (after_first is_end (c ∷ [])))
    by_end true e = rw e refl
    by_end false e = rw e refl
first_piece c (d ∷ ds) = by_end (first_piece d ds) (eqb c 10) refl
  where
    by_end : without_empty_end (pieces_of (d ∷ ds)) ≡ before_first is_end (d ∷ ds) ∷ without_empty_end (pieces_of (after_first is_end (d ∷ ds)))
        → (b : Bool) → eqb c 10 ≡ b → without_empty_end (pieces_of (c ∷ d ∷ ds)) ≡ before_first is_end (c ∷ d ∷ ds) ∷ without_empty_end (pieces_of (after_first is_end (c ∷ d ∷ ds)))
    by_end rest true e =
        ap (λ b. without_empty_end (cond b ([] ∷ pieces_of (d ∷ ds)) (in_front c (pieces_of (d ∷ ds))))) e
        ∙ without_end-kept [] _ _ _ (pieces_some (d ∷ ds)).2
        ∙ sym (same_parts _ _ _ _ (before_first-ended c (d ∷ ds) e) (after_first-ended c (d ∷ ds) e))
    by_end rest false e =
        ap (λ b. without_empty_end (cond b ([] ∷ pieces_of (d ∷ ds)) (in_front c (pieces_of (d ∷ ds))))) e
        ∙ without_end-in_front c (pieces_of (d ∷ ds)) _ _ rest
        ∙ sym (same_parts _ _ _ _ (before_first-more c (d ∷ ds) e) (after_first-more c (d ∷ ds) e))

-- the lines of a text that is not empty
pub file_lines-cons : (text : List ℕ) → 0 < length text → file_lines text ≡ without_cr (before_first is_end text) ∷ file_lines (after_first is_end text)
file_lines-cons [] h = absurd (omega arith)
file_lines-cons (c ∷ cs) h = ap (λ pieces. map without_cr pieces) (first_piece c cs)

-- the lines of a text whose first LF stands at place i
pub file_lines-ended : (text : List ℕ) (i : ℕ) (line : List ℕ) → position is_end text ≡ Some i → line ≡ without_cr (take i text)
    → file_lines text ≡ line ∷ file_lines (take (length text - (i + 1)) (drop (i + 1) text))
file_lines-ended text i line e cut =
    let parts : (ltb (position_or_len is_end text) (length text) ≡ true) × (position_or_len is_end text ≡ i) = cond_some _ _ _ e in
    let inside : position_or_len is_end text < length text = ltb-true _ _ parts.0 in
    file_lines-cons text (omega arith)
    ∙ ap (λ n. without_cr (take n text) ∷ file_lines (drop (n + 1) text)) parts.1
    ∙ ap (λ front. front ∷ file_lines (drop (i + 1) text)) (sym cut)
    ∙ ap (λ rest. line ∷ file_lines rest) (sym (take_rest text (i + 1)))

-- the line of a text without LF
pub file_lines-open : (text line : List ℕ) → 0 < length text → position is_end text ≡ None → line ≡ without_cr text
    → file_lines text ≡ line ∷ file_lines (take (length text - length text) (drop (length text) text))
file_lines-open text line some e cut = by_test (ltb (position_or_len is_end text) (length text)) refl
  where
    by_test : (b : Bool) → ltb (position_or_len is_end text) (length text) ≡ b
        → file_lines text ≡ line ∷ file_lines (take (length text - length text) (drop (length text) text))
    by_test true f = cc
    by_test false f =
        let past : length text ≤ position_or_len is_end text = ltb-false _ _ f in
        file_lines-cons text some
        ∙ ap (λ front. without_cr front ∷ file_lines (after_first is_end text)) (take_all _ text past)
        ∙ ap (λ front. front ∷ file_lines (after_first is_end text)) (sym cut)
        ∙ ap (λ rest. line ∷ file_lines rest) (drop_all (position_or_len is_end text + 1) text (omega arith) ∙ sym (drop_all (length text) text (omega arith)) ∙ sym (take_rest text (length text)))

-- what is behind the line is what stands after the first LF
pub behind_ended : (text : List ℕ) (i : ℕ) → position is_end text ≡ Some i → take (length text - (i + 1)) (drop (i + 1) text) ≡ after_first is_end text
behind_ended text i e =
    let parts : (ltb (position_or_len is_end text) (length text) ≡ true) × (position_or_len is_end text ≡ i) = cond_some _ _ _ e in
    take_rest text (i + 1) ∙ ap (λ n. drop (n + 1) text) (sym parts.1)

pub behind_open : (text : List ℕ) → position is_end text ≡ None → take (length text - length text) (drop (length text) text) ≡ after_first is_end text
behind_open text e = by_test (ltb (position_or_len is_end text) (length text)) refl
  where
    by_test : (b : Bool) → ltb (position_or_len is_end text) (length text) ≡ b → take (length text - length text) (drop (length text) text) ≡ after_first is_end text
    by_test true f = cc
    by_test false f =
        let past : length text ≤ position_or_len is_end text = ltb-false _ _ f in
        take_rest text (length text) ∙ drop_all (length text) text (omega arith) ∙ sym (drop_all (position_or_len is_end text + 1) text (omega arith))

-- a text has no more lines than bytes
pub length-file_lines : (text : List ℕ) → length (file_lines text) ≤ length text
length-file_lines text = omega (arith, length-map (without_empty_end (pieces_of text)) without_cr, few text)
  where
    few : (text : List ℕ) → length (without_empty_end (pieces_of text)) ≤ length text
    few [] = omega arith
    few (c ∷ []) = by_end (eqb c 10) refl
      where
        by_end : (b : Bool) → eqb c 10 ≡ b → length (without_empty_end (pieces_of (c ∷ []))) ≤ 1
        by_end true e = rw e (omega arith)
        by_end false e = rw e (omega arith)
    few (c ∷ d ∷ ds) = by_end (few (d ∷ ds)) (eqb c 10) refl
      where
        by_end : length (without_empty_end (pieces_of (d ∷ ds))) ≤ length (d ∷ ds) → (b : Bool) → eqb c 10 ≡ b → length (without_empty_end (pieces_of (c ∷ d ∷ ds))) ≤ length (c ∷ d ∷ ds)
        by_end rest true e =
            let is = ap (λ b. without_empty_end (cond b ([] ∷ pieces_of (d ∷ ds)) (in_front c (pieces_of (d ∷ ds))))) e ∙ without_end-kept [] _ _ _ (pieces_some (d ∷ ds)).2 in
            omega (arith, ap length is, rest)
        by_end rest false e =
            let is = ap (λ b. without_empty_end (cond b ([] ∷ pieces_of (d ∷ ds)) (in_front c (pieces_of (d ∷ ds))))) e ∙ without_end-in_front c (pieces_of (d ∷ ds)) _ _ (first_piece d ds) in
            omega (arith, ap length is, ap length (first_piece d ds), rest)
