-- The lines of a text, from the first on.
use Rattle.std.proofs.Common.{ℕ, Some, None, ◌+◌, ◌≡◌, List, [], ◌∷◌, ◌++◌, map, take, drop, sym, ◌∙◌, ap}
use Rattle.std.specs.Prelude.{◌==◌, position}
use Rattle.std.proofs.lemmas.List.{take-append-drop}
use Rattle.fleet_base.specs.Bytes.{pieces_of, all_but_last, last_piece, without_cr, whole_lines}
use Rattle.fleet_base.proofs.Pieces.{HasNoLf, pieces_some, pieces_whole, pieces_first}
use Rattle.cert_tree.proofs.Positions.{found, absent, absent_before}

-- the first of two pieces at least is a line, and not what follows the last line end
first_piece : (xs ys : List ℕ) → (all_but_last (xs ∷ pieces_of ys) ≡ xs ∷ all_but_last (pieces_of ys)) × (last_piece (xs ∷ pieces_of ys) ≡ last_piece (pieces_of ys))
first_piece xs ys =
    let some = pieces_some ys in
    (ap (λ ps. all_but_last (xs ∷ ps)) some.2 ∙ ap (λ ps. xs ∷ all_but_last ps) (sym some.2), ap (λ ps. last_piece (xs ∷ ps)) some.2 ∙ ap last_piece (sym some.2))

-- the lines of a text whose first LF stands here
pub lines_first : (xs ys : List ℕ) → HasNoLf xs → whole_lines (xs ++ 10 ∷ ys) ≡ without_cr xs ∷ whole_lines ys
lines_first xs ys none = ap (λ ps. map without_cr (all_but_last ps)) (pieces_first xs ys none) ∙ ap (map without_cr) (first_piece xs ys).0

pub last_first : (xs ys : List ℕ) → HasNoLf xs → last_piece (pieces_of (xs ++ 10 ∷ ys)) ≡ last_piece (pieces_of ys)
last_first xs ys none = ap last_piece (pieces_first xs ys none) ∙ (first_piece xs ys).1

-- the same by where the first LF stands
parted : (xs : List ℕ) (i : ℕ) → position (λ byte. byte == 10) xs ≡ Some i → xs ≡ take i xs ++ 10 ∷ drop (i + 1) xs
parted xs i e = sym (take-append-drop i xs) ∙ ap (λ ys. take i xs ++ ys) (found 10 xs i e)

pub lines_at : (xs : List ℕ) (i : ℕ) → position (λ byte. byte == 10) xs ≡ Some i → whole_lines xs ≡ without_cr (take i xs) ∷ whole_lines (drop (i + 1) xs)
lines_at xs i e = ap whole_lines (parted xs i e) ∙ lines_first (take i xs) (drop (i + 1) xs) (absent_before 10 xs i e)

pub last_at : (xs : List ℕ) (i : ℕ) → position (λ byte. byte == 10) xs ≡ Some i → last_piece (pieces_of xs) ≡ last_piece (pieces_of (drop (i + 1) xs))
last_at xs i e = ap (λ ys. last_piece (pieces_of ys)) (parted xs i e) ∙ last_first (take i xs) (drop (i + 1) xs) (absent_before 10 xs i e)

pub no_line_end : (xs : List ℕ) → position (λ byte. byte == 10) xs ≡ None → pieces_of xs ≡ xs ∷ []
no_line_end xs e = pieces_whole xs (absent 10 xs e)
