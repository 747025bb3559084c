-- The lines of a file whose first line ends here.
use Rattle.std.proofs.Common.{ℕ, ◌≡◌, List, [], ◌∷◌, ◌++◌, map, sym, ◌∙◌, ap, refl}
use Rattle.fleet_base.specs.Bytes.{pieces_of, without_cr, without_empty_end, file_lines}
use Rattle.fleet_base.proofs.Pieces.{HasNoLf, pieces_some, pieces_first}

-- the lines of a text whose first LF stands here
pub lines_first : (xs ys : List ℕ) → HasNoLf xs → file_lines (xs ++ 10 ∷ ys) ≡ without_cr xs ∷ file_lines ys
lines_first xs ys none =
    let some = pieces_some ys in
    let more : without_empty_end (xs ∷ pieces_of ys) ≡ xs ∷ without_empty_end (pieces_of ys) = ap (λ ps. without_empty_end (xs ∷ ps)) some.2 ∙ kept xs some.0 some.1 ∙ ap (λ ps. xs ∷ without_empty_end ps) (sym some.2) in
    ap (λ ps. map without_cr (without_empty_end ps)) (pieces_first xs ys none) ∙ ap (map without_cr) more where
      kept : (first piece : List ℕ) (pieces : List (List ℕ)) → without_empty_end (first ∷ piece ∷ pieces) ≡ first ∷ without_empty_end (piece ∷ pieces)
      kept [] piece pieces = refl
      kept (c ∷ cs) piece pieces = refl
