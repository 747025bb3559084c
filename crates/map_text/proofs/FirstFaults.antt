-- What a wrong line of the header tells of the whole text.
use Rattle.std.proofs.Common.{ℕ, ◌≡◌, ◌≢◌, ◌<◌, List, ◌∷◌, Option, Some, refl, sym, ap, ◌∙◌, subst, inl, inr, below_none, below_more, arith}
use Rattle.std.specs.Prelude.{codes, slice_get}
use Rattle.map_text.specs.declared.fault.MapKind.{MapKind}
use Rattle.map_text.specs.declared.fault.MapKind.TheVariants.{Octile, Height, Width, Map}
use Rattle.map_text.specs.MapText.{IsSize, IsRight, HasHeader, height_line, width_line}
use Rattle.map_text.specs.MapFaults.{IsMapFault, IsWrongSide}

-- the lines of the header are right where they stand
pub right_heading : (h w : ℕ) (line : Option (List ℕ)) → line ≡ Some (codes "type octile") → IsRight h w 0 line
right_heading h w line e = record {
  heading = λ _. e;
  height = λ f. absurd (omega arith);
  width = λ f. absurd (omega arith);
  start = λ f. absurd (omega arith);
  row = λ p. absurd (omega arith);
  after = λ p. absurd (omega arith);
}

pub right_height : (h w : ℕ) (line : Option (List ℕ)) → line ≡ Some (height_line h) → IsSize h → IsRight h w 1 line
right_height h w line e size = record {
  heading = λ f. absurd (omega arith);
  height = λ _. (e, size);
  width = λ f. absurd (omega arith);
  start = λ f. absurd (omega arith);
  row = λ p. absurd (omega arith);
  after = λ p. absurd (omega arith);
}

pub right_width : (h w : ℕ) (line : Option (List ℕ)) → line ≡ Some (width_line w) → IsSize w → IsRight h w 2 line
right_width h w line e size = record {
  heading = λ f. absurd (omega arith);
  height = λ f. absurd (omega arith);
  width = λ _. (e, size);
  start = λ f. absurd (omega arith);
  row = λ p. absurd (omega arith);
  after = λ p. absurd (omega arith);
}

pub right_start : (h w : ℕ) (line : Option (List ℕ)) → line ≡ Some (codes "map") → IsRight h w 3 line
right_start h w line e = record {
  heading = λ f. absurd (omega arith);
  height = λ f. absurd (omega arith);
  width = λ f. absurd (omega arith);
  start = λ _. e;
  row = λ p. absurd (omega arith);
  after = λ p. absurd (omega arith);
}

pub fault_in_heading : (lines : List (List ℕ)) → slice_get lines 0 ≢ Some (codes "type octile") → IsMapFault lines 1 Octile
fault_in_heading lines wrong = record {
  place = 0;
  height = 0;
  width = 0;
  counted = refl;
  above = below_none _;
  here = (refl, wrong);
}

pub fault_in_height : (lines rest : List (List ℕ)) (kind : MapKind) → lines ≡ codes "type octile" ∷ rest → IsWrongSide (codes "height ") Height (slice_get rest 0) kind → IsMapFault lines 2 kind
fault_in_height lines rest kind e wrong = subst (λ ls. IsMapFault ls 2 kind) (sym e) (by_kind wrong)
  where
    text : List (List ℕ)
    text = codes "type octile" ∷ rest

    above : (j : ℕ) → j < 1 → IsRight 0 0 j (slice_get text j)
    above = below_more (λ j. IsRight 0 0 j (slice_get text j)) 0 (below_none _) (right_heading 0 0 _ refl)

    by_kind : IsWrongSide (codes "height ") Height (slice_get rest 0) kind → IsMapFault text 2 kind
    by_kind (inl (own, none)) = subst (λ k. IsMapFault text 2 k) (sym own) (record {
      place = 1;
      height = 0;
      width = 0;
      counted = refl;
      above = above;
      here = (refl, none);
    })
    by_kind (inr (size, (n, is, not))) = subst (λ k. IsMapFault text 2 k) (sym size) (record {
      place = 1;
      height = 0;
      width = 0;
      counted = refl;
      above = above;
      here = (n, inl (refl, is), not);
    })

pub fault_in_width : (lines rest others : List (List ℕ)) (h : ℕ) (kind : MapKind) → lines ≡ codes "type octile" ∷ rest → rest ≡ height_line h ∷ others → IsSize h
    → IsWrongSide (codes "width ") Width (slice_get others 0) kind → IsMapFault lines 3 kind
fault_in_width lines rest others h kind e f fits wrong = subst (λ ls. IsMapFault ls 3 kind) (sym (e ∙ ap (λ ls. codes "type octile" ∷ ls) f)) (by_kind wrong)
  where
    text : List (List ℕ)
    text = codes "type octile" ∷ height_line h ∷ others

    above : (j : ℕ) → j < 2 → IsRight h 0 j (slice_get text j)
    above = below_more (λ j. IsRight h 0 j (slice_get text j)) 1
        (below_more (λ j. IsRight h 0 j (slice_get text j)) 0 (below_none _) (right_heading h 0 _ refl))
        (right_height h 0 _ refl fits)

    by_kind : IsWrongSide (codes "width ") Width (slice_get others 0) kind → IsMapFault text 3 kind
    by_kind (inl (own, none)) = subst (λ k. IsMapFault text 3 k) (sym own) (record {
      place = 2;
      height = h;
      width = 0;
      counted = refl;
      above = above;
      here = (refl, none);
    })
    by_kind (inr (size, (n, is, not))) = subst (λ k. IsMapFault text 3 k) (sym size) (record {
      place = 2;
      height = h;
      width = 0;
      counted = refl;
      above = above;
      here = (n, inr (refl, is), not);
    })

-- three lines of the header
three_right : (h w : ℕ) (more : List (List ℕ)) → IsSize h → IsSize w
    → (j : ℕ) → j < 3 → IsRight h w j (slice_get (codes "type octile" ∷ height_line h ∷ width_line w ∷ more) j)
three_right h w more high wide = below_more P 2 (below_more P 1 (below_more P 0 (below_none _) (right_heading h w _ refl)) (right_height h w _ refl high)) (right_width h w _ refl wide)
  where
    P : ℕ → Type 0
    P j = IsRight h w j (slice_get (codes "type octile" ∷ height_line h ∷ width_line w ∷ more) j)

-- the whole header
pub header_right : (h w : ℕ) (lines others : List (List ℕ)) → HasHeader h w lines others → (j : ℕ) → j < 4 → IsRight h w j (slice_get lines j)
header_right h w lines others e =
    subst (λ ls. (j : ℕ) → j < 4 → IsRight h w j (slice_get ls j)) (sym e.header) (below_more P 3 (three_right h w (codes "map" ∷ others) e.height e.width) (right_start h w _ refl))
  where
    P : ℕ → Type 0
    P j = IsRight h w j (slice_get (codes "type octile" ∷ height_line h ∷ width_line w ∷ codes "map" ∷ others) j)

pub fault_in_start : (lines rest others more : List (List ℕ)) (h w : ℕ) → lines ≡ codes "type octile" ∷ rest → rest ≡ height_line h ∷ others → IsSize h
    → others ≡ width_line w ∷ more → IsSize w → slice_get more 0 ≢ Some (codes "map") → IsMapFault lines 4 Map
fault_in_start lines rest others more h w e f high g wide wrong =
    let is : lines ≡ codes "type octile" ∷ height_line h ∷ width_line w ∷ more = cc in
    subst (λ ls. IsMapFault ls 4 Map) (sym is) (record {
      place = 3;
      height = h;
      width = w;
      counted = refl;
      above = three_right h w more high wide;
      here = (refl, wrong);
    })
