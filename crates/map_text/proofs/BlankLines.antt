-- The empty lines after the rows.
use Rattle.std.proofs.Common.{ℕ, ◌≡◌, ◌≢◌, ◌+◌, ◌-◌, ◌<◌, ◌≤◌, List, [], ◌∷◌, drop, Option, Some, None, refl, sym, ap, ◌∙◌, subst, ⊎_elim, below_none, below_more, arith}
use Rattle.std.specs.Prelude.{slice_get, IfSome, IsSomeAnd}
use Rattle.std.proofs.lemmas.Bool.{cases_lt}
use Rattle.std.proofs.lemmas.List.{drop-drop}
use Rattle.map_text.specs.declared.fault.MapKind.TheVariants.{More}
use Rattle.map_text.specs.RowFaults.{AreBlank, IsBlankFault}
use Rattle.map_text.proofs.TakenRows.{slice_get-drop}

-- a line that is empty, or none
abbrev pub IsBlank : Option (List ℕ) → Type 0
IsBlank line = IfSome line (λ text. text ≡ [])

-- the lines up to this number are empty, and the rest is left
pub record TakenBlank (above number : ℕ) (lines rest : List (List ℕ)) : Type 0 where
  pub taken : ℕ
  pub counted : number ≡ above + taken
  pub blank : (r : ℕ) → r < taken → IsBlank (slice_get lines r)
  pub left : drop taken lines ≡ rest

pub none_blank : (above : ℕ) (lines : List (List ℕ)) → TakenBlank above above lines lines
none_blank above lines = record {
  taken = 0;
  counted = omega arith;
  blank = below_none _;
  left = refl;
}

-- what stands where the rest begins
next_line : (n : ℕ) (lines : List (List ℕ)) (line : List ℕ) (rest : List (List ℕ)) → drop n lines ≡ line ∷ rest → slice_get lines n ≡ Some line
next_line n lines line rest e = ap (slice_get lines) (omega arith) ∙ sym (slice_get-drop n lines 0) ∙ ap (λ ls. slice_get ls 0) e

pub more_blank : {above number : ℕ} {lines rest : List (List ℕ)} (line : List ℕ) (after : List (List ℕ)) → TakenBlank above number lines rest → rest ≡ line ∷ after → line ≡ [] → TakenBlank above (number + 1) lines after
more_blank {above} {number} {lines} {rest} line after so e empty =
    let next : drop so.taken lines ≡ line ∷ after = so.left ∙ e in
    record {
      taken = so.taken + 1;
      counted = omega (arith, so.counted);
      blank = below_more (λ r. IsBlank (slice_get lines r)) so.taken so.blank (subst IsBlank (sym (next_line so.taken lines line after next)) empty);
      left = sym (drop-drop 1 so.taken lines) ∙ ap (drop 1) next;
    }

pub all_blank : {above number : ℕ} {lines rest : List (List ℕ)} → TakenBlank above number lines rest → rest ≡ [] → AreBlank lines
all_blank {above} {number} {lines} {rest} so e r = ⊎_elim (so.blank r) past (cases_lt r so.taken)
  where
    past : so.taken ≤ r → IsBlank (slice_get lines r)
    past after =
        let there : slice_get lines r ≡ None = ap (slice_get lines) (omega arith) ∙ sym (slice_get-drop so.taken lines (r - so.taken)) ∙ ap (λ ls. slice_get ls (r - so.taken)) (so.left ∙ e) in
        subst IsBlank (sym there) tt

pub blank_fault : {above number : ℕ} {lines rest : List (List ℕ)} (line : List ℕ) (after : List (List ℕ)) → TakenBlank above number lines rest → rest ≡ line ∷ after → line ≢ [] → IsBlankFault above lines (number + 1) More
blank_fault {above} {number} {lines} {rest} line after so e some = record {
  place = so.taken;
  counted = omega (arith, so.counted);
  blank = so.blank;
  here = subst (λ there. IsSomeAnd there (λ text. text ≢ [])) (sym (next_line so.taken lines line after (so.left ∙ e))) some;
  more = refl;
}
