use Rattle.std.proofs.Common.{ℕ, ◌≡◌, ◌∷◌, ◌++◌, List, inl, inr, refl, ap, ◌∙◌, sym, arith}
use Rattle.std.specs.Prelude.{slice_get}
use Rattle.std.proofs.lemmas.Bool.Decides.{Decides-eqb}
use Rattle.std.proofs.lemmas.Option.{MatchOption-at_some, MatchOption-at_none, same_Some}
use Rattle.std.proofs.lemmas.Slice.Eq.{strip_prefix_is}
use Rattle.fleet_base.specs.Bytes.{file_lines, numeral}
use Rattle.map_text.proofs.header.read_side.Goals as goal
use Rattle.map_text.proofs.header.read_side.Goals.{then-value-eq0-via-then-value-eq0, then-value-eq0-via-else-value-eq0+then-value-gt-SPAN}

-- a first line that is a label and digits
named : (lines rest : List (List ℕ)) (line label digits : List ℕ) (n : ℕ) → lines ≡ line ∷ rest → line ≡ label ++ digits → digits ≡ numeral n → lines ≡ (label ++ numeral n) ∷ rest
named lines rest line label digits n e f g = e ∙ ap (λ x. x ∷ rest) (f ∙ ap (λ ds. label ++ ds) g)

pub returns-in_default-strip_prefix-clause-err : goal.returns-in_default-strip_prefix-clause-err
returns-in_default-strip_prefix-clause-err c = inl (
  refl,
  λ n e.
      let none = MatchOption-at_none _ _ c.in_default-strip_prefix.is (strip_prefix_is Decides-eqb c.in-Some.line.now c.args.label.now c.strip_prefix.result c.strip_prefix.ensures.cases) in
      none (numeral n) (same_Some _ _ (sym (ap (λ lines. slice_get lines 0) c.in-Some.ensures.some) ∙ e)),
)

pub returns-then-value-eq0-clause-err : goal.returns-then-value-eq0-clause-err
returns-then-value-eq0-clause-err c =
    let cut = MatchOption-at_some _ _ _ c.in-Some-strip_prefix.is (strip_prefix_is Decides-eqb c.in-Some.line.now c.args.label.now c.strip_prefix.result c.strip_prefix.ensures.cases) in
    let found = c.in-Some-capped_number.ensures.some in
    let is = named (file_lines c.args.bytes.now) _ _ _ _ found.0 c.in-Some.ensures.some cut found.1 in
    inr (
      refl,
      (
        found.0,
        ap (λ lines. slice_get lines 0) is,
        λ size.
            elim c.then-value-eq0.branch [
              | then-value-eq0-via-then-value-eq0 w ↦ omega (arith, found.2)
              | then-value-eq0-via-else-value-eq0+then-value-gt-SPAN w ↦ omega (arith, found.2)
            ],
      ),
    )

pub returns-clause-line : goal.returns-clause-line
returns-clause-line c =
    let cut = MatchOption-at_some _ _ _ c.in-Some-strip_prefix.is (strip_prefix_is Decides-eqb c.in-Some.line.now c.args.label.now c.strip_prefix.result c.strip_prefix.ensures.cases) in
    let found = c.in-Some-capped_number.ensures.some in
    let same : found.0 ≡ c.in-Some-capped_number.value = omega (arith, found.2) in
    named (file_lines c.args.bytes.now) _ _ _ _ c.in-Some-capped_number.value c.in-Some.ensures.some cut (found.1 ∙ ap numeral same)
