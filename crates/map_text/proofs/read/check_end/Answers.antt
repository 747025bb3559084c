use Rattle.std.proofs.Common.{ℕ, ◌≡◌, ◌≢◌, List, [], length, eqb, true, false, sym, ap, ◌∙◌}
use Rattle.std.proofs.lemmas.Bool.{eqb-true, false≢true}
use Rattle.std.proofs.lemmas.List.{nil_from_length}
use Rattle.map_text.proofs.BlankLines.{more_blank, all_blank, blank_fault}
use Rattle.map_text.proofs.read.check_end.Goals as goal

-- what the test says
empty : (line : List ℕ) → true ≡ eqb (length line) 0 → line ≡ []
empty line e = nil_from_length line (eqb-true _ _ (sym e))

not_empty : (line : List ℕ) → false ≡ eqb (length line) 0 → line ≢ []
not_empty line e f = false≢true (e ∙ ap (λ text. eqb (length text) 0) f)

pub returns-then-not-is_empty-clause-err : goal.returns-then-not-is_empty-clause-err
returns-then-not-is_empty-clause-err c =
    blank_fault c.in-Some.line.now _ c.loop-line.invariant c.in-Some.ensures.some (not_empty _ c.if-not-is_empty.ensures)

pub loop-line-preserved : goal.loop-line-preserved
loop-line-preserved c =
    more_blank c.in-Some.line.now _ c.loop-line.invariant c.in-Some.ensures.some (empty _ c.if-not-is_empty.ensures)

pub returns-clause-ok : goal.returns-clause-ok
returns-clause-ok c = all_blank c.loop-line.invariant c.in_default.ensures.none
