use Rattle.std.proofs.Common.{◌∷◌, ◌∙◌, ap, List, ℕ}
use Rattle.cert_tree.proofs.FieldLaws.{word_not_taken}
use Rattle.cert_tree.proofs.fields.number.Goals as goal

pub returns-in_err-read_number-clause-none : goal.returns-in_err-read_number-clause-none
returns-in_err-read_number-clause-none c =
    rw c.from_residual-in_err-read_number.ensures
    (word_not_taken c.args.text.now c.word.result.0.now c.word.result.1.now (c.in_ok-behind.ensures.some ∙ ap (λ (l : List ℕ). 32 ∷ l) c.word.ensures.parts) c.word.ensures.word c.word.ensures.rest c.in_err-read_number.ensures.none)
