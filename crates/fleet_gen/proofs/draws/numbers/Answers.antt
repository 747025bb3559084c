use Rattle.std.proofs.Common.{ℕ, List, [], ◌∷◌, ◌++◌, sym, ap, ◌∙◌}
use Rattle.fleet_gen.proofs.Drawing.{numbers_more}
use Rattle.fleet_gen.proofs.draws.numbers.Goals as goal

pub loop-number-preserved : goal.loop-number-preserved
loop-number-preserved c = c.in_ok-append.ensures ∙ (ap (λ (xs : List ℕ). xs ++ c.loop-number.number ∷ []) c.loop-number.invariant ∙ sym (numbers_more c.loop-number.number))
