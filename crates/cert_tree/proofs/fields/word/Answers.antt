use Rattle.std.proofs.Common.{ℕ, ◌≡◌, List, ◌∷◌, sym, ◌∙◌, subst, refl}
use Rattle.std.proofs.lemmas.List.{take_rest}
use Rattle.cert_tree.specs.Reading.{BeginsField}
use Rattle.cert_tree.proofs.Positions.{found, absent, absent_before}
use Rattle.cert_tree.proofs.fields.word.Goals as goal

pub returns-in-Some-clause-word : goal.returns-in-Some-clause-word
returns-in-Some-clause-word c = absent_before 32 c.args.text.now c.in-Some.end (sym c.first_space.ensures ∙ c.in-Some.is)

begins : (xs ys : List ℕ) → xs ≡ 32 ∷ ys → BeginsField xs
begins xs ys e = subst BeginsField (sym e) refl

pub returns-in-Some-clause-rest : goal.returns-in-Some-clause-rest
returns-in-Some-clause-rest c = begins _ _ (take_rest c.args.text.now c.in-Some.end ∙ found 32 c.args.text.now c.in-Some.end (sym c.first_space.ensures ∙ c.in-Some.is))

pub returns-in-None-clause-word : goal.returns-in-None-clause-word
returns-in-None-clause-word c = absent 32 c.args.text.now (sym c.first_space.ensures ∙ c.in-None.is)
