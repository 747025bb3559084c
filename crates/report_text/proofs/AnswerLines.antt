-- Answer lines as words and numbers.
use Rattle.std.proofs.Common.{ℕ, ◌≡◌, List, [], ◌∷◌, ◌++◌, refl, sym, ◌∙◌, subst, append_assoc}
use Rattle.std.specs.Prelude.{codes, Option, None, Some, IfSome, IfNone}
use Rattle.std.specs.Option.{option_or}
use Rattle.std.proofs.lemmas.List.{append-nil}
use Rattle.fleet_base.specs.declared.geometry.Cell.{Cell}
use Rattle.fleet_base.specs.declared.geometry.Visit.{Visit}
use Rattle.fleet_base.specs.declared.order.PairId.{PairId}
use Rattle.fleet_base.specs.declared.report.Why.{Why}
use Rattle.report_text.specs.declared.answer.Answer.{Answer}
use Rattle.report_text.specs.declared.answer.Answer.TheVariants.{Ready, Release, Optimal, Spent, Switch, Done, Known, Refused}
use Rattle.report_text.specs.AnswerLine.{answer_line, IsAnswerLine, word_of}
use Rattle.report_text.specs.Reading.{spelled}

pub ready_is : (count : ℕ) → answer_line (Ready count) ≡ spelled (codes "ready") (count ∷ [])
ready_is count = simp append-nil

pub release_is : (visit : Visit) (cell : Cell) → answer_line (Release visit cell) ≡ spelled (codes "release") (visit.robot ∷ visit.index ∷ cell.row ∷ cell.col ∷ [])
release_is visit cell = simp (append_assoc, append-nil)

pub optimal_is : (cost : ℕ) → answer_line (Optimal cost) ≡ spelled (codes "order optimal") (cost ∷ [])
optimal_is cost = simp append-nil

pub spent_is : (cost least : ℕ) → answer_line (Spent cost least) ≡ spelled (codes "order spent") (cost ∷ least ∷ [])
spent_is cost least = simp (append_assoc, append-nil)

pub switch_is : (pair : PairId) → answer_line (Switch pair) ≡ spelled (codes "switch") (pair.0 ∷ [])
switch_is pair = simp append-nil

pub done_is : (count : ℕ) → answer_line (Done count) ≡ spelled (codes "ok") (count ∷ [])
done_is count = simp append-nil

pub known_is : answer_line Known ≡ spelled (codes "known") []
known_is = refl

pub refused_is : (why : Why) → answer_line (Refused why) ≡ spelled (codes "refused " ++ word_of why) []
refused_is why = sym (append-nil (codes "refused " ++ word_of why))

-- ---- one answer a line

-- what each kind of answer rules out, together
pub no_answer : (line : List ℕ)
    → ((count : ℕ) → IsAnswerLine line (Ready count) → ⊥)
    → ((visit : Visit) (cell : Cell) → IsAnswerLine line (Release visit cell) → ⊥)
    → ((cost : ℕ) → IsAnswerLine line (Optimal cost) → ⊥)
    → ((cost least : ℕ) → IsAnswerLine line (Spent cost least) → ⊥)
    → ((pair : PairId) → IsAnswerLine line (Switch pair) → ⊥)
    → ((count : ℕ) → IsAnswerLine line (Done count) → ⊥)
    → (IsAnswerLine line Known → ⊥)
    → ((why : Why) → IsAnswerLine line (Refused why) → ⊥)
    → (answer : Answer) → IsAnswerLine line answer → ⊥
no_answer line ready release optimal spent switch done known refused (Ready count) is = ready count is
no_answer line ready release optimal spent switch done known refused (Release visit cell) is = release visit cell is
no_answer line ready release optimal spent switch done known refused (Optimal cost) is = optimal cost is
no_answer line ready release optimal spent switch done known refused (Spent cost least) is = spent cost least is
no_answer line ready release optimal spent switch done known refused (Switch pair) is = switch pair is
no_answer line ready release optimal spent switch done known refused (Done count) is = done count is
no_answer line ready release optimal spent switch done known refused Known is = known is
no_answer line ready release optimal spent switch done known refused (Refused why) is = refused why is

-- what a choice of two says where it is none
pub both_none : (o p r : Option Answer) → r ≡ option_or o p → r ≡ None → (o ≡ None) × (p ≡ None)
both_none None p r is e = (refl, sym is ∙ e)
both_none (Some x) p r is e = cc

pub if_none : (r : Option Answer) (P : Type 0) → (r ≡ None → P) → IfNone r P
if_none None P h = h refl
if_none (Some x) P h = tt

pub none_there : (o : Option Answer) (P : Type 0) → o ≡ None → IfNone o P → P
none_there None P e h = h
none_there (Some x) P e h = cc

pub either_found : (P : Answer → Type 0) (o p r : Option Answer) → r ≡ option_or o p → IfSome o P → IfSome p P → IfSome r P
either_found P None p r is a b = subst (λ (q : Option Answer). IfSome q P) (sym is) b
either_found P (Some x) p r is a b = subst (λ (q : Option Answer). IfSome q P) (sym is) a
