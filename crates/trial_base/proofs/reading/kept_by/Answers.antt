use Rattle.std.proofs.Common.{◌≡◌, ◌⊎◌, inl, inr, None, Some, ℕ, Option, ◌+◌, ◌<◌, List, [], ◌∷◌, ◌++◌, length, take, get_or, filter_map, refl, sym, ap, ◌∙◌}
use Rattle.std.specs.List.{last_or, cons_option}
use Rattle.std.proofs.lemmas.List.{take_more, append-nil}
use Rattle.std.proofs.lemmas.List.Elements.{filter_map-append}
use Rattle.report_text.specs.declared.answer.Answer.{Answer}
use Rattle.report_text.specs.declared.answer.Answer.TheVariants.{Ready, Release, Optimal, Spent, Switch, Done, Known, Refused}
use Rattle.trial_base.specs.Kept.{count_in}
use Rattle.trial_base.proofs.reading.kept_by.Goals as goal
use Rattle.trial_base.proofs.reading.kept_by.Goals.{in_default, in-Ready, in-Ready-2}

last_more : (kept : Option ℕ) (counts : List ℕ) (n : ℕ) → last_or kept (counts ++ n ∷ []) ≡ Some n
last_more kept [] n = refl
last_more kept (c ∷ counts) n = last_more (Some c) counts n

-- the numbers after one more answer
counts_more : (answers : List Answer) (i : ℕ) (d : Answer) → i < length answers
    → filter_map count_in (take (i + 1) answers) ≡ filter_map count_in (take i answers) ++ cons_option (count_in (get_or answers i d)) []
counts_more answers i d lt = ap (filter_map count_in) (take_more answers i d lt) ∙ filter_map-append count_in (take i answers) (get_or answers i d ∷ [])

said : (answers : List Answer) (i : ℕ) (d : Answer) (n : ℕ) → i < length answers → count_in (get_or answers i d) ≡ Some n
    → Some n ≡ last_or None (filter_map count_in (take (i + 1) answers))
said answers i d n lt e =
    let counts = filter_map count_in (take i answers) in
    sym (ap (last_or None) (counts_more answers i d lt ∙ ap (λ (c : Option ℕ). counts ++ cons_option c []) e) ∙ last_more None counts n)

silent : (answers : List Answer) (i : ℕ) (d : Answer) → i < length answers → count_in (get_or answers i d) ≡ None
    → last_or None (filter_map count_in (take i answers)) ≡ last_or None (filter_map count_in (take (i + 1) answers))
silent answers i d lt e =
    let counts = filter_map count_in (take i answers) in
    sym (ap (last_or None) (counts_more answers i d lt ∙ ap (λ (c : Option ℕ). counts ++ cons_option c []) e ∙ append-nil counts))

neither : (a : Answer) → ((n : ℕ) → a ≡ Ready n → ⊥) → ((n : ℕ) → a ≡ Done n → ⊥) → count_in a ≡ None
neither (Ready n) r d = absurd (r n refl)
neither (Release visit cell) r d = refl
neither (Optimal cost) r d = refl
neither (Spent cost least) r d = refl
neither (Switch pair) r d = refl
neither (Done n) r d = absurd (d n refl)
neither Known r d = refl
neither (Refused why) r d = refl

either : (a : Answer) (n : ℕ) → (a ≡ Ready n) ⊎ (a ≡ Done n) → count_in a ≡ Some n
either a n (inl is) = ap count_in is
either a n (inr is) = ap count_in is

pub loop-answer-preserved : goal.loop-answer-preserved
loop-answer-preserved c = elim c.match-answer.branch [
  | in_default w ↦ w.kept-is ∙ c.loop-answer.invariant ∙ silent c.args.answers.now c.loop-answer.answer-index (Ready 0) c.loop-answer-test.true (neither _ w.in_default.not-Ready w.in_default.not-Done)
  | in-Ready w ↦ w.kept-is ∙ said c.args.answers.now c.loop-answer.answer-index (Ready 0) w.in-Ready.count c.loop-answer-test.true (either _ _ w.in-Ready.is)
  | in-Ready-2 w ↦ w.kept-is ∙ said c.args.answers.now c.loop-answer.answer-index (Ready 0) w.in-Ready.count c.loop-answer-test.true (either _ _ w.in-Ready.is)
]
