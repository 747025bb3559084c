-- What is found in the words of `check` and of `run` is what the words give, and other words are refused.
use Rattle.std.proofs.Common.{◌≡◌, ◌∙◌, ◌≤◌, inl, inr, refl, sym, ap, subst, arith, ℕ, Bool, false, List, [], ◌∷◌, codes, length, Option, Some}
use Rattle.std.specs.Prelude.{flat_map}
use Rattle.clap.specs.Walk.{Row, Text, first_of, one_of, with_default}
use Rattle.clap.specs.Simple.{matches_of}
use Rattle.clap.specs.Faults.{fault_of}
use Rattle.clap.specs.Matches.{first_value}
use Rattle.clap.specs.Walk.{rows_of}
use Rattle.clap.specs.declared.parser.matches.Found.{Found}
use Rattle.command_words.specs.Arguments.{IsFoundCheck, IsFoundRun, check_app, run_app}
use Rattle.command_words.specs.Commands.{IsCheck, IsCommand, IsRun, IsUsage, check_grammar, run_grammar}
use Rattle.command_words.specs.declared.command.Command.{Command}
use Rattle.command_words.specs.declared.command.Command.TheVariants.{Check, Run, Gen, Plan}
use Rattle.command_words.specs.Telling.{AreKnown}
use Rattle.command_words.specs.Grammar.{Part, words_of, AreParts, AreOnce, names_in, keys_in, value_in, is_given, IsNumberOr}
use Rattle.command_words.proofs.Steps.{flag_rule, name_rule}
use Rattle.command_words.proofs.Matching.{rows_in}
use Rattle.command_words.proofs.Values.{named, flag_text, texts_differ, value_is, name_is, flag_is, other_kept}
use Rattle.command_words.proofs.Whole.{words_give, words_found, parts_known}
use Rattle.command_words.proofs.Apps.{check_is, check_ids, check_rules, run_is, run_ids, run_rules}
use Rattle.command_words.proofs.FirstWord.{option_plain, name_plain, value_rows, flag_rows, flag_decides, tail_is, first_is, some_same, one_number, flag_same, two_names}

-- ---- `check`

-- what is found in the words `check` and these parts
pub record CheckFinds (ps : List Part) (words : List Text) : Type 0 where
  pub passes : fault_of check_app words ≡ []
  pub map_is : first_of (codes "map") (matches_of check_app words) ≡ named check_ids (names_in ps) (codes "map")
  pub plan_is : first_of (codes "plan") (matches_of check_app words) ≡ named check_ids (names_in ps) (codes "plan")

pub check_finds : (ps : List Part) → AreParts check_grammar ps → AreOnce (keys_in ps) → length (names_in ps) ≤ 2 → CheckFinds ps (codes "check" ∷ flat_map words_of ps)
check_finds ps parts once few =
    let g = words_give check_app (codes "check") check_grammar check_rules check_ids check_is (codes "check") ps parts once few in
    let rows = rows_in check_ids ps in
    let all : matches_of check_app (codes "check" ∷ flat_map words_of ps) ≡ rows =
    g.matches ∙ name_plain (codes "plan") 2 (with_default rows (name_rule (codes "map") 1)) ∙ name_plain (codes "map") 1 rows in
    record {
      passes = g.passes;
      map_is = ap (λ (r : List Row). first_of (codes "map") r) all ∙ name_is check_grammar (codes "map") check_ids ps parts (λ m. m) (λ m. m);
      plan_is = ap (λ (r : List Row). first_of (codes "plan") r) all ∙ name_is check_grammar (codes "plan") check_ids ps parts (λ m. m) (λ m. m);
    }

-- ---- `run`

pub record RunFinds (ps : List Part) (words : List Text) : Type 0 where
  pub passes : fault_of run_app words ≡ []
  pub map_is : first_of (codes "map") (matches_of run_app words) ≡ named run_ids (names_in ps) (codes "map")
  pub plan_is : first_of (codes "plan") (matches_of run_app words) ≡ named run_ids (names_in ps) (codes "plan")
  pub journal_is : first_of (codes "journal") (matches_of run_app words) ≡ named run_ids (names_in ps) (codes "journal")
  pub budget_is : first_of (codes "budget") (matches_of run_app words) ≡ value_in (codes "budget") ps
  pub quiet_is : one_of (codes "quiet") (matches_of run_app words) ≡ Some (flag_text (is_given (codes "quiet") ps))

pub run_finds : (ps : List Part) → AreParts run_grammar ps → AreOnce (keys_in ps) → length (names_in ps) ≤ 3 → RunFinds ps (codes "run" ∷ flat_map words_of ps)
run_finds ps parts once few =
    let g = words_give run_app (codes "run") run_grammar run_rules run_ids run_is (codes "run") ps parts once few in
    let rows = rows_in run_ids ps in
    let quiet = with_default rows (flag_rule (codes "quiet")) in
    let all : matches_of run_app (codes "run" ∷ flat_map words_of ps) ≡ quiet =
    g.matches ∙ name_plain (codes "journal") 3 _ ∙ name_plain (codes "plan") 2 _ ∙ name_plain (codes "map") 1 _ ∙ ap (λ (r : List Row). with_default r (flag_rule (codes "quiet"))) (option_plain (codes "budget") rows) in
    let one : (key : Text) → Rattle.std.specs.Prelude.bytes_eq (codes "quiet") key ≡ false → first_of key (matches_of run_app (codes "run" ∷ flat_map words_of ps)) ≡ first_of key rows =
    λ key e. ap (λ (r : List Row). first_of key r) all ∙ other_kept key (codes "quiet") rows e in
    record {
      passes = g.passes;
      map_is = one (codes "map") refl ∙ name_is run_grammar (codes "map") run_ids ps parts (λ m. elim m [ inl e ↦ cc | inr z ↦ z ]) (λ m. elim m [ inl e ↦ cc | inr z ↦ z ]);
      plan_is = one (codes "plan") refl ∙ name_is run_grammar (codes "plan") run_ids ps parts (λ m. elim m [ inl e ↦ cc | inr z ↦ z ]) (λ m. elim m [ inl e ↦ cc | inr z ↦ z ]);
      journal_is = one (codes "journal") refl ∙ name_is run_grammar (codes "journal") run_ids ps parts (λ m. elim m [ inl e ↦ cc | inr z ↦ z ]) (λ m. elim m [ inl e ↦ cc | inr z ↦ z ]);
      budget_is = one (codes "budget") refl ∙ value_is run_grammar (codes "budget") run_ids ps parts (λ m. elim m [ inl e ↦ cc | inr n ↦ elim n [ inl e ↦ cc | inr o ↦ elim o [ inl e ↦ cc | inr z ↦ z ] ] ]) (λ m. elim m [ inl e ↦ cc | inr z ↦ z ]) few;
      quiet_is = ap (λ (r : List Row). one_of (codes "quiet") r) all ∙ flag_is run_grammar (codes "quiet") run_ids ps parts (λ m. elim m [ inl e ↦ cc | inr n ↦ elim n [ inl e ↦ cc | inr o ↦ elim o [ inl e ↦ cc | inr z ↦ z ] ] ]) (λ m. elim m [ inl e ↦ cc | inr z ↦ z ]) few refl;
    }

-- ---- names

pub three_names : (ws : List Text) (m p j : Text) → length ws ≤ 3 → named run_ids ws (codes "map") ≡ Some m → named run_ids ws (codes "plan") ≡ Some p → named run_ids ws (codes "journal") ≡ Some j → ws ≡ m ∷ p ∷ j ∷ []
three_names [] m p j few a b c = cc
three_names (w ∷ []) m p j few a b c = cc
three_names (w ∷ x ∷ []) m p j few a b c = cc
three_names (w ∷ x ∷ y ∷ []) m p j few a b c = cc
three_names (w ∷ x ∷ y ∷ z ∷ ws) m p j few a b c = absurd (omega (arith, few))

-- ---- what is found is what the words give

pub run_sound : (rest : List Text) (f : Found) (command : Command) → AreKnown run_grammar rest → fault_of run_app (codes "run" ∷ rest) ≡ [] → rows_of f ≡ matches_of run_app (codes "run" ∷ rest) → IsFoundRun f command → IsCommand (codes "run" ∷ rest) command
run_sound rest f (Check m p) known passes rows is = absurd is
run_sound rest f (Gen seed plan) known passes rows is = absurd is
run_sound rest f (Plan m s robots horizon) known passes rows is = absurd is
run_sound rest f (Run m p j budget quiet) known passes rows is =
    let r = words_found run_app (codes "run") run_grammar run_rules run_ids run_is (codes "run") rest known passes in
    let finds = run_finds r.parts r.each r.once r.few in
    let same : rows_of f ≡ matches_of run_app (codes "run" ∷ flat_map words_of r.parts) = rows ∙ ap (λ (l : List Text). matches_of run_app (codes "run" ∷ l)) r.are in
    record {
      parts = r.parts;
      written = record {
        words_are = ap (λ (l : List Text). codes "run" ∷ l) r.are;
        are_parts = r.each;
        once = r.once;
        names_are = three_names (names_in r.parts) m.now p.now j.now r.few
            (sym finds.map_is ∙ sym (value_rows f _ (codes "map") same) ∙ is.0) (sym finds.plan_is ∙ sym (value_rows f _ (codes "plan") same) ∙ is.1) (sym finds.journal_is ∙ sym (value_rows f _ (codes "journal") same) ∙ is.2);
      };
      budget_is = subst (λ (o : Option Text). IsNumberOr 128 0 4096 o budget) (value_rows f _ (codes "budget") same ∙ finds.budget_is) is.3;
      quiet_is = flag_decides f (codes "quiet") (is_given (codes "quiet") r.parts) quiet (flag_rows f _ (codes "quiet") same ∙ finds.quiet_is) is.4;
    }

pub check_sound : (rest : List Text) (f : Found) (command : Command) → AreKnown check_grammar rest → fault_of check_app (codes "check" ∷ rest) ≡ [] → rows_of f ≡ matches_of check_app (codes "check" ∷ rest) → IsFoundCheck f command → IsCommand (codes "check" ∷ rest) command
check_sound rest f (Run m p j budget quiet) known passes rows is = absurd is
check_sound rest f (Gen seed plan) known passes rows is = absurd is
check_sound rest f (Plan m s robots horizon) known passes rows is = absurd is
check_sound rest f (Check m p) known passes rows is =
    let r = words_found check_app (codes "check") check_grammar check_rules check_ids check_is (codes "check") rest known passes in
    let finds = check_finds r.parts r.each r.once r.few in
    let same : rows_of f ≡ matches_of check_app (codes "check" ∷ flat_map words_of r.parts) = rows ∙ ap (λ (l : List Text). matches_of check_app (codes "check" ∷ l)) r.are in
    record {
      parts = r.parts;
      written = record {
        words_are = ap (λ (l : List Text). codes "check" ∷ l) r.are;
        are_parts = r.each;
        once = r.once;
        names_are = two_names (codes "map") (codes "plan") (names_in r.parts) m.now p.now refl refl refl r.few
            (sym finds.map_is ∙ sym (value_rows f _ (codes "map") same) ∙ is.0) (sym finds.plan_is ∙ sym (value_rows f _ (codes "plan") same) ∙ is.1);
      };
    }

-- ---- what the words give is found

-- words of a `run` are known and pass, and each of them is found
pub run_known : (rest : List Text) (m p j : Text) (budget : ℕ) (quiet : Bool) → IsRun (codes "run" ∷ rest) m p j budget quiet → AreKnown run_grammar rest
run_known rest m p j budget quiet is =
    subst (AreKnown run_grammar) (sym (tail_is (codes "run") (codes "run") rest (flat_map words_of is.parts) is.written.words_are)) (parts_known run_grammar is.parts is.written.are_parts)

pub run_passes : (rest : List Text) (m p j : Text) (budget : ℕ) (quiet : Bool) → (is : IsRun (codes "run" ∷ rest) m p j budget quiet) → RunFinds is.parts (codes "run" ∷ rest)
run_passes rest m p j budget quiet is =
    subst (λ (l : List Text). RunFinds is.parts (codes "run" ∷ l)) (sym (tail_is (codes "run") (codes "run") rest (flat_map words_of is.parts) is.written.words_are))
    (run_finds is.parts is.written.are_parts is.written.once (subst (λ (l : List Text). length l ≤ 3) (sym is.written.names_are) (omega arith)))

pub check_known : (rest : List Text) (m p : Text) → IsCheck (codes "check" ∷ rest) m p → AreKnown check_grammar rest
check_known rest m p is =
    subst (AreKnown check_grammar) (sym (tail_is (codes "check") (codes "check") rest (flat_map words_of is.parts) is.written.words_are)) (parts_known check_grammar is.parts is.written.are_parts)

pub check_passes : (rest : List Text) (m p : Text) → (is : IsCheck (codes "check" ∷ rest) m p) → CheckFinds is.parts (codes "check" ∷ rest)
check_passes rest m p is =
    subst (λ (l : List Text). CheckFinds is.parts (codes "check" ∷ l)) (sym (tail_is (codes "check") (codes "check") rest (flat_map words_of is.parts) is.written.words_are))
    (check_finds is.parts is.written.are_parts is.written.once (subst (λ (l : List Text). length l ≤ 2) (sym is.written.names_are) (omega arith)))

-- ---- words that are refused

pub run_unknown : (rest : List Text) → (AreKnown run_grammar rest → ⊥) → IsUsage (codes "run" ∷ rest)
run_unknown rest bad (Check m p) is = texts_differ (codes "run") (codes "check") refl (first_is (codes "run") rest (Check m p) is)
run_unknown rest bad (Gen seed plan) is = texts_differ (codes "run") (codes "gen") refl (first_is (codes "run") rest (Gen seed plan) is)
run_unknown rest bad (Plan m s robots horizon) is = texts_differ (codes "run") (codes "plan") refl (first_is (codes "run") rest (Plan m s robots horizon) is)
run_unknown rest bad (Run m p j budget quiet) is = bad (run_known rest m.now p.now j.now budget quiet is)

pub run_refused : (rest : List Text) → (fault_of run_app (codes "run" ∷ rest) ≡ [] → ⊥) → IsUsage (codes "run" ∷ rest)
run_refused rest bad (Check m p) is = texts_differ (codes "run") (codes "check") refl (first_is (codes "run") rest (Check m p) is)
run_refused rest bad (Gen seed plan) is = texts_differ (codes "run") (codes "gen") refl (first_is (codes "run") rest (Gen seed plan) is)
run_refused rest bad (Plan m s robots horizon) is = texts_differ (codes "run") (codes "plan") refl (first_is (codes "run") rest (Plan m s robots horizon) is)
run_refused rest bad (Run m p j budget quiet) is = bad (run_passes rest m.now p.now j.now budget quiet is).passes

pub run_lacking : (rest : List Text) (f : Found) → rows_of f ≡ matches_of run_app (codes "run" ∷ rest)
    → ((m p j : Text) (n : ℕ) → first_value f (codes "map") ≡ Some m → first_value f (codes "plan") ≡ Some p → first_value f (codes "journal") ≡ Some j → IsNumberOr 128 0 4096 (first_value f (codes "budget")) n → ⊥) → IsUsage (codes "run" ∷ rest)
run_lacking rest f rows lacks (Check m p) is = texts_differ (codes "run") (codes "check") refl (first_is (codes "run") rest (Check m p) is)
run_lacking rest f rows lacks (Gen seed plan) is = texts_differ (codes "run") (codes "gen") refl (first_is (codes "run") rest (Gen seed plan) is)
run_lacking rest f rows lacks (Plan m s robots horizon) is = texts_differ (codes "run") (codes "plan") refl (first_is (codes "run") rest (Plan m s robots horizon) is)
run_lacking rest f rows lacks (Run m p j budget quiet) is =
    let finds = run_passes rest m.now p.now j.now budget quiet is in
    let name_at : (id : Text) → named run_ids (names_in is.parts) id ≡ named run_ids (m.now ∷ p.now ∷ j.now ∷ []) id = λ id. ap (λ (l : List Text). named run_ids l id) is.written.names_are in
    lacks m.now p.now j.now budget (value_rows f _ (codes "map") rows ∙ finds.map_is ∙ name_at (codes "map")) (value_rows f _ (codes "plan") rows ∙ finds.plan_is ∙ name_at (codes "plan"))
    (value_rows f _ (codes "journal") rows ∙ finds.journal_is ∙ name_at (codes "journal")) (subst (λ (o : Option Text). IsNumberOr 128 0 4096 o budget) (sym (value_rows f _ (codes "budget") rows ∙ finds.budget_is)) is.budget_is)

pub check_unknown : (rest : List Text) → (AreKnown check_grammar rest → ⊥) → IsUsage (codes "check" ∷ rest)
check_unknown rest bad (Run m p j budget quiet) is = texts_differ (codes "check") (codes "run") refl (first_is (codes "check") rest (Run m p j budget quiet) is)
check_unknown rest bad (Gen seed plan) is = texts_differ (codes "check") (codes "gen") refl (first_is (codes "check") rest (Gen seed plan) is)
check_unknown rest bad (Plan m s robots horizon) is = texts_differ (codes "check") (codes "plan") refl (first_is (codes "check") rest (Plan m s robots horizon) is)
check_unknown rest bad (Check m p) is = bad (check_known rest m.now p.now is)

pub check_refused : (rest : List Text) → (fault_of check_app (codes "check" ∷ rest) ≡ [] → ⊥) → IsUsage (codes "check" ∷ rest)
check_refused rest bad (Run m p j budget quiet) is = texts_differ (codes "check") (codes "run") refl (first_is (codes "check") rest (Run m p j budget quiet) is)
check_refused rest bad (Gen seed plan) is = texts_differ (codes "check") (codes "gen") refl (first_is (codes "check") rest (Gen seed plan) is)
check_refused rest bad (Plan m s robots horizon) is = texts_differ (codes "check") (codes "plan") refl (first_is (codes "check") rest (Plan m s robots horizon) is)
check_refused rest bad (Check m p) is = bad (check_passes rest m.now p.now is).passes

pub check_lacking : (rest : List Text) (f : Found) → rows_of f ≡ matches_of check_app (codes "check" ∷ rest)
    → ((m p : Text) → first_value f (codes "map") ≡ Some m → first_value f (codes "plan") ≡ Some p → ⊥) → IsUsage (codes "check" ∷ rest)
check_lacking rest f rows lacks (Run m p j budget quiet) is = texts_differ (codes "check") (codes "run") refl (first_is (codes "check") rest (Run m p j budget quiet) is)
check_lacking rest f rows lacks (Gen seed plan) is = texts_differ (codes "check") (codes "gen") refl (first_is (codes "check") rest (Gen seed plan) is)
check_lacking rest f rows lacks (Plan m s robots horizon) is = texts_differ (codes "check") (codes "plan") refl (first_is (codes "check") rest (Plan m s robots horizon) is)
check_lacking rest f rows lacks (Check m p) is =
    let finds = check_passes rest m.now p.now is in
    let name_at : (id : Text) → named check_ids (names_in is.parts) id ≡ named check_ids (m.now ∷ p.now ∷ []) id = λ id. ap (λ (l : List Text). named check_ids l id) is.written.names_are in
    lacks m.now p.now (value_rows f _ (codes "map") rows ∙ finds.map_is ∙ name_at (codes "map")) (value_rows f _ (codes "plan") rows ∙ finds.plan_is ∙ name_at (codes "plan"))

-- ---- one command

run_one : (rest : List Text) (m p j m2 p2 j2 : Text) (n n2 : ℕ) (q q2 : Bool) → IsRun (codes "run" ∷ rest) m p j n q → IsRun (codes "run" ∷ rest) m2 p2 j2 n2 q2 → (m ≡ m2) × (p ≡ p2) × (j ≡ j2) × (n ≡ n2) × (q ≡ q2)
run_one rest m p j m2 p2 j2 n n2 q q2 x y =
    let a = run_passes rest m p j n q x in
    let b = run_passes rest m2 p2 j2 n2 q2 y in
    let name_a : (id : Text) → named run_ids (names_in x.parts) id ≡ named run_ids (m ∷ p ∷ j ∷ []) id = λ id. ap (λ (l : List Text). named run_ids l id) x.written.names_are in
    let name_b : (id : Text) → named run_ids (names_in y.parts) id ≡ named run_ids (m2 ∷ p2 ∷ j2 ∷ []) id = λ id. ap (λ (l : List Text). named run_ids l id) y.written.names_are in (
      some_same m m2 (sym (name_a (codes "map")) ∙ sym a.map_is ∙ b.map_is ∙ name_b (codes "map")),
      some_same p p2 (sym (name_a (codes "plan")) ∙ sym a.plan_is ∙ b.plan_is ∙ name_b (codes "plan")),
      some_same j j2 (sym (name_a (codes "journal")) ∙ sym a.journal_is ∙ b.journal_is ∙ name_b (codes "journal")),
      one_number 128 0 4096 n n2 (value_in (codes "budget") y.parts) (subst (λ (o : Option Text). IsNumberOr 128 0 4096 o n) (sym a.budget_is ∙ b.budget_is) x.budget_is) y.budget_is,
      x.quiet_is ∙ flag_same (is_given (codes "quiet") x.parts) (is_given (codes "quiet") y.parts) (sym a.quiet_is ∙ b.quiet_is) ∙ sym y.quiet_is,
    )

pub same_run : (words : List Text) (m p j m2 p2 j2 : Text) (n n2 : ℕ) (q q2 : Bool) → IsRun words m p j n q → IsRun words m2 p2 j2 n2 q2 → (m ≡ m2) × (p ≡ p2) × (j ≡ j2) × (n ≡ n2) × (q ≡ q2)
same_run words m p j m2 p2 j2 n n2 q q2 x y =
    let e = x.written.words_are in
    run_one (flat_map words_of x.parts) m p j m2 p2 j2 n n2 q q2 (subst (λ (l : List Text). IsRun l m p j n q) e x) (subst (λ (l : List Text). IsRun l m2 p2 j2 n2 q2) e y)

check_one : (rest : List Text) (m p m2 p2 : Text) → IsCheck (codes "check" ∷ rest) m p → IsCheck (codes "check" ∷ rest) m2 p2 → (m ≡ m2) × (p ≡ p2)
check_one rest m p m2 p2 x y =
    let a = check_passes rest m p x in
    let b = check_passes rest m2 p2 y in
    let name_a : (id : Text) → named check_ids (names_in x.parts) id ≡ named check_ids (m ∷ p ∷ []) id = λ id. ap (λ (l : List Text). named check_ids l id) x.written.names_are in
    let name_b : (id : Text) → named check_ids (names_in y.parts) id ≡ named check_ids (m2 ∷ p2 ∷ []) id = λ id. ap (λ (l : List Text). named check_ids l id) y.written.names_are in (
      some_same m m2 (sym (name_a (codes "map")) ∙ sym a.map_is ∙ b.map_is ∙ name_b (codes "map")),
      some_same p p2 (sym (name_a (codes "plan")) ∙ sym a.plan_is ∙ b.plan_is ∙ name_b (codes "plan")),
    )

pub same_check : (words : List Text) (m p m2 p2 : Text) → IsCheck words m p → IsCheck words m2 p2 → (m ≡ m2) × (p ≡ p2)
same_check words m p m2 p2 x y =
    let e = x.written.words_are in
    check_one (flat_map words_of x.parts) m p m2 p2 (subst (λ (l : List Text). IsCheck l m p) e x) (subst (λ (l : List Text). IsCheck l m2 p2) e y)
