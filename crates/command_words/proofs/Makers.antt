-- What is found in the words of `gen` and of `plan` is what the words give, and other words are refused.
use Rattle.std.proofs.Common.{◌≡◌, ◌∙◌, ◌≤◌, inl, inr, refl, sym, ap, subst, arith, ℕ, Bool, List, [], ◌∷◌, codes, length, Option, Some}
use Rattle.std.specs.Prelude.{flat_map}
use Rattle.clap.specs.Walk.{Row, Text, first_of, one_of, with_default}
use Rattle.clap.specs.Simple.{matches_of}
use Rattle.clap.specs.Faults.{fault_of}
use Rattle.clap.specs.Matches.{first_value}
use Rattle.clap.specs.Walk.{rows_of}
use Rattle.clap.specs.declared.parser.matches.Found.{Found}
use Rattle.fleet_base.specs.Bytes.{IsNumber}
use Rattle.command_words.specs.Arguments.{IsFoundGen, IsFoundPlan, gen_app, plan_app}
use Rattle.command_words.specs.Commands.{IsGen, IsCommand, IsPlan, IsUsage, gen_grammar, plan_grammar}
use Rattle.command_words.specs.declared.command.Command.{Command}
use Rattle.command_words.specs.declared.command.Command.TheVariants.{Check, Run, Gen, Plan}
use Rattle.command_words.specs.Telling.{AreKnown}
use Rattle.command_words.specs.Grammar.{Part, words_of, AreParts, AreOnce, names_in, keys_in, value_in, is_given, IsNumberOr}
use Rattle.command_words.proofs.Steps.{option_rule, flag_rule, name_rule}
use Rattle.command_words.proofs.Matching.{rows_in}
use Rattle.command_words.proofs.Values.{named, flag_text, texts_differ, value_is, name_is, flag_is, other_kept}
use Rattle.command_words.proofs.Whole.{words_give, words_found, parts_known}
use Rattle.command_words.proofs.Apps.{gen_is, gen_ids, gen_rules, plan_is, plan_ids, plan_rules}
use Rattle.command_words.proofs.FirstWord.{option_plain, name_plain, value_rows, flag_rows, flag_decides, tail_is, first_is, some_same, one_number, same_number, flag_same, two_names}

-- ---- `gen`

-- what is found in the words `gen` and these parts
pub record GenFinds (ps : List Part) (words : List Text) : Type 0 where
  pub passes : fault_of gen_app words ≡ []
  pub seed_is : first_of (codes "seed") (matches_of gen_app words) ≡ named gen_ids (names_in ps) (codes "seed")
  pub plan_is : one_of (codes "plan") (matches_of gen_app words) ≡ Some (flag_text (is_given (codes "plan") ps))

gen_finds : (ps : List Part) → AreParts gen_grammar ps → AreOnce (keys_in ps) → length (names_in ps) ≤ 1 → GenFinds ps (codes "gen" ∷ flat_map words_of ps)
gen_finds ps parts once few =
    let g = words_give gen_app (codes "gen") gen_grammar gen_rules gen_ids gen_is (codes "gen") ps parts once few in
    let rows = rows_in gen_ids ps in
    let all : matches_of gen_app (codes "gen" ∷ flat_map words_of ps) ≡ with_default rows (flag_rule (codes "plan")) = g.matches ∙ name_plain (codes "seed") 1 _ in
    record {
      passes = g.passes;
      seed_is = ap (λ (r : List Row). first_of (codes "seed") r) all ∙ other_kept (codes "seed") (codes "plan") rows refl ∙ name_is gen_grammar (codes "seed") gen_ids ps parts (λ m. m) (λ m. elim m [ inl e ↦ texts_differ _ _ refl e | inr z ↦ z ]);
      plan_is = ap (λ (r : List Row). one_of (codes "plan") r) all ∙ flag_is gen_grammar (codes "plan") gen_ids ps parts (λ m. elim m [ inl e ↦ texts_differ _ _ refl e | inr z ↦ z ]) (λ m. m) few refl;
    }

one_name : (ws : List Text) (s : Text) → length ws ≤ 1 → named gen_ids ws (codes "seed") ≡ Some s → ws ≡ s ∷ []
one_name [] s few a = cc
one_name (w ∷ []) s few a = cc
one_name (w ∷ x ∷ ws) s few a = absurd (omega (arith, few))

pub gen_sound : (rest : List Text) (f : Found) (command : Command) → AreKnown gen_grammar rest → fault_of gen_app (codes "gen" ∷ rest) ≡ [] → rows_of f ≡ matches_of gen_app (codes "gen" ∷ rest) → IsFoundGen f command → IsCommand (codes "gen" ∷ rest) command
gen_sound rest f (Check m p) known passes rows is = absurd is
gen_sound rest f (Run m p j budget quiet) known passes rows is = absurd is
gen_sound rest f (Plan m s robots horizon) known passes rows is = absurd is
gen_sound rest f (Gen seed plan) known passes rows is =
    let r = words_found gen_app (codes "gen") gen_grammar gen_rules gen_ids gen_is (codes "gen") rest known passes in
    let finds = gen_finds r.parts r.each r.once r.few in
    let same : rows_of f ≡ matches_of gen_app (codes "gen" ∷ flat_map words_of r.parts) = rows ∙ ap (λ (l : List Text). matches_of gen_app (codes "gen" ∷ l)) r.are in
    record {
      parts = r.parts;
      name = is.0.0;
      written = record {
        words_are = ap (λ (l : List Text). codes "gen" ∷ l) r.are;
        are_parts = r.each;
        once = r.once;
        names_are = one_name (names_in r.parts) is.0.0 r.few (sym finds.seed_is ∙ sym (value_rows f _ (codes "seed") same) ∙ is.0.1);
      };
      seed_is = is.0.2;
      plan_is = flag_decides f (codes "plan") (is_given (codes "plan") r.parts) plan (flag_rows f _ (codes "plan") same ∙ finds.plan_is) is.1;
    }

gen_known : (rest : List Text) (seed : ℕ) (plan : Bool) → IsGen (codes "gen" ∷ rest) seed plan → AreKnown gen_grammar rest
gen_known rest seed plan is =
    subst (AreKnown gen_grammar) (sym (tail_is (codes "gen") (codes "gen") rest (flat_map words_of is.parts) is.written.words_are)) (parts_known gen_grammar is.parts is.written.are_parts)

gen_passes : (rest : List Text) (seed : ℕ) (plan : Bool) → (is : IsGen (codes "gen" ∷ rest) seed plan) → GenFinds is.parts (codes "gen" ∷ rest)
gen_passes rest seed plan is =
    subst (λ (l : List Text). GenFinds is.parts (codes "gen" ∷ l)) (sym (tail_is (codes "gen") (codes "gen") rest (flat_map words_of is.parts) is.written.words_are))
    (gen_finds is.parts is.written.are_parts is.written.once (subst (λ (l : List Text). length l ≤ 1) (sym is.written.names_are) (omega arith)))

pub gen_unknown : (rest : List Text) → (AreKnown gen_grammar rest → ⊥) → IsUsage (codes "gen" ∷ rest)
gen_unknown rest bad (Check m p) is = texts_differ (codes "gen") (codes "check") refl (first_is (codes "gen") rest (Check m p) is)
gen_unknown rest bad (Run m p j budget quiet) is = texts_differ (codes "gen") (codes "run") refl (first_is (codes "gen") rest (Run m p j budget quiet) is)
gen_unknown rest bad (Plan m s robots horizon) is = texts_differ (codes "gen") (codes "plan") refl (first_is (codes "gen") rest (Plan m s robots horizon) is)
gen_unknown rest bad (Gen seed plan) is = bad (gen_known rest seed plan is)

pub gen_refused : (rest : List Text) → (fault_of gen_app (codes "gen" ∷ rest) ≡ [] → ⊥) → IsUsage (codes "gen" ∷ rest)
gen_refused rest bad (Check m p) is = texts_differ (codes "gen") (codes "check") refl (first_is (codes "gen") rest (Check m p) is)
gen_refused rest bad (Run m p j budget quiet) is = texts_differ (codes "gen") (codes "run") refl (first_is (codes "gen") rest (Run m p j budget quiet) is)
gen_refused rest bad (Plan m s robots horizon) is = texts_differ (codes "gen") (codes "plan") refl (first_is (codes "gen") rest (Plan m s robots horizon) is)
gen_refused rest bad (Gen seed plan) is = bad (gen_passes rest seed plan is).passes

pub gen_lacking : (rest : List Text) (f : Found) → rows_of f ≡ matches_of gen_app (codes "gen" ∷ rest) → ((name : Text) (n : ℕ) → first_value f (codes "seed") ≡ Some name → IsNumber name n → ⊥) → IsUsage (codes "gen" ∷ rest)
gen_lacking rest f rows lacks (Check m p) is = texts_differ (codes "gen") (codes "check") refl (first_is (codes "gen") rest (Check m p) is)
gen_lacking rest f rows lacks (Run m p j budget quiet) is = texts_differ (codes "gen") (codes "run") refl (first_is (codes "gen") rest (Run m p j budget quiet) is)
gen_lacking rest f rows lacks (Plan m s robots horizon) is = texts_differ (codes "gen") (codes "plan") refl (first_is (codes "gen") rest (Plan m s robots horizon) is)
gen_lacking rest f rows lacks (Gen seed plan) is =
    lacks is.name seed (value_rows f _ (codes "seed") rows ∙ (gen_passes rest seed plan is).seed_is ∙ ap (λ (l : List Text). named gen_ids l (codes "seed")) is.written.names_are) is.seed_is

gen_one : (rest : List Text) (a b : ℕ) (p q : Bool) → IsGen (codes "gen" ∷ rest) a p → IsGen (codes "gen" ∷ rest) b q → (a ≡ b) × (p ≡ q)
gen_one rest a b p q x y =
    let s = gen_passes rest a p x in
    let t = gen_passes rest b q y in
    let name_x = ap (λ (l : List Text). named gen_ids l (codes "seed")) x.written.names_are in
    let name_y = ap (λ (l : List Text). named gen_ids l (codes "seed")) y.written.names_are in
    let names = some_same x.name y.name (sym name_x ∙ sym s.seed_is ∙ t.seed_is ∙ name_y) in (
      same_number y.name a b (subst (λ (n : Text). IsNumber n a) names x.seed_is) y.seed_is,
      x.plan_is ∙ flag_same (is_given (codes "plan") x.parts) (is_given (codes "plan") y.parts) (sym s.plan_is ∙ t.plan_is) ∙ sym y.plan_is,
    )

pub same_gen : (words : List Text) (a b : ℕ) (p q : Bool) → IsGen words a p → IsGen words b q → (a ≡ b) × (p ≡ q)
same_gen words a b p q x y =
    let e = x.written.words_are in
    gen_one (flat_map words_of x.parts) a b p q (subst (λ (l : List Text). IsGen l a p) e x) (subst (λ (l : List Text). IsGen l b q) e y)

-- ---- `plan`

-- what is found in the words `plan` and these parts
pub record PlanFinds (ps : List Part) (words : List Text) : Type 0 where
  pub passes : fault_of plan_app words ≡ []
  pub map_is : first_of (codes "map") (matches_of plan_app words) ≡ named plan_ids (names_in ps) (codes "map")
  pub scen_is : first_of (codes "scen") (matches_of plan_app words) ≡ named plan_ids (names_in ps) (codes "scen")
  pub robots_is : first_of (codes "robots") (matches_of plan_app words) ≡ value_in (codes "robots") ps
  pub horizon_is : first_of (codes "horizon") (matches_of plan_app words) ≡ value_in (codes "horizon") ps

plan_finds : (ps : List Part) → AreParts plan_grammar ps → AreOnce (keys_in ps) → length (names_in ps) ≤ 2 → PlanFinds ps (codes "plan" ∷ flat_map words_of ps)
plan_finds ps parts once few =
    let g = words_give plan_app (codes "plan") plan_grammar plan_rules plan_ids plan_is (codes "plan") ps parts once few in
    let rows = rows_in plan_ids ps in
    let all : matches_of plan_app (codes "plan" ∷ flat_map words_of ps) ≡ rows =
    g.matches ∙ name_plain (codes "scen") 2 _ ∙ name_plain (codes "map") 1 _ ∙ option_plain (codes "horizon") _ ∙ option_plain (codes "robots") rows in
    let one : (key : Text) → first_of key (matches_of plan_app (codes "plan" ∷ flat_map words_of ps)) ≡ first_of key rows = λ key. ap (λ (r : List Row). first_of key r) all in
    record {
      passes = g.passes;
      map_is = one (codes "map") ∙ name_is plan_grammar (codes "map") plan_ids ps parts (λ m. elim m [ inl e ↦ texts_differ _ _ refl e | inr n ↦ elim n [ inl e ↦ texts_differ _ _ refl e | inr z ↦ z ] ]) (λ m. m);
      scen_is = one (codes "scen") ∙ name_is plan_grammar (codes "scen") plan_ids ps parts (λ m. elim m [ inl e ↦ texts_differ _ _ refl e | inr n ↦ elim n [ inl e ↦ texts_differ _ _ refl e | inr z ↦ z ] ]) (λ m. m);
      robots_is = one (codes "robots") ∙ value_is plan_grammar (codes "robots") plan_ids ps parts (λ m. elim m [ inl e ↦ texts_differ _ _ refl e | inr n ↦ elim n [ inl e ↦ texts_differ _ _ refl e | inr z ↦ z ] ]) (λ m. m) few;
      horizon_is = one (codes "horizon") ∙ value_is plan_grammar (codes "horizon") plan_ids ps parts (λ m. elim m [ inl e ↦ texts_differ _ _ refl e | inr n ↦ elim n [ inl e ↦ texts_differ _ _ refl e | inr z ↦ z ] ]) (λ m. m) few;
    }

pub plan_sound : (rest : List Text) (f : Found) (command : Command) → AreKnown plan_grammar rest → fault_of plan_app (codes "plan" ∷ rest) ≡ [] → rows_of f ≡ matches_of plan_app (codes "plan" ∷ rest) → IsFoundPlan f command → IsCommand (codes "plan" ∷ rest) command
plan_sound rest f (Check m p) known passes rows is = absurd is
plan_sound rest f (Run m p j budget quiet) known passes rows is = absurd is
plan_sound rest f (Gen seed plan) known passes rows is = absurd is
plan_sound rest f (Plan m s robots horizon) known passes rows is =
    let r = words_found plan_app (codes "plan") plan_grammar plan_rules plan_ids plan_is (codes "plan") rest known passes in
    let finds = plan_finds r.parts r.each r.once r.few in
    let same : rows_of f ≡ matches_of plan_app (codes "plan" ∷ flat_map words_of r.parts) = rows ∙ ap (λ (l : List Text). matches_of plan_app (codes "plan" ∷ l)) r.are in
    record {
      parts = r.parts;
      written = record {
        words_are = ap (λ (l : List Text). codes "plan" ∷ l) r.are;
        are_parts = r.each;
        once = r.once;
        names_are = two_names (codes "map") (codes "scen") (names_in r.parts) m.now s.now refl refl refl r.few
            (sym finds.map_is ∙ sym (value_rows f _ (codes "map") same) ∙ is.0) (sym finds.scen_is ∙ sym (value_rows f _ (codes "scen") same) ∙ is.1);
      };
      robots_is = subst (λ (o : Option Text). IsNumberOr 32 1 256 o robots) (value_rows f _ (codes "robots") same ∙ finds.robots_is) is.2;
      horizon_is = subst (λ (o : Option Text). IsNumberOr 1024 1 4096 o horizon) (value_rows f _ (codes "horizon") same ∙ finds.horizon_is) is.3;
    }

plan_known : (rest : List Text) (m s : Text) (robots horizon : ℕ) → IsPlan (codes "plan" ∷ rest) m s robots horizon → AreKnown plan_grammar rest
plan_known rest m s robots horizon is =
    subst (AreKnown plan_grammar) (sym (tail_is (codes "plan") (codes "plan") rest (flat_map words_of is.parts) is.written.words_are)) (parts_known plan_grammar is.parts is.written.are_parts)

plan_passes : (rest : List Text) (m s : Text) (robots horizon : ℕ) → (is : IsPlan (codes "plan" ∷ rest) m s robots horizon) → PlanFinds is.parts (codes "plan" ∷ rest)
plan_passes rest m s robots horizon is =
    subst (λ (l : List Text). PlanFinds is.parts (codes "plan" ∷ l)) (sym (tail_is (codes "plan") (codes "plan") rest (flat_map words_of is.parts) is.written.words_are))
    (plan_finds is.parts is.written.are_parts is.written.once (subst (λ (l : List Text). length l ≤ 2) (sym is.written.names_are) (omega arith)))

pub plan_unknown : (rest : List Text) → (AreKnown plan_grammar rest → ⊥) → IsUsage (codes "plan" ∷ rest)
plan_unknown rest bad (Check m p) is = texts_differ (codes "plan") (codes "check") refl (first_is (codes "plan") rest (Check m p) is)
plan_unknown rest bad (Run m p j budget quiet) is = texts_differ (codes "plan") (codes "run") refl (first_is (codes "plan") rest (Run m p j budget quiet) is)
plan_unknown rest bad (Gen seed plan) is = texts_differ (codes "plan") (codes "gen") refl (first_is (codes "plan") rest (Gen seed plan) is)
plan_unknown rest bad (Plan m s robots horizon) is = bad (plan_known rest m.now s.now robots horizon is)

pub plan_refused : (rest : List Text) → (fault_of plan_app (codes "plan" ∷ rest) ≡ [] → ⊥) → IsUsage (codes "plan" ∷ rest)
plan_refused rest bad (Check m p) is = texts_differ (codes "plan") (codes "check") refl (first_is (codes "plan") rest (Check m p) is)
plan_refused rest bad (Run m p j budget quiet) is = texts_differ (codes "plan") (codes "run") refl (first_is (codes "plan") rest (Run m p j budget quiet) is)
plan_refused rest bad (Gen seed plan) is = texts_differ (codes "plan") (codes "gen") refl (first_is (codes "plan") rest (Gen seed plan) is)
plan_refused rest bad (Plan m s robots horizon) is = bad (plan_passes rest m.now s.now robots horizon is).passes

pub plan_lacking : (rest : List Text) (f : Found) → rows_of f ≡ matches_of plan_app (codes "plan" ∷ rest)
    → ((m s : Text) (n h : ℕ) → first_value f (codes "map") ≡ Some m → first_value f (codes "scen") ≡ Some s → IsNumberOr 32 1 256 (first_value f (codes "robots")) n → IsNumberOr 1024 1 4096 (first_value f (codes "horizon")) h → ⊥) → IsUsage (codes "plan" ∷ rest)
plan_lacking rest f rows lacks (Check m p) is = texts_differ (codes "plan") (codes "check") refl (first_is (codes "plan") rest (Check m p) is)
plan_lacking rest f rows lacks (Run m p j budget quiet) is = texts_differ (codes "plan") (codes "run") refl (first_is (codes "plan") rest (Run m p j budget quiet) is)
plan_lacking rest f rows lacks (Gen seed plan) is = texts_differ (codes "plan") (codes "gen") refl (first_is (codes "plan") rest (Gen seed plan) is)
plan_lacking rest f rows lacks (Plan m s robots horizon) is =
    let finds = plan_passes rest m.now s.now robots horizon is in
    let name_at : (id : Text) → named plan_ids (names_in is.parts) id ≡ named plan_ids (m.now ∷ s.now ∷ []) id = λ id. ap (λ (l : List Text). named plan_ids l id) is.written.names_are in
    lacks m.now s.now robots horizon (value_rows f _ (codes "map") rows ∙ finds.map_is ∙ name_at (codes "map")) (value_rows f _ (codes "scen") rows ∙ finds.scen_is ∙ name_at (codes "scen"))
    (subst (λ (o : Option Text). IsNumberOr 32 1 256 o robots) (sym (value_rows f _ (codes "robots") rows ∙ finds.robots_is)) is.robots_is)
    (subst (λ (o : Option Text). IsNumberOr 1024 1 4096 o horizon) (sym (value_rows f _ (codes "horizon") rows ∙ finds.horizon_is)) is.horizon_is)

plan_one : (rest : List Text) (m s m2 s2 : Text) (n h n2 h2 : ℕ) → IsPlan (codes "plan" ∷ rest) m s n h → IsPlan (codes "plan" ∷ rest) m2 s2 n2 h2 → (m ≡ m2) × (s ≡ s2) × (n ≡ n2) × (h ≡ h2)
plan_one rest m s m2 s2 n h n2 h2 x y =
    let a = plan_passes rest m s n h x in
    let b = plan_passes rest m2 s2 n2 h2 y in
    let name_a : (id : Text) → named plan_ids (names_in x.parts) id ≡ named plan_ids (m ∷ s ∷ []) id = λ id. ap (λ (l : List Text). named plan_ids l id) x.written.names_are in
    let name_b : (id : Text) → named plan_ids (names_in y.parts) id ≡ named plan_ids (m2 ∷ s2 ∷ []) id = λ id. ap (λ (l : List Text). named plan_ids l id) y.written.names_are in (
      some_same m m2 (sym (name_a (codes "map")) ∙ sym a.map_is ∙ b.map_is ∙ name_b (codes "map")),
      some_same s s2 (sym (name_a (codes "scen")) ∙ sym a.scen_is ∙ b.scen_is ∙ name_b (codes "scen")),
      one_number 32 1 256 n n2 (value_in (codes "robots") y.parts) (subst (λ (o : Option Text). IsNumberOr 32 1 256 o n) (sym a.robots_is ∙ b.robots_is) x.robots_is) y.robots_is,
      one_number 1024 1 4096 h h2 (value_in (codes "horizon") y.parts) (subst (λ (o : Option Text). IsNumberOr 1024 1 4096 o h) (sym a.horizon_is ∙ b.horizon_is) x.horizon_is) y.horizon_is,
    )

pub same_plan : (words : List Text) (m s m2 s2 : Text) (n h n2 h2 : ℕ) → IsPlan words m s n h → IsPlan words m2 s2 n2 h2 → (m ≡ m2) × (s ≡ s2) × (n ≡ n2) × (h ≡ h2)
same_plan words m s m2 s2 n h n2 h2 x y =
    let e = x.written.words_are in
    plan_one (flat_map words_of x.parts) m s m2 s2 n h n2 h2 (subst (λ (l : List Text). IsPlan l m s n h) e x) (subst (λ (l : List Text). IsPlan l m2 s2 n2 h2) e y)
