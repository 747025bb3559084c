-- The commands of the program, as `clap` builds them.
use Rattle.std.proofs.Common.{◌≡◌, ◌∙◌, inl, inr, refl, sym, subst, List, [], ◌∷◌, codes, true}
use Rattle.clap.specs.Walk.{Rule, Text}
use Rattle.clap.specs.Simple.{is_simple}
use Rattle.clap.specs.Faults.{is_simple_and_free}
use Rattle.command_words.specs.Arguments.{check_app, run_app, gen_app, plan_app}
use Rattle.command_words.specs.Commands.{check_grammar, run_grammar, gen_grammar, plan_grammar}
use Rattle.command_words.proofs.Steps.{option_rule, flag_rule, name_rule, Knows}
use Rattle.command_words.proofs.Values.{texts_differ}
use Rattle.command_words.proofs.Whole.{IsApp, option_default, flag_default, name_default}

-- ---- `check`

abbrev pub check_rules : List Rule
check_rules = name_rule (codes "map") 1 ∷ name_rule (codes "plan") 2 ∷ []

abbrev pub check_ids : List Text
check_ids = codes "map" ∷ codes "plan" ∷ []

pub check_is_simple : is_simple check_app ≡ true
check_is_simple = refl

pub check_is_free : is_simple_and_free check_app ≡ true
check_is_free = refl

pub check_is : IsApp check_app (codes "check") check_grammar check_rules check_ids
check_is = record {
  built_is = refl;
  binary = refl;
  fits = record { options = λ o m. absurd m; flags = λ f m. absurd m };
  names = (refl, refl, refl, refl, (refl, refl, refl, refl, refl));
  clear = (name_default (codes "map") 1, (name_default (codes "plan") 2, tt));
  checks = λ rows. refl;
  once = (λ m. elim m [ inl e ↦ cc | inr n ↦ n ], (λ m. m, tt));
  far = λ k i m. elim m [ inl n ↦ n | inr n ↦ n ];
}

-- ---- `run`

abbrev pub run_rules : List Rule
run_rules = option_rule (codes "budget") ∷ flag_rule (codes "quiet") ∷ name_rule (codes "map") 1 ∷ name_rule (codes "plan") 2 ∷ name_rule (codes "journal") 3 ∷ []

abbrev pub run_ids : List Text
run_ids = codes "map" ∷ codes "plan" ∷ codes "journal" ∷ []

pub run_is_simple : is_simple run_app ≡ true
run_is_simple = refl

pub run_is_free : is_simple_and_free run_app ≡ true
run_is_free = refl

knows_budget : Knows run_rules (codes "budget") (option_rule (codes "budget"))
knows_budget = record { by_long = refl; by_id = refl; same = refl; bare = refl; bare_end = refl; valued = λ v. refl; valued_end = λ v. refl }

knows_quiet : Knows run_rules (codes "quiet") (flag_rule (codes "quiet"))
knows_quiet = record { by_long = refl; by_id = refl; same = refl; bare = refl; bare_end = refl; valued = λ v. refl; valued_end = λ v. refl }

map_is_other : codes "map" ≡ codes "budget" → ⊥
map_is_other e = cc

pub run_is : IsApp run_app (codes "run") run_grammar run_rules run_ids
run_is = record {
  built_is = refl;
  binary = refl;
  fits = record {
    options = λ o m. elim m [ inl e ↦ subst (λ (t : Text). Knows run_rules t (option_rule t)) (sym e) knows_budget | inr n ↦ absurd n ];
    flags = λ f m. elim m [ inl e ↦ subst (λ (t : Text). Knows run_rules t (flag_rule t)) (sym e) knows_quiet | inr n ↦ absurd n ];
  };
  names = (refl, refl, refl, refl, (refl, refl, refl, refl, (refl, refl, refl, refl, refl)));
  clear = (option_default (codes "budget"), (flag_default (codes "quiet"), (name_default (codes "map") 1, (name_default (codes "plan") 2, (name_default (codes "journal") 3, tt)))));
  checks = λ rows. refl;
  once = (λ m. elim m [ inl e ↦ cc | inr n ↦ elim n [ inl e ↦ cc | inr z ↦ z ] ], (λ m. elim m [ inl e ↦ cc | inr z ↦ z ], (λ m. m, tt)));
  far = λ k i m. elim i [
    | inl e ↦ elim m [ inl b ↦ elim b [ inl f ↦ absurd (map_is_other (sym e ∙ f)) | inr z ↦ z ] | inr b ↦ elim b [ inl f ↦ cc | inr z ↦ z ] ]
    | inr j ↦ elim j [
      | inl e ↦ elim m [ inl b ↦ elim b [ inl f ↦ cc | inr z ↦ z ] | inr b ↦ elim b [ inl f ↦ cc | inr z ↦ z ] ]
      | inr j ↦ elim j [
        | inl e ↦ elim m [ inl b ↦ elim b [ inl f ↦ cc | inr z ↦ z ] | inr b ↦ elim b [ inl f ↦ cc | inr z ↦ z ] ]
        | inr z ↦ z
      ]
    ]
  ];
}

-- ---- `gen`

abbrev pub gen_rules : List Rule
gen_rules = flag_rule (codes "plan") ∷ name_rule (codes "seed") 1 ∷ []

abbrev pub gen_ids : List Text
gen_ids = codes "seed" ∷ []

pub gen_is_simple : is_simple gen_app ≡ true
gen_is_simple = refl

pub gen_is_free : is_simple_and_free gen_app ≡ true
gen_is_free = refl

knows_plan : Knows gen_rules (codes "plan") (flag_rule (codes "plan"))
knows_plan = record { by_long = refl; by_id = refl; same = refl; bare = refl; bare_end = refl; valued = λ v. refl; valued_end = λ v. refl }

pub gen_is : IsApp gen_app (codes "gen") gen_grammar gen_rules gen_ids
gen_is = record {
  built_is = refl;
  binary = refl;
  fits = record {
    options = λ o m. absurd m;
    flags = λ f m. elim m [ inl e ↦ subst (λ (t : Text). Knows gen_rules t (flag_rule t)) (sym e) knows_plan | inr n ↦ absurd n ];
  };
  names = (refl, refl, refl, refl, refl);
  clear = (flag_default (codes "plan"), (name_default (codes "seed") 1, tt));
  checks = λ rows. refl;
  once = (λ m. m, tt);
  far = λ k i m. elim i [
    | inl e ↦ elim m [ inl z ↦ z | inr b ↦ elim b [ inl f ↦ texts_differ _ _ refl (sym e ∙ f) | inr z ↦ z ] ]
    | inr z ↦ z
  ];
}

-- ---- `plan`

abbrev pub plan_rules : List Rule
plan_rules = option_rule (codes "robots") ∷ option_rule (codes "horizon") ∷ name_rule (codes "map") 1 ∷ name_rule (codes "scen") 2 ∷ []

abbrev pub plan_ids : List Text
plan_ids = codes "map" ∷ codes "scen" ∷ []

pub plan_is_simple : is_simple plan_app ≡ true
plan_is_simple = refl

pub plan_is_free : is_simple_and_free plan_app ≡ true
plan_is_free = refl

knows_robots : Knows plan_rules (codes "robots") (option_rule (codes "robots"))
knows_robots = record { by_long = refl; by_id = refl; same = refl; bare = refl; bare_end = refl; valued = λ v. refl; valued_end = λ v. refl }

knows_horizon : Knows plan_rules (codes "horizon") (option_rule (codes "horizon"))
knows_horizon = record { by_long = refl; by_id = refl; same = refl; bare = refl; bare_end = refl; valued = λ v. refl; valued_end = λ v. refl }

pub plan_is : IsApp plan_app (codes "plan") plan_grammar plan_rules plan_ids
plan_is = record {
  built_is = refl;
  binary = refl;
  fits = record {
    options = λ o m. elim m [
      | inl e ↦ subst (λ (t : Text). Knows plan_rules t (option_rule t)) (sym e) knows_robots
      | inr n ↦ elim n [ inl e ↦ subst (λ (t : Text). Knows plan_rules t (option_rule t)) (sym e) knows_horizon | inr z ↦ absurd z ]
    ];
    flags = λ f m. absurd m;
  };
  names = (refl, refl, refl, refl, (refl, refl, refl, refl, refl));
  clear = (option_default (codes "robots"), (option_default (codes "horizon"), (name_default (codes "map") 1, (name_default (codes "scen") 2, tt))));
  checks = λ rows. refl;
  once = (λ m. elim m [ inl e ↦ texts_differ _ _ refl e | inr z ↦ z ], (λ m. m, tt));
  far = λ k i m. elim i [
    | inl e ↦ elim m [ inl b ↦ elim b [ inl f ↦ texts_differ _ _ refl (sym e ∙ f) | inr c ↦ elim c [ inl f ↦ texts_differ _ _ refl (sym e ∙ f) | inr z ↦ z ] ] | inr z ↦ z ]
    | inr j ↦ elim j [
      | inl e ↦ elim m [ inl b ↦ elim b [ inl f ↦ texts_differ _ _ refl (sym e ∙ f) | inr c ↦ elim c [ inl f ↦ texts_differ _ _ refl (sym e ∙ f) | inr z ↦ z ] ] | inr z ↦ z ]
      | inr z ↦ z
    ]
  ];
}
