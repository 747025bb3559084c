-- What the rows of parts say of each option, flag and name.
use Rattle.std.proofs.Common.{◌≡◌, ◌∙◌, ◌≤◌, inl, inr, refl, sym, ap, subst, arith, Bool, true, false, if◌then◌else◌, List, [], ◌∷◌, codes, length, Option, Some, None, true≢false}
use Rattle.std.specs.Prelude.{bytes_eq, find}
use Rattle.std.proofs.lemmas.Bool.{cases_Bool}
use Rattle.std.proofs.lemmas.Slice.Eq.{bytes_eq-Decides}
use Rattle.clap.specs.Walk.{Row, Text, first_of, has_row, one_of, with_default, with_values, reading_by}
use Rattle.command_words.specs.Grammar.{Grammar, Part, name, flag, joined, apart, IsOneOf, AreParts, names_in, value_in, is_given}
use Rattle.command_words.proofs.Steps.{flag_rule}
use Rattle.command_words.proofs.Matching.{rows_in}

-- another text
other_text : (x y : Text) → (x ≡ y → ⊥) → bytes_eq x y ≡ false
other_text x y differs = elim (cases_Bool (bytes_eq x y)) [ inl t ↦ absurd (differs ((bytes_eq-Decides x y).0 t)) | inr f ↦ f ]

-- texts of which one byte differs
pub texts_differ : (x y : Text) → bytes_eq x y ≡ false → x ≡ y → ⊥
texts_differ x y differ e = true≢false (sym ((bytes_eq-Decides x y).1 e) ∙ differ)

-- the text that stands in these names at the place of an id
abbrev pub named : List Text → List Text → Text → Option Text
named [] ws key = None
named (id ∷ ids) [] key = None
named (id ∷ ids) (w ∷ ws) key = if bytes_eq id key then Some w else named ids ws key

pub value_is : (g : Grammar) (key : Text) (ids : List Text) (ps : List Part) → AreParts g ps → (IsOneOf ids key → ⊥) → (IsOneOf g.flags key → ⊥) → length (names_in ps) ≤ length ids → first_of key (rows_in ids ps) ≡ value_in key ps
value_is g key ids [] parts ids_differ flags_differ few = refl
value_is g key [] (name w ∷ ps) parts ids_differ flags_differ few = absurd (omega (arith, few))
value_is g key (id ∷ ids) (name w ∷ ps) parts ids_differ flags_differ few =
    let e = other_text id key (λ same. ids_differ (inl (sym same))) in
    rw e (value_is g key ids ps parts.1 (λ m. ids_differ (inr m)) flags_differ (omega (arith, few)))
value_is g key ids (flag f ∷ ps) parts ids_differ flags_differ few =
    let e = other_text f key (λ same. flags_differ (subst (IsOneOf g.flags) same parts.0)) in
    rw e (value_is g key ids ps parts.1 ids_differ flags_differ few)
value_is g key ids (joined o v ∷ ps) parts ids_differ flags_differ few = elim (cases_Bool (bytes_eq o key)) [
  | inl e ↦ rw e refl
  | inr e ↦ rw e (value_is g key ids ps parts.1 ids_differ flags_differ few)
]
value_is g key ids (apart o v ∷ ps) parts ids_differ flags_differ few = elim (cases_Bool (bytes_eq o key)) [
  | inl e ↦ rw e refl
  | inr e ↦ rw e (value_is g key ids ps parts.1 ids_differ flags_differ few)
]

pub name_is : (g : Grammar) (key : Text) (ids : List Text) (ps : List Part) → AreParts g ps → (IsOneOf g.options key → ⊥) → (IsOneOf g.flags key → ⊥) → first_of key (rows_in ids ps) ≡ named ids (names_in ps) key
name_is g key [] [] parts options_differ flags_differ = refl
name_is g key (id ∷ ids) [] parts options_differ flags_differ = refl
name_is g key [] (name w ∷ ps) parts options_differ flags_differ = refl
name_is g key (id ∷ ids) (name w ∷ ps) parts options_differ flags_differ = elim (cases_Bool (bytes_eq id key)) [
  | inl e ↦ rw e refl
  | inr e ↦ rw e (name_is g key ids ps parts.1 options_differ flags_differ)
]
name_is g key ids (flag f ∷ ps) parts options_differ flags_differ =
    let e = other_text f key (λ same. flags_differ (subst (IsOneOf g.flags) same parts.0)) in
    rw e (name_is g key ids ps parts.1 options_differ flags_differ)
name_is g key ids (joined o v ∷ ps) parts options_differ flags_differ =
    let e = other_text o key (λ same. options_differ (subst (IsOneOf g.options) same parts.0.0)) in
    rw e (name_is g key ids ps parts.1 options_differ flags_differ)
name_is g key ids (apart o v ∷ ps) parts options_differ flags_differ =
    let e = other_text o key (λ same. options_differ (subst (IsOneOf g.options) same parts.0.0)) in
    rw e (name_is g key ids ps parts.1 options_differ flags_differ)

-- the text of a flag
abbrev pub flag_text : Bool → Text
flag_text true = codes "true"
flag_text false = codes "false"

-- a flag is given just where it has a row, and then with "true"
flag_row_is : (g : Grammar) (key : Text) (ids : List Text) (ps : List Part) → AreParts g ps → (IsOneOf ids key → ⊥) → (IsOneOf g.options key → ⊥) → length (names_in ps) ≤ length ids
    → (has_row key (rows_in ids ps) ≡ is_given key ps) × (is_given key ps ≡ true → one_of key (rows_in ids ps) ≡ Some (codes "true"))
flag_row_is g key ids [] parts ids_differ options_differ few = (refl, λ bad. cc)
flag_row_is g key [] (name w ∷ ps) parts ids_differ options_differ few = absurd (omega (arith, few))
flag_row_is g key (id ∷ ids) (name w ∷ ps) parts ids_differ options_differ few =
    let e = other_text id key (λ same. ids_differ (inl (sym same))) in
    let r = flag_row_is g key ids ps parts.1 (λ m. ids_differ (inr m)) options_differ (omega (arith, few)) in
    (rw e r.0, λ yes. rw e (r.1 yes))
flag_row_is g key ids (flag f ∷ ps) parts ids_differ options_differ few = elim (cases_Bool (bytes_eq f key)) [
  | inl e ↦ (rw e refl, λ yes. rw e refl)
  | inr e ↦
      let r = flag_row_is g key ids ps parts.1 ids_differ options_differ few in
      (rw e r.0, λ yes. rw e (r.1 (rw e at yes)))
]
flag_row_is g key ids (joined o v ∷ ps) parts ids_differ options_differ few =
    let e = other_text o key (λ same. options_differ (subst (IsOneOf g.options) same parts.0.0)) in
    let r = flag_row_is g key ids ps parts.1 ids_differ options_differ few in
    (rw e r.0, λ yes. rw e (r.1 yes))
flag_row_is g key ids (apart o v ∷ ps) parts ids_differ options_differ few =
    let e = other_text o key (λ same. options_differ (subst (IsOneOf g.options) same parts.0.0)) in
    let r = flag_row_is g key ids ps parts.1 ids_differ options_differ few in
    (rw e r.0, λ yes. rw e (r.1 yes))

-- a flag that was not given has its default
default_is : (key : Text) (rows : List Row) → bytes_eq key key ≡ true → has_row key rows ≡ false → one_of key (with_values key (reading_by (flag_rule key)) Rattle.clap.specs.declared.parser.matches.ValueSource.TheVariants.DefaultValue (codes "false" ∷ []) rows) ≡ Some (codes "false")
default_is key [] same no_row = rw same refl
default_is key (r ∷ rs) same no_row = elim (cases_Bool (bytes_eq r.id key)) [
  | inl e ↦ absurd (let bad : true ≡ false = rw e at no_row in cc)
  | inr e ↦
      let rest : has_row key rs ≡ false = rw e at no_row in
      rw e (rw e (default_is key rs same rest))
]

pub flag_is : (g : Grammar) (key : Text) (ids : List Text) (ps : List Part) → AreParts g ps → (IsOneOf ids key → ⊥) → (IsOneOf g.options key → ⊥) → length (names_in ps) ≤ length ids → bytes_eq key key ≡ true
    → one_of key (with_default (rows_in ids ps) (flag_rule key)) ≡ Some (flag_text (is_given key ps))
flag_is g key ids ps parts ids_differ options_differ few same =
    let r = flag_row_is g key ids ps parts ids_differ options_differ few in
    elim (cases_Bool (is_given key ps)) [
      | inl e ↦
          let there = r.0 ∙ e in
          rw (there, e) (r.1 e)
      | inr e ↦
          let there = r.0 ∙ e in
          rw (there, e) (default_is key (rows_in ids ps) same there)
    ]

-- a default changes no row of another id
default_kept : (key id : Text) (v : Text) (how : Rattle.clap.specs.declared.builder.value_parser.Reading.Reading) (rows : List Row) → bytes_eq id key ≡ false → has_row id rows ≡ false → first_of key (with_values id how Rattle.clap.specs.declared.parser.matches.ValueSource.TheVariants.DefaultValue (v ∷ []) rows) ≡ first_of key rows
default_kept key id v how [] differs no_row = rw differs refl
default_kept key id v how (r ∷ rs) differs no_row = elim (cases_Bool (bytes_eq r.id id)) [
  | inl e ↦ absurd (let bad : true ≡ false = rw e at no_row in cc)
  | inr e ↦
      let rest : has_row id rs ≡ false = rw e at no_row in
      rw e (ap (λ (o : Option Row). Rattle.std.specs.Prelude.option_and_then (λ r. Rattle.std.specs.Prelude.slice_get r.values 0) (Rattle.std.specs.Prelude.cond (bytes_eq r.id key) (Some r) o)) refl ∙ kept (bytes_eq r.id key) (default_kept key id v how rs differs rest))
]
  where
    kept : (b : Bool) → first_of key (with_values id how Rattle.clap.specs.declared.parser.matches.ValueSource.TheVariants.DefaultValue (v ∷ []) rs) ≡ first_of key rs
        → Rattle.std.specs.Prelude.option_and_then (λ r. Rattle.std.specs.Prelude.slice_get r.values 0) (Rattle.std.specs.Prelude.cond b (Some r) (find (λ r. bytes_eq r.id key) (with_values id how Rattle.clap.specs.declared.parser.matches.ValueSource.TheVariants.DefaultValue (v ∷ []) rs)))
        ≡ Rattle.std.specs.Prelude.option_and_then (λ r. Rattle.std.specs.Prelude.slice_get r.values 0) (Rattle.std.specs.Prelude.cond b (Some r) (find (λ r. bytes_eq r.id key) rs))
    kept true e = refl
    kept false e = e

pub other_kept : (key id : Text) (rows : List Row) → bytes_eq id key ≡ false → first_of key (with_default rows (flag_rule id)) ≡ first_of key rows
other_kept key id rows differs = elim (cases_Bool (has_row id rows)) [
  | inl e ↦ rw e refl
  | inr e ↦ rw e (default_kept key id (codes "false") (reading_by (flag_rule id)) rows differs e)
]
