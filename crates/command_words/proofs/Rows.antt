-- What the uses of arguments leave, row by row.
use Rattle.std.proofs.Common.{◌≡◌, ◌∙◌, ◌||◌, inl, inr, refl, sym, ap, subst, ℕ, Bool, true, false, List, [], ◌∷◌, ◌++◌, codes, Some, None, true≢false}
use Rattle.std.specs.Prelude.{bytes_eq}
use Rattle.std.proofs.lemmas.Bool.{cases_Bool}
use Rattle.std.proofs.lemmas.Slice.Eq.{bytes_eq-Decides}
use Rattle.clap.specs.Walk.{Row, Text, at_row, has_row, more_values, reading_by, used}
use Rattle.clap.specs.Kinds.{Kinds, or_else}
use Rattle.clap.specs.Faults.{use_fault}
use Rattle.clap.specs.declared.parser.matches.ValueSource.TheVariants.{CommandLine}
use Rattle.command_words.specs.Grammar.{IsOneOf, AreOnce}
use Rattle.command_words.proofs.Steps.{option_rule, flag_rule, name_rule}

-- the row of an option, of a flag, and of a name
abbrev pub option_row : Text → Text → Row
option_row o v = record { id = o; values = v ∷ []; count = None; source = Some CommandLine; reading = reading_by (option_rule o) }

abbrev pub flag_row : Text → Row
flag_row f = record { id = f; values = codes "true" ∷ []; count = None; source = Some CommandLine; reading = reading_by (flag_rule f) }

abbrev pub name_row : Text → Text → Row
name_row id w = record { id = id; values = w ∷ []; count = None; source = Some CommandLine; reading = reading_by (name_rule id 0) }

-- ---- kinds

pub none_left : (a b : Kinds) → or_else a b ≡ [] → a ≡ []
none_left [] b e = refl
none_left (k ∷ ks) b e = e

pub none_right : (a b : Kinds) → or_else a b ≡ [] → b ≡ []
none_right [] b e = e
none_right (k ∷ ks) b e = cc

pub none_both : (a b : Kinds) → a ≡ [] → b ≡ [] → or_else a b ≡ []
none_both a b e f = rw (e, f) refl

-- ---- rows

at_new : (id : Text) (change : Row → List Row) (missing rows : List Row) → has_row id rows ≡ false → at_row id change missing rows ≡ rows ++ missing
at_new id change missing [] e = refl
at_new id change missing (r ∷ rs) e = elim (cases_Bool (bytes_eq r.id id)) [
  | inl t ↦ let bad : true ≡ false = rw t at e in cc
  | inr f ↦
      let rest : has_row id rs ≡ false = rw f at e in
      rw f (ap (λ (l : List Row). r ∷ l) (at_new id change missing rs rest))
]

nil_end : (rows : List Row) → rows ++ [] ≡ rows
nil_end [] = refl
nil_end (r ∷ rs) = ap (λ (l : List Row). r ∷ l) (nil_end rs)

-- an argument that has no row yet gets one at the end
pub added : (id : Text) (change gone : Row → List Row) (r : Row) (rows : List Row) → has_row id rows ≡ false → at_row id change (r ∷ []) (at_row id gone [] rows) ≡ rows ++ r ∷ []
added id change gone r rows e = ap (λ (l : List Row). at_row id change (r ∷ []) l) (at_new id gone [] rows e ∙ nil_end rows) ∙ at_new id change (r ∷ []) rows e

pub option_used : (o v : Text) (rows : List Row) → has_row o rows ≡ false → used (option_rule o) (v ∷ []) rows ≡ rows ++ option_row o v ∷ []
option_used o v rows e = added o (more_values CommandLine (v ∷ [])) (λ r. []) (option_row o v) rows e

pub flag_used : (f : Text) (rows : List Row) → has_row f rows ≡ false → used (flag_rule f) [] rows ≡ rows ++ flag_row f ∷ []
flag_used f rows e = added f (more_values CommandLine (codes "true" ∷ [])) (λ r. []) (flag_row f) rows e

pub name_used : (id w : Text) (p : ℕ) (rows : List Row) → has_row id rows ≡ false → used (name_rule id p) (w ∷ []) rows ≡ rows ++ name_row id w ∷ []
name_used id w p rows e = added id (more_values CommandLine (w ∷ [])) (λ r. []) (name_row id w) rows e

pub has_row_push : (k : Text) (rows : List Row) (r : Row) → has_row k (rows ++ r ∷ []) ≡ (has_row k rows || bytes_eq r.id k)
has_row_push k [] r = or_end (bytes_eq r.id k)
  where
    or_end : (b : Bool) → (b || false) ≡ b
    or_end true = refl
    or_end false = refl
has_row_push k (x ∷ xs) r = ap (λ (b : Bool). bytes_eq x.id k || b) (has_row_push k xs r) ∙ assoc (bytes_eq x.id k) (has_row k xs) (bytes_eq r.id k)
  where
    assoc : (a b c : Bool) → (a || (b || c)) ≡ ((a || b) || c)
    assoc true b c = refl
    assoc false b c = refl

pub or_left : (a b : Bool) → a ≡ true → (a || b) ≡ true
or_left a b e = rw e refl

pub or_right : (a b : Bool) → b ≡ true → (a || b) ≡ true
or_right true b e = refl
or_right false b e = e

pub or_none : (a b : Bool) → a ≡ false → b ≡ false → (a || b) ≡ false
or_none a b e f = rw (e, f) refl

-- a use is refused just where the argument has a row
pub option_free : (o v : Text) (rows : List Row) → use_fault false (option_rule o) (v ∷ []) rows ≡ [] → has_row o rows ≡ false
option_free o v rows e = elim (cases_Bool (has_row o rows)) [
  | inl t ↦ absurd (let bad = rw t at e in cc)
  | inr f ↦ f
]

pub flag_free : (f : Text) (rows : List Row) → use_fault false (flag_rule f) [] rows ≡ [] → has_row f rows ≡ false
flag_free f rows e = elim (cases_Bool (has_row f rows)) [
  | inl t ↦ absurd (let bad = rw t at e in cc)
  | inr n ↦ n
]

pub name_free : (id w : Text) (p : ℕ) (rows : List Row) → use_fault false (name_rule id p) (w ∷ []) rows ≡ [] → has_row id rows ≡ false
name_free id w p rows e = elim (cases_Bool (has_row id rows)) [
  | inl t ↦ absurd (let bad = rw t at e in cc)
  | inr n ↦ n
]

pub option_clear : (o v : Text) (rows : List Row) → has_row o rows ≡ false → use_fault false (option_rule o) (v ∷ []) rows ≡ []
option_clear o v rows e = rw e refl

pub flag_clear : (f : Text) (rows : List Row) → has_row f rows ≡ false → use_fault false (flag_rule f) [] rows ≡ []
flag_clear f rows e = rw e refl

pub name_clear : (id w : Text) (p : ℕ) (rows : List Row) → has_row id rows ≡ false → use_fault false (name_rule id p) (w ∷ []) rows ≡ []
name_clear id w p rows e = rw e refl

-- ---- keys

-- the keys that have no row yet, after one more
pub once_more : (key : Text) (rows now : List Row) (r : Row) (keys : List Text) → r.id ≡ key → bytes_eq key key ≡ true → has_row key rows ≡ false → now ≡ rows ++ r ∷ []
    → AreOnce keys → ((k : Text) → has_row k now ≡ true → IsOneOf keys k → ⊥) → AreOnce (key ∷ keys) × ((k : Text) → has_row k rows ≡ true → IsOneOf (key ∷ keys) k → ⊥)
once_more key rows now r keys id same free is once fresh =
    let grown : (k : Text) → has_row k now ≡ (has_row k rows || bytes_eq r.id k) = λ k. ap (λ (l : List Row). has_row k l) is ∙ has_row_push k rows r in
    let there : has_row key now ≡ true = grown key ∙ or_right (has_row key rows) (bytes_eq r.id key) (ap (λ (t : Text). bytes_eq t key) id ∙ same) in (
      (λ k. fresh key there k, once),
      λ k h m. elim m [
        | inl e ↦ true≢false (sym h ∙ ap (λ (t : Text). has_row t rows) e ∙ free)
        | inr n ↦ fresh k (grown k ∙ or_left (has_row k rows) (bytes_eq r.id k) h) n
      ],
    )

-- the keys that have no row yet, after a name
pub still_fresh : (rows now : List Row) (r : Row) (keys : List Text) → now ≡ rows ++ r ∷ [] → ((k : Text) → has_row k now ≡ true → IsOneOf keys k → ⊥) → (k : Text) → has_row k rows ≡ true → IsOneOf keys k → ⊥
still_fresh rows now r keys is fresh k h m = fresh k (ap (λ (l : List Row). has_row k l) is ∙ has_row_push k rows r ∙ or_left (has_row k rows) (bytes_eq r.id k) h) m

-- what is still to be used has no row, after one more
pub free_after : (key : Text) (rows now : List Row) (r : Row) (keys : List Text) → r.id ≡ key → now ≡ rows ++ r ∷ [] → (IsOneOf keys key → ⊥) → ((k : Text) → IsOneOf (key ∷ keys) k → has_row k rows ≡ false)
    → (k : Text) → IsOneOf keys k → has_row k now ≡ false
free_after key rows now r keys id is other free k m =
    ap (λ (l : List Row). has_row k l) is ∙ has_row_push k rows r ∙ or_none (has_row k rows) (bytes_eq r.id k) (free k (inr m)) (elim (cases_Bool (bytes_eq r.id k)) [
      | inl t ↦ absurd (other (subst (IsOneOf keys) (sym ((bytes_eq-Decides r.id k).0 t) ∙ id) m))
      | inr f ↦ f
    ])

pub push_append : (xs : List Row) (r : Row) (ys : List Row) → (xs ++ r ∷ []) ++ ys ≡ xs ++ r ∷ ys
push_append [] r ys = refl
push_append (x ∷ xs) r ys = ap (λ (l : List Row). x ∷ l) (push_append xs r ys)
