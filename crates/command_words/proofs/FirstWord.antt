-- What the rows of words say of what is found in them, and what the first word says of the command.
use Rattle.std.proofs.Common.{◌≡◌, ◌∙◌, ◌≤◌, inl, inr, refl, sym, ap, arith, ℕ, Bool, true, false, List, [], ◌∷◌, codes, length, Option, Some, None}
use Rattle.std.specs.Prelude.{bytes_eq}
use Rattle.std.proofs.lemmas.Bool.{cases_Bool}
use Rattle.std.proofs.lemmas.Fmt.{decimal_injective}
use Rattle.clap.specs.Walk.{Row, Text, first_of, has_row, one_of, with_default}
use Rattle.clap.specs.Matches.{first_value, one_text}
use Rattle.clap.specs.Walk.{rows_of}
use Rattle.clap.specs.declared.parser.matches.Found.{Found}
use Rattle.clap.proofs.WalkLemmas.{first_value-rows, one_text-rows}
use Rattle.fleet_base.specs.Bytes.{IsNumber}
use Rattle.command_words.specs.Arguments.{IsFoundFlag}
use Rattle.command_words.specs.Commands.{IsCommand}
use Rattle.command_words.specs.declared.command.Command.{Command}
use Rattle.command_words.specs.declared.command.Command.TheVariants.{Check, Run, Gen, Plan}
use Rattle.command_words.specs.Grammar.{IsNumberOr}
use Rattle.command_words.proofs.Steps.{option_rule, name_rule}
use Rattle.command_words.proofs.Values.{named, flag_text}

-- ---- rows

pub option_plain : (o : Text) (rows : List Row) → with_default rows (option_rule o) ≡ rows
option_plain o rows = elim (cases_Bool (has_row o rows)) [ inl e ↦ rw e refl | inr e ↦ rw e refl ]

pub name_plain : (id : Text) (p : ℕ) (rows : List Row) → with_default rows (name_rule id p) ≡ rows
name_plain id p rows = elim (cases_Bool (has_row id rows)) [ inl e ↦ rw e refl | inr e ↦ rw e refl ]

-- the value of an id, where the rows are those of the words
pub value_rows : (f : Found) (rows : List Row) (id : Text) → rows_of f ≡ rows → first_value f id ≡ first_of id rows
value_rows f rows id e = first_value-rows f id ∙ ap (λ (r : List Row). first_of id r) e

pub flag_rows : (f : Found) (rows : List Row) (id : Text) → rows_of f ≡ rows → one_text f id ≡ one_of id rows
flag_rows f rows id e = one_text-rows f id ∙ ap (λ (r : List Row). one_of id r) e

pub flag_decides : (f : Found) (id : Text) (b flag : Bool) → one_text f id ≡ Some (flag_text b) → IsFoundFlag f id flag → flag ≡ b
flag_decides f id true flag e is = is.given e
flag_decides f id false flag e is = is.absent e

-- ---- names and values

-- two names, of which one stands at either of two ids
pub two_names : (a b : Text) (ws : List Text) (m p : Text) → bytes_eq a a ≡ true → bytes_eq a b ≡ false → bytes_eq b b ≡ true → length ws ≤ 2 → named (a ∷ b ∷ []) ws a ≡ Some m → named (a ∷ b ∷ []) ws b ≡ Some p → ws ≡ m ∷ p ∷ []
two_names a b [] m p aa ab bb few x y = cc
two_names a b (w ∷ []) m p aa ab bb few x y = let bad : None ≡ Some p = rw ab at y in cc
two_names a b (w ∷ v ∷ []) m p aa ab bb few x y =
    let first : Some w ≡ Some m = rw aa at x in
    let second : Some v ≡ Some p = rw (ab, bb) at y in
    cc
two_names a b (w ∷ v ∷ u ∷ ws) m p aa ab bb few x y = absurd (omega (arith, few))

pub some_same : (x y : Text) → Some x ≡ Some y → x ≡ y
some_same x y e = cc

-- a number that is given is one
pub one_number : (usual least most m n : ℕ) (given : Option Text) → IsNumberOr usual least most given m → IsNumberOr usual least most given n → m ≡ n
one_number usual least most m n None a b = a ∙ sym b
one_number usual least most m n (Some text) a b = decimal_injective m n a.0.fits b.0.fits (sym a.0.digits ∙ b.0.digits)

pub flag_same : (a b : Bool) → Some (flag_text a) ≡ Some (flag_text b) → a ≡ b
flag_same true true e = refl
flag_same false false e = refl
flag_same true false e = absurd (texts_differ (some_same (codes "true") (codes "false") e))
  where
    texts_differ : codes "true" ≡ codes "false" → ⊥
    texts_differ e = cc
flag_same false true e = absurd (texts_differ (some_same (codes "false") (codes "true") e))
  where
    texts_differ : codes "false" ≡ codes "true" → ⊥
    texts_differ e = cc

-- a text is one number at most
pub same_number : (text : Text) (m n : ℕ) → IsNumber text m → IsNumber text n → m ≡ n
same_number text m n a b = decimal_injective m n a.fits b.fits (sym a.digits ∙ b.digits)

-- ---- the first word

pub tail_is : (x y : Text) (xs ys : List Text) → x ∷ xs ≡ y ∷ ys → xs ≡ ys
tail_is x y xs ys e = cc

head_is : (x y : Text) (xs ys : List Text) → x ∷ xs ≡ y ∷ ys → x ≡ y
head_is x y xs ys e = cc

-- the word of a command
abbrev pub word_of : Command → Text
word_of (Check m p) = codes "check"
word_of (Run m p j budget quiet) = codes "run"
word_of (Gen seed plan) = codes "gen"
word_of (Plan m s robots horizon) = codes "plan"

-- the first of its words is its own
pub first_is : (word : Text) (rest : List Text) (command : Command) → IsCommand (word ∷ rest) command → word ≡ word_of command
first_is word rest (Check m p) is = head_is word _ rest _ is.written.words_are
first_is word rest (Run m p j budget quiet) is = head_is word _ rest _ is.written.words_are
first_is word rest (Gen seed plan) is = head_is word _ rest _ is.written.words_are
first_is word rest (Plan m s robots horizon) is = head_is word _ rest _ is.written.words_are
