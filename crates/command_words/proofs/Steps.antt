-- What `clap` makes of each word of a command.
use Rattle.std.proofs.Common.{◌≡◌, ◌+◌, ◌&&◌, ◌==◌, inl, inr, refl, ℕ, suc, Bool, true, false, eqb-true, List, [], ◌∷◌, ◌++◌, min, Some, None}
use Rattle.std.specs.Prelude.{bytes_eq}
use Rattle.std.proofs.lemmas.Bool.{cases_Bool}
use Rattle.clap.specs.Lexer.{long_of, short_of, usize_max}
use Rattle.clap.specs.Walk.{Held, Rule, Text, Walk, idle, option, arg_by_id, arg_by_index, arg_by_long, reacted, settled, walked, is_pending}
use Rattle.clap.specs.Simple.{Shape, filled, new_rule, new_shape, with_index}
use Rattle.clap.specs.Kinds.{or_else}
use Rattle.clap.specs.Faults.{settle_fault, turn_fault, use_fault, walk_fault}
use Rattle.clap.specs.declared.builder.action.ArgAction.TheVariants.{SetTrue}
use Rattle.clap.specs.declared.error.kind.ErrorKind.TheVariants as kind
use Rattle.command_words.specs.Grammar.{Grammar, IsName, IsOneOf, dashed}

-- ---- a command, as it is built

-- an option, a flag, and the name at a place, as they are filled in
abbrev pub option_rule : Text → Rule
option_rule o = filled (record (new_rule o) { long = Some o })

abbrev pub flag_rule : Text → Rule
flag_rule f = filled (record (new_rule f) { long = Some f; action = Some SetTrue })

abbrev pub name_rule : Text → ℕ → Rule
name_rule id i = with_index i (filled (new_rule id))

-- a command with these arguments and nothing else
abbrev pub shape : Text → List Rule → Shape
shape word c = record (new_shape word) { rules = c; is_built = true; disable_help_flag = true; disable_help_subcommand = true }

-- the argument is found by its name, with and without a value
pub record Knows (c : List Rule) (key : Text) (a : Rule) : Type 0 where
  pub by_long : arg_by_long c key ≡ Some a
  pub by_id : arg_by_id c key ≡ Some a
  pub same : bytes_eq key key ≡ true
  pub bare : long_of (dashed key) ≡ Some (key, None)
  pub bare_end : bytes_eq (dashed key) (45 ∷ 45 ∷ []) ≡ false
  pub valued : (v : Text) → long_of (dashed key ++ 61 ∷ v) ≡ Some (key, Some v)
  pub valued_end : (v : Text) → bytes_eq (dashed key ++ 61 ∷ v) (45 ∷ 45 ∷ []) ≡ false

-- so is each option and each flag
pub record Fits (g : Grammar) (c : List Rule) : Type 0 where
  pub options : (o : Text) → IsOneOf g.options o → Knows c o (option_rule o)
  pub flags : (f : Text) → IsOneOf g.flags f → Knows c f (flag_rule f)

-- the names from a place on have these ids
abbrev pub NamesAt : List Rule → ℕ → List Text → Type 0
NamesAt c p [] = arg_by_index c p ≡ None
NamesAt c p (id ∷ ids) = (arg_by_index c p ≡ Some (name_rule id p)) × (arg_by_id c id ≡ Some (name_rule id p)) × (min (p + 1) usize_max ≡ suc p) × (bytes_eq id id ≡ true) × NamesAt c (suc p) ids

-- ---- the walk

-- between two parts
abbrev pub at : Held → ℕ → Walk
at h p = record { held = h; waiting = idle; position = p; is_trailing = false; stopped = None }

-- behind an option whose value is to come
abbrev pub owing : List Rule → Held → Text → ℕ → Walk
owing c h o p = record { held = record (settled c h) { pending = Some (o, []) }; waiting = option o; position = p; is_trailing = false; stopped = None }

-- with a value that is still to be used
abbrev pub holding : List Rule → Held → Text → Text → Held
holding c h key v = record (settled c h) { pending = Some (key, v ∷ []) }

-- a word that is no flag
pub record IsPlainWord (w : Text) : Type 0 where
  pub no_long : long_of w ≡ None
  pub no_short : short_of w ≡ None
  pub no_end : bytes_eq w (45 ∷ 45 ∷ []) ≡ false

pub name_is_plain : (w : Text) → IsName w → IsPlainWord w
name_is_plain [] n = absurd n
name_is_plain (c ∷ cs) n = elim (cases_Bool (c == 45)) [
  | inl e ↦ absurd (n (eqb-true c 45 e))
  | inr e ↦ record { no_long = rw e refl; no_short = rw e refl; no_end = rw e refl }
]

pub flag_step : (c : List Rule) (h : Held) (p : ℕ) (f : Text) → Knows c f (flag_rule f) → walked c [] (at h p) (dashed f) ≡ at (reacted c (flag_rule f) [] h) p
unfolding walked
flag_step c h p f k = rw (k.bare, k.bare_end, k.by_long) refl

pub joined_step : (c : List Rule) (h : Held) (p : ℕ) (o v : Text) → Knows c o (option_rule o) → walked c [] (at h p) (dashed o ++ 61 ∷ v) ≡ at (reacted c (option_rule o) (v ∷ []) h) p
unfolding walked
joined_step c h p o v k = let e1 = k.valued v in let e2 = k.valued_end v in rw (e1, e2, k.by_long) refl

pub open_step : (c : List Rule) (h : Held) (p : ℕ) (o : Text) → Knows c o (option_rule o) → walked c [] (at h p) (dashed o) ≡ owing c h o p
unfolding walked
open_step c h p o k = rw (k.bare, k.bare_end, k.by_long) refl

pub value_step : (c : List Rule) (h : Held) (p : ℕ) (o v : Text) → Knows c o (option_rule o) → IsPlainWord v → walked c [] (owing c h o p) v ≡ at (holding c h o v) p
unfolding walked
value_step c h p o v k w = rw (w.no_end, w.no_long, w.no_short, k.by_id, k.same) refl

and_false : (b : Bool) → (b && false) ≡ false
and_false true = refl
and_false false = refl

pub name_step : (c : List Rule) (h : Held) (p : ℕ) (id w : Text) → arg_by_index c p ≡ Some (name_rule id p) → min (p + 1) usize_max ≡ suc p → IsPlainWord w → walked c [] (at h p) w ≡ at (holding c h id w) (suc p)
unfolding walked
name_step c h p id w found next plain =
    let none = and_false (is_pending (name_rule id p) h.pending) in
    rw (plain.no_end, plain.no_long, plain.no_short, found, next, none) refl

-- ---- what is refused

pub flag_turn : (word : Text) (c : List Rule) (h : Held) (p : ℕ) (f : Text) → Knows c f (flag_rule f) → turn_fault (shape word c) [] (at h p) (dashed f) ≡ or_else (or_else (settle_fault c false h) (use_fault false (flag_rule f) [] (settled c h).rows)) []
flag_turn word c h p f k = rw (k.bare, k.bare_end, k.by_long) refl

pub joined_turn : (word : Text) (c : List Rule) (h : Held) (p : ℕ) (o v : Text) → Knows c o (option_rule o) → turn_fault (shape word c) [] (at h p) (dashed o ++ 61 ∷ v) ≡ or_else (or_else (settle_fault c false h) (use_fault false (option_rule o) (v ∷ []) (settled c h).rows)) []
joined_turn word c h p o v k = let e1 = k.valued v in let e2 = k.valued_end v in rw (e1, e2, k.by_long) refl

pub open_turn : (word : Text) (c : List Rule) (h : Held) (p : ℕ) (o : Text) → Knows c o (option_rule o) → turn_fault (shape word c) [] (at h p) (dashed o) ≡ or_else (settle_fault c false h) []
open_turn word c h p o k = rw (k.bare, k.bare_end, k.by_long) refl

pub value_turn : (word : Text) (c : List Rule) (h : Held) (p : ℕ) (o v : Text) → Knows c o (option_rule o) → IsPlainWord v → turn_fault (shape word c) [] (owing c h o p) v ≡ []
value_turn word c h p o v k w = rw (w.no_end, w.no_long, w.no_short) refl

pub name_turn : (word : Text) (c : List Rule) (h : Held) (p : ℕ) (id w : Text) → arg_by_index c p ≡ Some (name_rule id p) → IsPlainWord w → turn_fault (shape word c) [] (at h p) w ≡ settle_fault c false h
name_turn word c h p id w found plain =
    let none = and_false (is_pending (name_rule id p) h.pending) in
    rw (plain.no_end, plain.no_long, plain.no_short, found, none) refl

pub stray_turn : (word : Text) (c : List Rule) (h : Held) (p : ℕ) (w : Text) → arg_by_index c p ≡ None → IsPlainWord w → turn_fault (shape word c) [] (at h p) w ≡ kind.UnknownArgument ∷ []
stray_turn word c h p w found plain = rw (plain.no_end, plain.no_long, plain.no_short, found) refl

-- an option whose value does not come is refused by the next flag or option, or at the end
pub owing_flag : (word : Text) (c : List Rule) (h : Held) (p : ℕ) (o f : Text) → Knows c o (option_rule o) → Knows c f (flag_rule f) → turn_fault (shape word c) [] (owing c h o p) (dashed f) ≡ kind.InvalidValue ∷ []
owing_flag word c h p o f k m = rw (m.bare, m.bare_end, m.by_long, k.by_id) refl

pub owing_joined : (word : Text) (c : List Rule) (h : Held) (p : ℕ) (o q v : Text) → Knows c o (option_rule o) → Knows c q (option_rule q) → turn_fault (shape word c) [] (owing c h o p) (dashed q ++ 61 ∷ v) ≡ kind.InvalidValue ∷ []
owing_joined word c h p o q v k m = let e1 = m.valued v in let e2 = m.valued_end v in rw (e1, e2, m.by_long, k.by_id) refl

pub owing_open : (word : Text) (c : List Rule) (h : Held) (p : ℕ) (o q : Text) → Knows c o (option_rule o) → Knows c q (option_rule q) → turn_fault (shape word c) [] (owing c h o p) (dashed q) ≡ kind.InvalidValue ∷ []
owing_open word c h p o q k m = rw (m.bare, m.bare_end, m.by_long, k.by_id) refl

pub owing_end : (c : List Rule) (h : Held) (p : ℕ) (o : Text) → Knows c o (option_rule o) → settle_fault c false (owing c h o p).held ≡ kind.InvalidValue ∷ []
owing_end c h p o k = rw k.by_id refl

pub turns : (s : Shape) (w : Walk) (word : Text) (rest : List Text) → walk_fault s [] w (word ∷ rest) ≡ or_else (turn_fault s [] w word) (walk_fault s [] (walked s.rules [] w word) rest)
unfolding walk_fault
turns s w word rest = refl
