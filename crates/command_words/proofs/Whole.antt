-- What `clap` makes of all words of a command.
use Rattle.std.proofs.Common.{◌≡◌, ◌≤◌, ◌⊎◌, ◌||◌, inl, inr, refl, sym, ap, subst, ℕ, Bool, true, false, List, [], ◌∷◌, length}
use Rattle.std.specs.Prelude.{flat_map, fold}
use Rattle.std.proofs.lemmas.Bool.{cases_Bool}
use Rattle.clap.specs.Walk.{Row, Rule, Text, has_row, nothing_held, settled, walk_from, walked, with_default}
use Rattle.clap.specs.Simple.{App, built, matches_of}
use Rattle.clap.specs.Faults.{check_fault, default_fault, defaults_fault, fault_of, settle_fault, walk_fault}
use Rattle.command_words.specs.Grammar.{Grammar, Part, name, flag, joined, apart, IsOneOf, words_of, AreParts, AreOnce, names_in, keys_in}
use Rattle.command_words.specs.Telling.{AreKnown, a_name, a_flag, an_option, with_value}
use Rattle.command_words.proofs.Steps.{option_rule, flag_rule, name_rule, shape, Fits, NamesAt, at}
use Rattle.command_words.proofs.Rows.{none_left, none_right, none_both}
use Rattle.command_words.proofs.Finding.{Found, found}
use Rattle.command_words.proofs.Matching.{rows_in, leaves, used_once}

-- no default is refused
abbrev pub AreClear : List Rule → Type 0
AreClear [] = Unit {0}
AreClear (a ∷ c) = ((rows : List Row) → default_fault rows a ≡ []) × AreClear c

or_true : (b : Bool) → (b || true) ≡ true
or_true true = refl
or_true false = refl

pub option_default : (o : Text) (rows : List Row) → default_fault rows (option_rule o) ≡ []
option_default o rows = let e = or_true (has_row o rows) in rw e refl

pub name_default : (id : Text) (p : ℕ) (rows : List Row) → default_fault rows (name_rule id p) ≡ []
name_default id p rows = let e = or_true (has_row id rows) in rw e refl

pub flag_default : (f : Text) (rows : List Row) → default_fault rows (flag_rule f) ≡ []
flag_default f rows = elim (cases_Bool (has_row f rows)) [ inl e ↦ rw e refl | inr e ↦ rw e refl ]

clear_defaults : (c : List Rule) → AreClear c → (rows : List Row) → defaults_fault rows c ≡ []
unfolding defaults_fault
clear_defaults [] clear rows = refl
clear_defaults (a ∷ c) clear rows = none_both _ _ (clear.0 rows) (clear_defaults c clear.1 (with_default rows a))

-- A command that is built of these arguments, with these ids of its names, and with the options and flags of the grammar.
pub record IsApp (a : App) (word : Text) (g : Grammar) (c : List Rule) (ids : List Text) : Type 0 where
  pub built_is : built a ≡ record { top = shape word c; subs = [] }
  pub binary : a.top.no_binary_name ≡ false
  pub fits : Fits g c
  pub names : NamesAt c 1 ids
  pub clear : AreClear c
  pub checks : (rows : List Row) → check_fault (shape word c) rows false ≡ []
  pub once : AreOnce ids
  pub far : (k : Text) → IsOneOf ids k → (IsOneOf g.options k ⊎ IsOneOf g.flags k) → ⊥

-- words that are not refused, each of which is known, are those of parts
pub words_found : (a : App) (word : Text) (g : Grammar) (c : List Rule) (ids : List Text) → IsApp a word g c ids → (x : Text) (ws : List Text) → AreKnown g ws → fault_of a (x ∷ ws) ≡ [] → Found g c nothing_held ids ws
words_found a word g c ids app x ws known e =
    let whole = rw (app.built_is, app.binary) at e in
    let each : walk_fault (shape word c) [] (at nothing_held 1) ws ≡ [] = none_left _ _ whole in
    let end : settle_fault c false (fold (walked c []) (at nothing_held 1) ws).held ≡ [] = none_left _ _ (none_right _ _ (none_right (walk_fault (shape word c) [] (at nothing_held 1) ws) _ whole)) in
    found word g c app.fits ws known nothing_held 1 ids app.names (record { each = each; end = end })

-- a key is an option or a flag
key_is : (g : Grammar) (ps : List Part) (k : Text) → AreParts g ps → IsOneOf (keys_in ps) k → IsOneOf g.options k ⊎ IsOneOf g.flags k
key_is g [] k parts m = absurd m
key_is g (name w ∷ ps) k parts m = key_is g ps k parts.1 m
key_is g (flag f ∷ ps) k parts (inl e) = inr (subst (IsOneOf g.flags) (sym e) parts.0)
key_is g (flag f ∷ ps) k parts (inr m) = key_is g ps k parts.1 m
key_is g (joined o v ∷ ps) k parts (inl e) = inl (subst (IsOneOf g.options) (sym e) parts.0.0)
key_is g (joined o v ∷ ps) k parts (inr m) = key_is g ps k parts.1 m
key_is g (apart o v ∷ ps) k parts (inl e) = inl (subst (IsOneOf g.options) (sym e) parts.0.0)
key_is g (apart o v ∷ ps) k parts (inr m) = key_is g ps k parts.1 m

-- the words of parts are not refused, and give the rows of the parts
pub record Gives (a : App) (c : List Rule) (words : List Text) (rows : List Row) : Type 0 where
  pub passes : fault_of a words ≡ []
  pub matches : matches_of a words ≡ fold with_default rows c

pub words_give : (a : App) (word : Text) (g : Grammar) (c : List Rule) (ids : List Text) → IsApp a word g c ids → (x : Text) (ps : List Part) → AreParts g ps → AreOnce (keys_in ps) → length (names_in ps) ≤ length ids → Gives a c (x ∷ flat_map words_of ps) (rows_in ids ps)
words_give a word g c ids app x ps parts once few =
    let l = leaves word g c app.fits ps nothing_held 1 ids app.names parts few refl (used_once ids ps app.once once (λ k i m. app.far k i (key_is g ps k parts m))) (λ k m. refl) in
    let ended : fold (walked c []) (walk_from nothing_held) (flat_map words_of ps) ≡ at l.held l.place = l.walk_is in
    let each : walk_fault (shape word c) [] (walk_from nothing_held) (flat_map words_of ps) ≡ [] = l.each in
    let rows : (settled c l.held).rows ≡ rows_in ids ps = l.rows_are in
    record {
      passes = rw (app.built_is, app.binary, ended, each, l.clear) (none_both _ _ (clear_defaults c app.clear (settled c l.held).rows) (app.checks _));
      matches = rw (app.built_is, app.binary, ended) (ap (λ (r : List Row). fold with_default r c) rows);
    }

-- the words of parts are known
pub parts_known : (g : Grammar) (ps : List Part) → AreParts g ps → AreKnown g (flat_map words_of ps)
parts_known g [] parts = tt
parts_known g (name w ∷ ps) parts = (a_name parts.0, parts_known g ps parts.1)
parts_known g (flag f ∷ ps) parts = (a_flag f parts.0 refl, parts_known g ps parts.1)
parts_known g (joined o v ∷ ps) parts = (with_value o v parts.0.0 parts.0.1 refl, parts_known g ps parts.1)
parts_known g (apart o v ∷ ps) parts = (an_option o parts.0.0 refl, (a_name parts.0.1, parts_known g ps parts.1))
