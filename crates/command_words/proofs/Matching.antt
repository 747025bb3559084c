-- In the words of parts, each at most once, `clap` refuses nothing and finds each use.
use Rattle.std.proofs.Common.{◌≡◌, ◌∙◌, ◌≤◌, ◌⊎◌, inl, inr, refl, sym, ap, arith, ℕ, suc, false, List, [], ◌∷◌, ◌++◌, length, append-nil}
use Rattle.std.specs.Prelude.{flat_map, fold}
use Rattle.clap.specs.Walk.{Held, Row, Rule, Text, Walk, has_row, reacted, settled, walked}
use Rattle.clap.specs.Simple.{Shape}
use Rattle.clap.specs.Faults.{settle_fault, turn_fault, walk_fault}
use Rattle.command_words.specs.Grammar.{Grammar, Part, name, flag, joined, apart, IsOneOf, dashed, words_of, AreParts, AreOnce, names_in, keys_in}
use Rattle.command_words.proofs.Steps.{option_rule, flag_rule, shape, Fits, NamesAt, at, owing, holding, name_is_plain, flag_step, joined_step, open_step, value_step, name_step, flag_turn, joined_turn, open_turn, value_turn, name_turn, turns}
use Rattle.command_words.proofs.Rows.{option_row, flag_row, name_row, none_both, option_used, flag_used, name_used, option_clear, flag_clear, name_clear, free_after, push_append}

-- the ids of what is used, where the names have these ids
abbrev pub uses : List Text → List Part → List Text
uses ids [] = []
uses ids (flag f ∷ ps) = f ∷ uses ids ps
uses ids (joined o v ∷ ps) = o ∷ uses ids ps
uses ids (apart o v ∷ ps) = o ∷ uses ids ps
uses [] (name w ∷ ps) = []
uses (id ∷ ids) (name w ∷ ps) = id ∷ uses ids ps

-- and their rows
abbrev pub rows_in : List Text → List Part → List Row
rows_in ids [] = []
rows_in ids (flag f ∷ ps) = flag_row f ∷ rows_in ids ps
rows_in ids (joined o v ∷ ps) = option_row o v ∷ rows_in ids ps
rows_in ids (apart o v ∷ ps) = option_row o v ∷ rows_in ids ps
rows_in [] (name w ∷ ps) = []
rows_in (id ∷ ids) (name w ∷ ps) = name_row id w ∷ rows_in ids ps

-- the walk over these words is refused nowhere, and leaves these rows behind those that were there
pub record Leaves (word : Text) (c : List Rule) (w : Walk) (before rows : List Row) (ws : List Text) : Type 0 where
  pub held : Held
  pub place : ℕ
  pub walk_is : fold (walked c []) w ws ≡ at held place
  pub each : walk_fault (shape word c) [] w ws ≡ []
  pub clear : settle_fault c false held ≡ []
  pub rows_are : (settled c held).rows ≡ before ++ rows

-- one word more in front
after_word : (word : Text) (c : List Rule) (w now : Walk) (before rows : List Row) (x : Text) (ws : List Text) → walked c [] w x ≡ now → turn_fault (shape word c) [] w x ≡ [] → Leaves word c now before rows ws → Leaves word c w before rows (x ∷ ws)
after_word word c w now before rows x ws step turn l = record {
  held = l.held;
  place = l.place;
  walk_is = ap (λ (n : Walk). fold (walked c []) n ws) step ∙ l.walk_is;
  each = turns (shape word c) w x ws ∙ none_both _ _ turn (ap (λ (n : Walk). walk_fault (shape word c) [] n ws) step ∙ l.each);
  clear = l.clear;
  rows_are = l.rows_are;
}

-- a row that a word left stands in front of the rest
with_row : (word : Text) (c : List Rule) (w : Walk) (before now : List Row) (r : Row) (rows : List Row) (ws : List Text) → now ≡ before ++ r ∷ [] → Leaves word c w now rows ws → Leaves word c w before (r ∷ rows) ws
with_row word c w before now r rows ws is l = record { held = l.held; place = l.place; walk_is = l.walk_is; each = l.each; clear = l.clear; rows_are = l.rows_are ∙ ap (λ (b : List Row). b ++ rows) is ∙ push_append before r rows }

no_words : (s : Shape) (w : Walk) → walk_fault s [] w [] ≡ []
unfolding walk_fault
no_words s w = refl

pub leaves : (word : Text) (g : Grammar) (c : List Rule) → Fits g c → (ps : List Part) (h : Held) (p : ℕ) (ids : List Text) → NamesAt c p ids → AreParts g ps → length (names_in ps) ≤ length ids → settle_fault c false h ≡ []
    → AreOnce (uses ids ps) → ((k : Text) → IsOneOf (uses ids ps) k → has_row k (settled c h).rows ≡ false) → Leaves word c (at h p) (settled c h).rows (rows_in ids ps) (flat_map words_of ps)
leaves word g c fits [] h p ids names parts few clear once free = record { held = h; place = p; walk_is = refl; each = no_words (shape word c) (at h p); clear = clear; rows_are = sym (append-nil (settled c h).rows) }
leaves word g c fits (name w ∷ ps) h p [] names parts few clear once free = absurd (omega (arith, few))
leaves word g c fits (name w ∷ ps) h p (id ∷ ids) names parts few clear once free =
    let now = holding c h id w in
    let plain = name_is_plain w parts.0 in
    let new = free id (inl refl) in
    let rows : (settled c now).rows ≡ (settled c h).rows ++ name_row id w ∷ [] = rw names.1 (name_used id w p (settled c h).rows new) in
    let next : settle_fault c false now ≡ [] = rw names.1 (name_clear id w p (settled c h).rows new) in
    after_word word c (at h p) (at now (suc p)) (settled c h).rows (rows_in (id ∷ ids) (name w ∷ ps)) w (flat_map words_of ps) (name_step c h p id w names.0 names.2 plain) (name_turn word c h p id w names.0 plain ∙ clear)
    (with_row word c (at now (suc p)) (settled c h).rows (settled c now).rows (name_row id w) (rows_in ids ps) (flat_map words_of ps) rows
    (leaves word g c fits ps now (suc p) ids names.4 parts.1 (omega (arith, few)) next once.1 (free_after id (settled c h).rows (settled c now).rows (name_row id w) (uses ids ps) refl rows once.0 free)))
leaves word g c fits (flag f ∷ ps) h p ids names parts few clear once free =
    let k = fits.flags f parts.0 in
    let now = reacted c (flag_rule f) [] h in
    let new = free f (inl refl) in
    let rows = flag_used f (settled c h).rows new in
    after_word word c (at h p) (at now p) (settled c h).rows (rows_in ids (flag f ∷ ps)) (dashed f) (flat_map words_of ps) (flag_step c h p f k) (flag_turn word c h p f k ∙ none_both _ [] (none_both _ _ clear (flag_clear f (settled c h).rows new)) refl)
    (with_row word c (at now p) (settled c h).rows (settled c now).rows (flag_row f) (rows_in ids ps) (flat_map words_of ps) rows
    (leaves word g c fits ps now p ids names parts.1 few refl once.1 (free_after f (settled c h).rows (settled c now).rows (flag_row f) (uses ids ps) refl rows once.0 free)))
leaves word g c fits (joined o v ∷ ps) h p ids names parts few clear once free =
    let k = fits.options o parts.0.0 in
    let now = reacted c (option_rule o) (v ∷ []) h in
    let new = free o (inl refl) in
    let rows = option_used o v (settled c h).rows new in
    after_word word c (at h p) (at now p) (settled c h).rows (rows_in ids (joined o v ∷ ps)) (dashed o ++ 61 ∷ v) (flat_map words_of ps) (joined_step c h p o v k) (joined_turn word c h p o v k ∙ none_both _ [] (none_both _ _ clear (option_clear o v (settled c h).rows new)) refl)
    (with_row word c (at now p) (settled c h).rows (settled c now).rows (option_row o v) (rows_in ids ps) (flat_map words_of ps) rows
    (leaves word g c fits ps now p ids names parts.1 few refl once.1 (free_after o (settled c h).rows (settled c now).rows (option_row o v) (uses ids ps) refl rows once.0 free)))
leaves word g c fits (apart o v ∷ ps) h p ids names parts few clear once free =
    let k = fits.options o parts.0.0 in
    let plain = name_is_plain v parts.0.1 in
    let now = holding c h o v in
    let new = free o (inl refl) in
    let rows : (settled c now).rows ≡ (settled c h).rows ++ option_row o v ∷ [] = rw k.by_id (option_used o v (settled c h).rows new) in
    let next : settle_fault c false now ≡ [] = rw k.by_id (option_clear o v (settled c h).rows new) in
    after_word word c (at h p) (owing c h o p) (settled c h).rows (rows_in ids (apart o v ∷ ps)) (dashed o) (v ∷ flat_map words_of ps) (open_step c h p o k) (open_turn word c h p o k ∙ none_both _ [] clear refl)
    (after_word word c (owing c h o p) (at now p) (settled c h).rows (rows_in ids (apart o v ∷ ps)) v (flat_map words_of ps) (value_step c h p o v k plain) (value_turn word c h p o v k plain)
    (with_row word c (at now p) (settled c h).rows (settled c now).rows (option_row o v) (rows_in ids ps) (flat_map words_of ps) rows
    (leaves word g c fits ps now p ids names parts.1 few next once.1 (free_after o (settled c h).rows (settled c now).rows (option_row o v) (uses ids ps) refl rows once.0 free))))

-- ---- keys and ids

-- what is used is an id of a name, a flag or an option
used_is : (ids : List Text) (ps : List Part) (k : Text) → IsOneOf (uses ids ps) k → IsOneOf ids k ⊎ IsOneOf (keys_in ps) k
used_is ids [] k m = absurd m
used_is [] (name w ∷ ps) k m = absurd m
used_is (id ∷ ids) (name w ∷ ps) k (inl e) = inl (inl e)
used_is (id ∷ ids) (name w ∷ ps) k (inr m) = elim (used_is ids ps k m) [ inl a ↦ inl (inr a) | inr b ↦ inr b ]
used_is ids (flag f ∷ ps) k (inl e) = inr (inl e)
used_is ids (flag f ∷ ps) k (inr m) = elim (used_is ids ps k m) [ inl a ↦ inl a | inr b ↦ inr (inr b) ]
used_is ids (joined o v ∷ ps) k (inl e) = inr (inl e)
used_is ids (joined o v ∷ ps) k (inr m) = elim (used_is ids ps k m) [ inl a ↦ inl a | inr b ↦ inr (inr b) ]
used_is ids (apart o v ∷ ps) k (inl e) = inr (inl e)
used_is ids (apart o v ∷ ps) k (inr m) = elim (used_is ids ps k m) [ inl a ↦ inl a | inr b ↦ inr (inr b) ]

-- no id of a name is a key
abbrev pub AreApart : List Text → List Text → Type 0
AreApart ids keys = (k : Text) → IsOneOf ids k → IsOneOf keys k → ⊥

key_once : (ids : List Text) (ps : List Part) (key : Text) → AreApart ids (key ∷ keys_in ps) → (IsOneOf (keys_in ps) key → ⊥) → IsOneOf (uses ids ps) key → ⊥
key_once ids ps key far once m = elim (used_is ids ps key m) [ inl a ↦ far key a (inl refl) | inr b ↦ once b ]

pub used_once : (ids : List Text) (ps : List Part) → AreOnce ids → AreOnce (keys_in ps) → AreApart ids (keys_in ps) → AreOnce (uses ids ps)
used_once ids [] once keys far = tt
used_once [] (name w ∷ ps) once keys far = tt
used_once (id ∷ ids) (name w ∷ ps) once keys far =
    (λ m. elim (used_is ids ps id m) [ inl a ↦ once.0 a | inr b ↦ far id (inl refl) b ], used_once ids ps once.1 keys (λ k a b. far k (inr a) b))
used_once ids (flag f ∷ ps) once keys far = (key_once ids ps f far keys.0, used_once ids ps once keys.1 (λ k a b. far k a (inr b)))
used_once ids (joined o v ∷ ps) once keys far = (key_once ids ps o far keys.0, used_once ids ps once keys.1 (λ k a b. far k a (inr b)))
used_once ids (apart o v ∷ ps) once keys far = (key_once ids ps o far keys.0, used_once ids ps once keys.1 (λ k a b. far k a (inr b)))
