-- Words that `clap` does not refuse, each of which is known, are those of parts.
use Rattle.std.proofs.Common.{◌≡◌, ◌∙◌, ◌≤◌, refl, sym, ap, subst, arith, ℕ, suc, true, false, List, [], ◌∷◌, ◌++◌, length}
use Rattle.std.specs.Prelude.{bytes_eq, flat_map, fold}
use Rattle.clap.specs.Walk.{Held, Row, Rule, Text, Walk, has_row, reacted, settled, walked}
use Rattle.clap.specs.Faults.{settle_fault, turn_fault, use_fault, walk_fault}
use Rattle.command_words.specs.Grammar.{Grammar, Part, name, flag, joined, apart, IsName, IsOneOf, dashed, words_of, AreParts, AreOnce, names_in, keys_in}
use Rattle.command_words.specs.Telling.{IsKnown, a_name, a_flag, an_option, with_value, AreKnown}
use Rattle.command_words.proofs.Steps.{option_rule, flag_rule, name_rule, shape, Fits, Knows, NamesAt, at, owing, holding, name_is_plain, flag_step, joined_step, open_step, value_step, name_step, flag_turn, joined_turn, open_turn, name_turn, stray_turn, owing_flag, owing_joined, owing_open, owing_end, turns}
use Rattle.command_words.proofs.Rows.{option_row, flag_row, name_row, none_left, none_right, option_used, flag_used, name_used, option_free, flag_free, name_free, once_more, still_fresh}

-- the words are those of parts, and nothing is refused from here on
pub record Found (g : Grammar) (c : List Rule) (h : Held) (ids : List Text) (ws : List Text) : Type 0 where
  pub parts : List Part
  pub are : ws ≡ flat_map words_of parts
  pub each : AreParts g parts
  pub few : length (names_in parts) ≤ length ids
  pub clear : settle_fault c false h ≡ []
  pub once : AreOnce (keys_in parts)
  pub fresh : (k : Text) → has_row k (settled c h).rows ≡ true → IsOneOf (keys_in parts) k → ⊥

-- the walk over these words is refused nowhere, and leaves nothing that is
pub record Passes (word : Text) (c : List Rule) (w : Walk) (ws : List Text) : Type 0 where
  pub each : walk_fault (shape word c) [] w ws ≡ []
  pub end : settle_fault c false (fold (walked c []) w ws).held ≡ []

head_passes : (word : Text) (c : List Rule) (w : Walk) (x : Text) (ws : List Text) → Passes word c w (x ∷ ws) → turn_fault (shape word c) [] w x ≡ []
head_passes word c w x ws p = none_left _ _ (sym (turns (shape word c) w x ws) ∙ p.each)

rest_passes : (word : Text) (c : List Rule) (w now : Walk) (x : Text) (ws : List Text) → walked c [] w x ≡ now → Passes word c w (x ∷ ws) → Passes word c now ws
rest_passes word c w now x ws e p = subst (λ (n : Walk). Passes word c n ws) e (record {
  each = none_right (turn_fault (shape word c) [] w x) _ (sym (turns (shape word c) w x ws) ∙ p.each);
  end = p.end;
})

-- a flag, or an option in one word, and then the rest
after_key : (g : Grammar) (c : List Rule) (h now : Held) (ids ws : List Text) (x : Text) (part : Part) (key : Text) (r : Row) (f : Found g c now ids ws)
    → x ∷ [] ≡ words_of part → AreParts g (part ∷ []) → names_in (part ∷ f.parts) ≡ names_in f.parts → keys_in (part ∷ f.parts) ≡ key ∷ keys_in f.parts
    → settle_fault c false h ≡ [] → r.id ≡ key → bytes_eq key key ≡ true → has_row key (settled c h).rows ≡ false → (settled c now).rows ≡ (settled c h).rows ++ r ∷ []
    → Found g c h ids (x ∷ ws)
after_key g c h now ids ws x part key r f words is names keys clear id same free rows =
    let more = once_more key (settled c h).rows (settled c now).rows r (keys_in f.parts) id same free rows f.once f.fresh in
    record {
      parts = part ∷ f.parts;
      are = ap (λ (l : List Text). x ∷ l) f.are ∙ ap (λ (l : List Text). l ++ flat_map words_of f.parts) words;
      each = (is.0, f.each);
      few = subst (λ (l : List Text). length l ≤ length ids) (sym names) f.few;
      clear = clear;
      once = subst AreOnce (sym keys) more.0;
      fresh = λ k there one. more.1 k there (subst (λ (l : List Text). IsOneOf l k) keys one);
    }

-- what a walk over these words finds, from wherever it begins
abbrev pub Finds : Text → Grammar → List Rule → List Text → Type 0
Finds word g c ws = (h : Held) (p : ℕ) (ids : List Text) → NamesAt c p ids → Passes word c (at h p) ws → Found g c h ids ws

name_found : (word : Text) (g : Grammar) (c : List Rule) (x : Text) (ws : List Text) → Finds word g c ws → IsName x → (h : Held) (p : ℕ) (ids : List Text) → NamesAt c p ids → Passes word c (at h p) (x ∷ ws) → Found g c h ids (x ∷ ws)
name_found word g c x ws finds n h p [] names passes = absurd (let e = sym (stray_turn word c h p x names (name_is_plain x n)) ∙ head_passes word c (at h p) x ws passes in cc)
name_found word g c x ws finds n h p (id ∷ ids) names passes =
    let plain = name_is_plain x n in
    let now = holding c h id x in
    let f = finds now (suc p) ids names.4 (rest_passes word c (at h p) (at now (suc p)) x ws (name_step c h p id x names.0 names.2 plain) passes) in
    let clear = sym (name_turn word c h p id x names.0 plain) ∙ head_passes word c (at h p) x ws passes in
    let used_once : use_fault false (name_rule id p) (x ∷ []) (settled c h).rows ≡ [] = rw names.1 at f.clear in
    let free = name_free id x p (settled c h).rows used_once in
    let rows : (settled c now).rows ≡ (settled c h).rows ++ name_row id x ∷ [] = rw names.1 (name_used id x p (settled c h).rows free) in
    record {
      parts = name x ∷ f.parts;
      are = ap (λ (l : List Text). x ∷ l) f.are;
      each = (n, f.each);
      few = omega (arith, f.few);
      clear = clear;
      once = f.once;
      fresh = still_fresh (settled c h).rows (settled c now).rows (name_row id x) (keys_in f.parts) rows f.fresh;
    }

flag_found : (word : Text) (g : Grammar) (c : List Rule) → Fits g c → (x : Text) (ws : List Text) → Finds word g c ws → (key : Text) → IsOneOf g.flags key → x ≡ dashed key → (h : Held) (p : ℕ) (ids : List Text) → NamesAt c p ids → Passes word c (at h p) (x ∷ ws) → Found g c h ids (x ∷ ws)
flag_found word g c fits x ws finds key m e h p ids names passes =
    let k = fits.flags key m in
    let now = reacted c (flag_rule key) [] h in
    let passes_too = subst (λ (t : Text). Passes word c (at h p) (t ∷ ws)) e passes in
    let f = finds now p ids names (rest_passes word c (at h p) (at now p) (dashed key) ws (flag_step c h p key k) passes_too) in
    let both = none_left _ _ (sym (flag_turn word c h p key k) ∙ head_passes word c (at h p) (dashed key) ws passes_too) in
    let clear = none_left _ _ both in
    let free = flag_free key (settled c h).rows (none_right (settle_fault c false h) _ both) in
    after_key g c h now ids ws x (flag key) key (flag_row key) f (ap (λ (t : Text). t ∷ []) e) (m, tt) refl refl clear refl k.same free (flag_used key (settled c h).rows free)

joined_found : (word : Text) (g : Grammar) (c : List Rule) → Fits g c → (x : Text) (ws : List Text) → Finds word g c ws → (key v : Text) → IsOneOf g.options key → IsName v → x ≡ dashed key ++ 61 ∷ v → (h : Held) (p : ℕ) (ids : List Text) → NamesAt c p ids → Passes word c (at h p) (x ∷ ws) → Found g c h ids (x ∷ ws)
joined_found word g c fits x ws finds key v m n e h p ids names passes =
    let k = fits.options key m in
    let now = reacted c (option_rule key) (v ∷ []) h in
    let passes_too = subst (λ (t : Text). Passes word c (at h p) (t ∷ ws)) e passes in
    let f = finds now p ids names (rest_passes word c (at h p) (at now p) (dashed key ++ 61 ∷ v) ws (joined_step c h p key v k) passes_too) in
    let both = none_left _ _ (sym (joined_turn word c h p key v k) ∙ head_passes word c (at h p) (dashed key ++ 61 ∷ v) ws passes_too) in
    let clear = none_left _ _ both in
    let free = option_free key v (settled c h).rows (none_right (settle_fault c false h) _ both) in
    after_key g c h now ids ws x (joined key v) key (option_row key v) f (ap (λ (t : Text). t ∷ []) e) ((m, n), tt) refl refl clear refl k.same free (option_used key v (settled c h).rows free)

-- behind an option without its value, what is no name is refused
no_value : (word : Text) (g : Grammar) (c : List Rule) → Fits g c → (h : Held) (p : ℕ) (o v : Text) → Knows c o (option_rule o) → IsKnown g v → turn_fault (shape word c) [] (owing c h o p) v ≡ [] → IsName v
no_value word g c fits h p o v k (a_name n) e = n
no_value word g c fits h p o v k (a_flag f m is) e = absurd (let bad = sym (owing_flag word c h p o f k (fits.flags f m)) ∙ subst (λ (t : Text). turn_fault (shape word c) [] (owing c h o p) t ≡ []) is e in cc)
no_value word g c fits h p o v k (an_option q m is) e = absurd (let bad = sym (owing_open word c h p o q k (fits.options q m)) ∙ subst (λ (t : Text). turn_fault (shape word c) [] (owing c h o p) t ≡ []) is e in cc)
no_value word g c fits h p o v k (with_value q w m n is) e = absurd (let bad = sym (owing_joined word c h p o q w k (fits.options q m)) ∙ subst (λ (t : Text). turn_fault (shape word c) [] (owing c h o p) t ≡ []) is e in cc)

apart_found : (word : Text) (g : Grammar) (c : List Rule) → Fits g c → (x v : Text) (ws : List Text) → Finds word g c ws → IsKnown g v → (key : Text) → IsOneOf g.options key → x ≡ dashed key → (h : Held) (p : ℕ) (ids : List Text) → NamesAt c p ids → Passes word c (at h p) (x ∷ v ∷ ws) → Found g c h ids (x ∷ v ∷ ws)
apart_found word g c fits x v ws finds known key m e h p ids names passes =
    let k = fits.options key m in
    let passes_too = subst (λ (t : Text). Passes word c (at h p) (t ∷ v ∷ ws)) e passes in
    let opened = rest_passes word c (at h p) (owing c h key p) (dashed key) (v ∷ ws) (open_step c h p key k) passes_too in
    let n = no_value word g c fits h p key v k known (head_passes word c (owing c h key p) v ws opened) in
    let now = holding c h key v in
    let f = finds now p ids names (rest_passes word c (owing c h key p) (at now p) v ws (value_step c h p key v k (name_is_plain v n)) opened) in
    let clear = none_left _ _ (sym (open_turn word c h p key k) ∙ head_passes word c (at h p) (dashed key) (v ∷ ws) passes_too) in
    let used_once : use_fault false (option_rule key) (v ∷ []) (settled c h).rows ≡ [] = rw k.by_id at f.clear in
    let free = option_free key v (settled c h).rows used_once in
    let rows : (settled c now).rows ≡ (settled c h).rows ++ option_row key v ∷ [] = rw k.by_id (option_used key v (settled c h).rows free) in
    let more = once_more key (settled c h).rows (settled c now).rows (option_row key v) (keys_in f.parts) refl k.same free rows f.once f.fresh in
    record {
      parts = apart key v ∷ f.parts;
      are = ap (λ (t : Text). t ∷ v ∷ ws) e ∙ ap (λ (l : List Text). dashed key ∷ v ∷ l) f.are;
      each = ((m, n), f.each);
      few = f.few;
      clear = clear;
      once = more.0;
      fresh = more.1;
    }

-- an option at the end has no value
no_end : (word : Text) (g : Grammar) (c : List Rule) → Fits g c → (x key : Text) → IsOneOf g.options key → x ≡ dashed key → (h : Held) (p : ℕ) → Passes word c (at h p) (x ∷ []) → ⊥
no_end word g c fits x key m e h p passes =
    let k = fits.options key m in
    let opened = rest_passes word c (at h p) (owing c h key p) (dashed key) [] (open_step c h p key k) (subst (λ (t : Text). Passes word c (at h p) (t ∷ [])) e passes) in
    let bad = sym (owing_end c h p key k) ∙ opened.end in cc

-- known words that pass are those of parts
pub found : (word : Text) (g : Grammar) (c : List Rule) (fits : Fits g c) (ws : List Text) → AreKnown g ws → Finds word g c ws
found word g c fits [] known h p ids names passes = record { parts = []; are = refl; each = tt; few = omega arith; clear = passes.end; once = tt; fresh = λ k there one. one }
found word g c fits (x ∷ []) known h p ids names passes = elim known.0 [
  | a_name n ↦ name_found word g c x [] (found word g c fits [] tt) n h p ids names passes
  | a_flag f m e ↦ flag_found word g c fits x [] (found word g c fits [] tt) f m e h p ids names passes
  | an_option o m e ↦ absurd (no_end word g c fits x o m e h p passes)
  | with_value o v m n e ↦ joined_found word g c fits x [] (found word g c fits [] tt) o v m n e h p ids names passes
]
found word g c fits (x ∷ v ∷ ws) known h p ids names passes = elim known.0 [
  | a_name n ↦ name_found word g c x (v ∷ ws) (found word g c fits (v ∷ ws) known.1) n h p ids names passes
  | a_flag f m e ↦ flag_found word g c fits x (v ∷ ws) (found word g c fits (v ∷ ws) known.1) f m e h p ids names passes
  | an_option o m e ↦ apart_found word g c fits x v ws (found word g c fits ws known.1.1) known.1.0 o m e h p ids names passes
  | with_value o u m n e ↦ joined_found word g c fits x (v ∷ ws) (found word g c fits (v ∷ ws) known.1) o u m n e h p ids names passes
]
