use Rattle.std.proofs.Common.{◌≡◌, ◌∙◌, sym, ap, subst, ℕ, List, ◌++◌, ◌∷◌, [], take, drop, take-append-drop, true≢false}
use Rattle.std.proofs.lemmas.Slice.Eq.{bytes_eq-Decides}
use Rattle.command_words.specs.Grammar.{IsName}
use Rattle.command_words.specs.Telling.{a_name, grammar_of}
use Rattle.command_words.proofs.Known.{key_known, known_key, known_name}
use Rattle.command_words.proofs.keys.is_known.Goals as goal

pub returns-in-Some : goal.returns-in-Some
returns-in-Some c =
    let cut = c.in-Some.ensures.cases in
    let bytes = c.as_bytes-bytes.result.now in
    let front : take 2 bytes ≡ 45 ∷ 45 ∷ [] = (bytes_eq-Decides (take 2 bytes) (45 ∷ 45 ∷ [])).0 cut.0 in
    let whole : c.args.word.now ≡ 45 ∷ 45 ∷ c.in-Some.rest.now =
    sym c.as_bytes-bytes.ensures.value ∙ sym (take-append-drop 2 bytes) ∙ ap (λ (l : List ℕ). l ++ drop 2 bytes) front ∙ ap (λ (l : List ℕ). 45 ∷ 45 ∷ l) (sym cut.1) in
    (λ yes. key_known c.args.keys.now c.args.word.now c.in-Some.rest.now whole (c.is_key.ensures.0 yes), λ known. c.is_key.ensures.1 (known_key c.args.keys.now c.args.word.now c.in-Some.rest.now whole known))

pub returns-in-None : goal.returns-in-None
returns-in-None c =
    let same : c.as_bytes-bytes.result.now ≡ c.args.word.now = c.as_bytes-bytes.ensures.value in (
      λ yes. a_name (subst IsName same (c.is_name.ensures.0 yes)),
      λ known.
          c.is_name.ensures.1 (subst IsName (sym same) (known_name (grammar_of c.args.keys.now) c.args.word.now
          (λ front. true≢false (sym ((bytes_eq-Decides (take 2 c.as_bytes-bytes.result.now) (45 ∷ 45 ∷ [])).1 (ap (λ (l : List ℕ). take 2 l) same ∙ front)) ∙ c.in-None.ensures.cases)) known)),
    )
