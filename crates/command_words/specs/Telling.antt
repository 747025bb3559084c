-- What each word is by itself, and a number in a word.
use Rattle.std.specs.Prelude.{ℕ, ◌≡◌, ◌⊎◌, List, [], ◌∷◌, ◌++◌, map, Any}
use Rattle.command_words.specs.declared.keys.Keys.{Keys}
use Rattle.command_words.specs.Grammar.{Grammar, IsName, IsOneOf, dashed}

-- the options and the flags that the code passes on
abbrev pub grammar_of : Keys → Grammar
grammar_of keys = record { options = map (λ k. k.now) keys.options.now; flags = map (λ k. k.now) keys.flags.now }

-- what may follow the name of an option in its word: nothing, or `=` (61) and a value
abbrev pub IsValue : List ℕ → Type 0
IsValue [] = Unit {0}
IsValue (c ∷ v) = (c ≡ 61) × IsName v

-- what follows two hyphens is the option, with its value or without it
abbrev pub UsesOption : List ℕ → List ℕ → Type 0
UsesOption rest option = (value : List ℕ) × IsValue value × (rest ≡ option ++ value)

-- what follows two hyphens is a flag, or an option with its value or without it
abbrev pub IsKey : Keys → List ℕ → Type 0
IsKey keys rest = Any (λ flag. rest ≡ flag.now) keys.flags.now ⊎ Any (λ option. UsesOption rest option.now) keys.options.now

-- the word is a name, or a flag or an option of the command, with its value or without it
pub data IsKnown (g : Grammar) (w : List ℕ) : Type 0 where
  a_name : IsName w → IsKnown g w
  a_flag : (f : List ℕ) → IsOneOf g.flags f → w ≡ dashed f → IsKnown g w
  an_option : (o : List ℕ) → IsOneOf g.options o → w ≡ dashed o → IsKnown g w
  with_value : (o v : List ℕ) → IsOneOf g.options o → IsName v → w ≡ dashed o ++ 61 ∷ v → IsKnown g w

-- so is each word
abbrev pub AreKnown : Grammar → List (List ℕ) → Type 0
AreKnown g [] = Unit {0}
AreKnown g (w ∷ ws) = IsKnown g w × AreKnown g ws
