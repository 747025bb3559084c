-- The words after a command: names, flags, and options with their values.
use Rattle.std.specs.Prelude.{ℕ, ◌≡◌, ◌≢◌, ◌≤◌, ◌⊎◌, Bool, true, false, if◌then◌else◌, List, [], ◌∷◌, ◌++◌, flat_map, bytes_eq, Option, Some, None}
use Rattle.fleet_base.specs.Bytes.{IsNumber}

-- a name is not empty, and does not begin with `-`; so is the value of an option
abbrev pub IsName : List ℕ → Type 0
IsName [] = ⊥
IsName (c ∷ cs) = c ≢ 45

-- the options and the flags of a command, without their hyphens
pub record Grammar : Type 0 where
  pub options : List (List ℕ)
  pub flags : List (List ℕ)

-- a name, a flag, or an option with its value, as `--option=value` or as `--option value`
pub data Part : Type 0 where
  name : List ℕ → Part
  flag : List ℕ → Part
  joined : List ℕ → List ℕ → Part
  apart : List ℕ → List ℕ → Part

-- a word with two hyphens in front
abbrev pub dashed : List ℕ → List ℕ
dashed word = 45 ∷ 45 ∷ word

-- the words of a part
abbrev pub words_of : Part → List (List ℕ)
words_of (name w) = w ∷ []
words_of (flag f) = dashed f ∷ []
words_of (joined o v) = (dashed o ++ 61 ∷ v) ∷ []
words_of (apart o v) = dashed o ∷ v ∷ []

-- x is one of these
abbrev pub IsOneOf : List (List ℕ) → List ℕ → Type 0
IsOneOf [] x = ⊥
IsOneOf (k ∷ ks) x = (x ≡ k) ⊎ IsOneOf ks x

-- the part is a name, or a flag or an option of the command
abbrev pub IsPart : Grammar → Part → Type 0
IsPart g (name w) = IsName w
IsPart g (flag f) = IsOneOf g.flags f
IsPart g (joined o v) = IsOneOf g.options o × IsName v
IsPart g (apart o v) = IsOneOf g.options o × IsName v

-- so is each of these
abbrev pub AreParts : Grammar → List Part → Type 0
AreParts g [] = Unit {0}
AreParts g (p ∷ ps) = IsPart g p × AreParts g ps

-- the names among the parts
abbrev pub names_in : List Part → List (List ℕ)
names_in [] = []
names_in (name w ∷ ps) = w ∷ names_in ps
names_in (flag f ∷ ps) = names_in ps
names_in (joined o v ∷ ps) = names_in ps
names_in (apart o v ∷ ps) = names_in ps

-- the flags and options among them
abbrev pub keys_in : List Part → List (List ℕ)
keys_in [] = []
keys_in (name w ∷ ps) = keys_in ps
keys_in (flag f ∷ ps) = f ∷ keys_in ps
keys_in (joined o v ∷ ps) = o ∷ keys_in ps
keys_in (apart o v ∷ ps) = o ∷ keys_in ps

-- each comes at most once
abbrev pub AreOnce : List (List ℕ) → Type 0
AreOnce [] = Unit {0}
AreOnce (k ∷ ks) = (IsOneOf ks k → ⊥) × AreOnce ks

-- the value that is given to an option
abbrev pub value_in : List ℕ → List Part → Option (List ℕ)
value_in key [] = None
value_in key (name w ∷ ps) = value_in key ps
value_in key (flag f ∷ ps) = value_in key ps
value_in key (joined o v ∷ ps) = if bytes_eq o key then Some v else value_in key ps
value_in key (apart o v ∷ ps) = if bytes_eq o key then Some v else value_in key ps

-- a flag is given
abbrev pub is_given : List ℕ → List Part → Bool
is_given key [] = false
is_given key (name w ∷ ps) = is_given key ps
is_given key (flag f ∷ ps) = if bytes_eq f key then true else is_given key ps
is_given key (joined o v ∷ ps) = is_given key ps
is_given key (apart o v ∷ ps) = is_given key ps

-- The words are a command's own word and then these parts, in any order, with these names. Each flag and each option comes at most
-- once.
pub record IsWritten (word : List ℕ) (g : Grammar) (words : List (List ℕ)) (parts : List Part) (names : List (List ℕ)) : Type 0 where
  pub words_are : words ≡ word ∷ flat_map words_of parts
  pub are_parts : AreParts g parts
  pub once : AreOnce (keys_in parts)
  pub names_are : names_in parts ≡ names

-- the number that an option gives, from `least` to `most`; without the option, the usual one
abbrev pub IsNumberOr : ℕ → ℕ → ℕ → Option (List ℕ) → ℕ → Type 0
IsNumberOr usual least most None n = n ≡ usual
IsNumberOr usual least most (Some text) n = IsNumber text n × (least ≤ n) × (n ≤ most)
