-- Reading a line from its front: words, and numbers behind spaces.
use Rattle.std.specs.Prelude.{ℕ, ◌≡◌, ◌^◌, ◌<◌, ◌≤◌, List, [], ◌∷◌, ◌++◌, length, decimal, flat_map, Option, None, Some}
use Rattle.std.specs.List.{AllByRecursion}
use Rattle.fleet_base.specs.Bytes.{IsNumber, field, fields}

-- these words, and then a space and a number for each of the numbers
abbrev pub spelled : List ℕ → List ℕ → List ℕ
spelled words numbers = words ++ fields numbers

-- all of them are below 2^64
abbrev pub AllFit : List ℕ → Type 0
AllFit numbers = AllByRecursion (λ n. n < 2 ^ 64) numbers

-- the text is these words and so many numbers
abbrev pub IsSpelled : List ℕ → ℕ → List ℕ → Type 0
IsSpelled words count text = (numbers : List ℕ) × (length numbers ≡ count) × AllFit numbers × (text ≡ spelled words numbers)

-- all of them are below 2^32
abbrev pub AllSmall : List ℕ → Type 0
AllSmall numbers = AllByRecursion (λ n. n < 2 ^ 32) numbers

-- the text is these words and so many numbers below 2^32
abbrev pub IsSpelledSmall : List ℕ → ℕ → List ℕ → Type 0
IsSpelledSmall words count text = (numbers : List ℕ) × (length numbers ≡ count) × AllSmall numbers × (text ≡ spelled words numbers)

-- the bytes begin a text that has P
abbrev pub Begins : (List ℕ → Type 0) → List ℕ → Type 0
Begins P front = (rest : List ℕ) × P (front ++ rest)

-- The text does not have P, and what is left of it follows its longest front that begins a text which has P.
pub record Stops (P : List ℕ → Type 0) (text left : List ℕ) : Type 0 where
  pub front : List ℕ
  pub parts : front ++ left ≡ text
  pub outside : P text → ⊥
  pub begins : Begins P front
  pub longest : (f l : List ℕ) → f ++ l ≡ text → Begins P f → length f ≤ length front

-- the text goes on with some of the word, but not with all of it, and what is left follows
pub record BreaksOff (word text left : List ℕ) : Type 0 where
  pub front : List ℕ
  pub next : ℕ
  pub more : List ℕ
  pub of_word : front ++ next ∷ more ≡ word
  pub of_text : front ++ left ≡ text
  pub other : (rest : List ℕ) → left ≡ next ∷ rest → ⊥

-- the longest front of the text that is a number, and the rest
pub record TakesNumber (text : List ℕ) (n : ℕ) (rest : List ℕ) : Type 0 where
  pub parts : decimal n ++ rest ≡ text
  pub fits : n < 2 ^ 64
  pub longest : (f l : List ℕ) (m : ℕ) → f ++ l ≡ text → IsNumber f m → length f ≤ length (decimal n)

-- no front of the text is a number
abbrev pub HasNoNumber : List ℕ → Type 0
HasNoNumber text = (f l : List ℕ) (m : ℕ) → f ++ l ≡ text → IsNumber f m → ⊥

-- a space in front of the longest front that is a number, and the rest
pub record TakesField (text : List ℕ) (n : ℕ) (rest : List ℕ) : Type 0 where
  pub digits : List ℕ
  pub space : text ≡ (32 ∷ []) ++ digits
  pub number : TakesNumber digits n rest

-- the text does not begin with a space and a number: the space is missing, or the number behind it
pub data LacksField (text left : List ℕ) : Type 0 where
  no_space : BreaksOff (32 ∷ []) text left → LacksField text left
  no_number : text ≡ (32 ∷ []) ++ left → HasNoNumber left → LacksField text left

-- the digits are those of the value; there is no value before the first digit
abbrev pub Spells : Option ℕ → List ℕ → Type 0
Spells None digits = digits ≡ []
Spells (Some n) digits = IsNumber digits n
