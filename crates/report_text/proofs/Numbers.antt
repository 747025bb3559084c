-- Numbers by their digits: each front of a number is a number, and so is a number with one digit more, if it fits.
use Rattle.std.proofs.Common.{ℕ, ◌≡◌, ◌+◌, ◌-◌, ◌*◌, ◌/◌, ◌%◌, ◌^◌, ◌<◌, ◌≤◌, ◌⊎◌, List, [], ◌∷◌, ◌++◌, refl, sym, ap, ◌∙◌, subst, inl, inr, arith, length, take, drop, get_or, length-append, length-take}
use Rattle.std.specs.Prelude.{decimal, Option, None, Some, IfSome, IfNone}
use Rattle.std.specs.Option.{SomeIff}
use Rattle.std.proofs.lemmas.Fmt.{decimal_digit, decimal_step, decimal_by_steps, decimal_nonempty, decimal_injective}
use Rattle.std.proofs.lemmas.List.{same_from_push, append-nil, take-append-drop, take-append-le, take_more}
use Rattle.std.proofs.lemmas.Bool.{cases_lt}
use Rattle.fleet_base.specs.Bytes.{IsNumber}
use Rattle.report_text.specs.Reading.{TakesNumber, HasNoNumber, Spells}

nil_left : (xs ys : List ℕ) → xs ++ ys ≡ [] → (xs ≡ []) × (ys ≡ [])
nil_left [] ys e = (refl, e)
nil_left (x ∷ xs) ys e = cc

-- a front of a list that ends with c is the whole list, or a front of what stands before c
front_of_push : (f l ds : List ℕ) (c : ℕ) → f ++ l ≡ ds ++ c ∷ [] → (l ≡ []) ⊎ ((rest : List ℕ) × (f ++ rest ≡ ds))
front_of_push [] l ds c e = inr (ds, refl)
front_of_push (x ∷ f) l [] c e =
    let none : f ++ l ≡ [] = cc in
    inl (nil_left f l none).1
front_of_push (x ∷ f) l (d ∷ ds) c e =
    let head : x ≡ d = cc in
    let tail : f ++ l ≡ ds ++ c ∷ [] = cc in
    longer head (front_of_push f l ds c tail)
  where
    longer : x ≡ d → (l ≡ []) ⊎ ((rest : List ℕ) × (f ++ rest ≡ ds)) → (l ≡ []) ⊎ ((rest : List ℕ) × (x ∷ f ++ rest ≡ d ∷ ds))
    longer head (inl h) = inl h
    longer head (inr (rest, h)) = inr (rest, cc)

-- each front of these digits is a number
abbrev HasNumberFronts : ℕ → List ℕ → Type 0
HasNumberFronts n ds = (ds ≡ decimal n) × ((f l : List ℕ) → f ++ l ≡ ds → 0 < length f → (m : ℕ) × IsNumber f m)

one_digit : (n : ℕ) → n < 10 → n < 2 ^ 64 → HasNumberFronts n ((48 + n) ∷ [])
one_digit n small fits = (sym (decimal_digit n small), fronts)
  where
    fronts : (f l : List ℕ) → f ++ l ≡ (48 + n) ∷ [] → 0 < length f → (m : ℕ) × IsNumber f m
    fronts [] l e some = absurd (omega arith)
    fronts (x ∷ f) l e some =
        let rest : f ++ l ≡ [] = cc in
        let none = (nil_left f l rest).0 in
        let whole : x ∷ f ≡ (48 + n) ∷ [] = cc in
        (n, record { digits = whole ∙ sym (decimal_digit n small); fits = fits })

more_digits : (n : ℕ) (ds : List ℕ) → 10 ≤ n → (n / 10 < 2 ^ 64 → HasNumberFronts (n / 10) ds) → n < 2 ^ 64 → HasNumberFronts n (ds ++ ((48 + n % 10) ∷ []))
more_digits n ds big shorter fits = (whole, λ f l e some. go f l e some (front_of_push f l ds (48 + n % 10) e))
  where
    small : n / 10 < 2 ^ 64
    small = omega arith

    whole : ds ++ ((48 + n % 10) ∷ []) ≡ decimal n
    whole = ap (λ (l : List ℕ). l ++ ((48 + n % 10) ∷ [])) (shorter small).0 ∙ sym (decimal_step n big fits)

    go : (f l : List ℕ) → f ++ l ≡ ds ++ ((48 + n % 10) ∷ []) → 0 < length f → (l ≡ []) ⊎ ((rest : List ℕ) × (f ++ rest ≡ ds)) → (m : ℕ) × IsNumber f m
    go f l e some (inl none) =
        let all : f ++ [] ≡ decimal n = ap (λ (r : List ℕ). f ++ r) (sym none) ∙ e ∙ whole in
        (n, record { digits = sym (append-nil f) ∙ all; fits = fits })
    go f l e some (inr (rest, h)) = (shorter small).1 f rest h some

-- a front of a number is a number, unless it is empty
pub front_number : (n : ℕ) → n < 2 ^ 64 → (f l : List ℕ) → f ++ l ≡ decimal n → 0 < length f → (m : ℕ) × IsNumber f m
front_number n fits f l e some =
    (decimal_by_steps (λ m ds. m < 2 ^ 64 → HasNumberFronts m ds) one_digit more_digits n fits fits).1 f l e some

-- the first digit alone
pub number_first : (d : ℕ) → d < 10 → IsNumber ((48 + d) ∷ []) d
number_first d small = record { digits = sym (decimal_digit d small); fits = omega arith }

-- a number but 0 with one digit more
pub number_push : (digits : List ℕ) (v d : ℕ) → IsNumber digits v → 0 < v → d < 10 → v * 10 + d < 2 ^ 64 → IsNumber (digits ++ (48 + d) ∷ []) (v * 10 + d)
number_push digits v d is some small fits =
    let front : (v * 10 + d) / 10 ≡ v = omega arith in
    let last : (v * 10 + d) % 10 ≡ d = omega arith in
    let step = decimal_step (v * 10 + d) (omega arith) fits in
    let same : decimal (v * 10 + d) ≡ decimal v ++ (48 + d) ∷ [] = step ∙ ap (λ (m : ℕ). decimal m ++ ((48 + (v * 10 + d) % 10) ∷ [])) front ∙ ap (λ (m : ℕ). decimal v ++ (48 + m) ∷ []) last in
    record { digits = ap (λ (l : List ℕ). l ++ (48 + d) ∷ []) is.digits ∙ sym same; fits = fits }

-- what a number with one byte more says of that byte
pub record GrowsBy (v c n : ℕ) : Type 0 where
  pub some : 0 < v
  pub low : 48 ≤ c
  pub high : c < 58
  pub value : n ≡ v * 10 + (c - 48)

length_one : (xs : List ℕ) (c x : ℕ) → xs ++ c ∷ [] ≡ x ∷ [] → length xs ≡ 0
length_one xs c x e = omega (arith, ap length e, length-append xs (c ∷ []))

pub number_grows : (digits : List ℕ) (v c n : ℕ) → IsNumber digits v → IsNumber (digits ++ c ∷ []) n → GrowsBy v c n
number_grows digits v c n is longer = go (cases_lt n 10)
  where
    some_digits : 0 < length digits
    some_digits = subst (λ (l : List ℕ). 0 < length l) (sym is.digits) (decimal_nonempty v is.fits)

    go : (n < 10) ⊎ (10 ≤ n) → GrowsBy v c n
    go (inl small) = absurd (omega (arith, some_digits, length_one digits c (48 + n) (longer.digits ∙ decimal_digit n small)))
    go (inr big) =
        let parts = same_from_push digits (decimal (n / 10)) c (48 + n % 10) (longer.digits ∙ decimal_step n big longer.fits) in
        let small : n / 10 < 2 ^ 64 = omega (arith, longer.fits) in
        let front : v ≡ n / 10 = decimal_injective v (n / 10) is.fits small (sym is.digits ∙ parts.0) in
        let last = parts.1 in
        record { some = omega arith; low = omega arith; high = omega arith; value = omega arith }

-- a number of one byte
pub one_byte : (c n : ℕ) → IsNumber (c ∷ []) n → (48 ≤ c) × (c < 58)
one_byte c n is = go (cases_lt n 10)
  where
    go : (n < 10) ⊎ (10 ≤ n) → (48 ≤ c) × (c < 58)
    go (inl small) =
        let e : c ∷ [] ≡ (48 + n) ∷ [] = is.digits ∙ decimal_digit n small in
        let same : c ≡ 48 + n = cc in
        (omega arith, omega arith)
    go (inr big) =
        let step = is.digits ∙ decimal_step n big is.fits in
        absurd (omega (arith, decimal_nonempty (n / 10) (omega (arith, is.fits)), ap length step, length-append (decimal (n / 10)) ((48 + n % 10) ∷ [])))

-- ---- reading the digits one by one

-- what goes on to be a number goes on with a digit
pub goes_on_with_digit : (value : Option ℕ) (digits : List ℕ) (c n : ℕ) → Spells value digits → IsNumber (digits ++ c ∷ []) n → (48 ≤ c) × (c < 58)
goes_on_with_digit None digits c n none longer = one_byte c n (subst (λ (l : List ℕ). IsNumber (l ++ c ∷ []) n) none longer)
goes_on_with_digit (Some v) digits c n is longer = let grown = number_grows digits v c n is longer in (grown.low, grown.high)

-- the first digit, before which there is no value
pub first_digit : (value : Option ℕ) (c d : ℕ) (digits : List ℕ) → value ≡ None → 48 ≤ c → c ≤ 57 → d ≡ c - 48 → Spells value digits → IsNumber (digits ++ c ∷ []) d
first_digit value c d digits is low high gives spells =
    let none : digits ≡ [] = subst (λ (o : Option ℕ). Spells o digits) is spells in
    let byte : 48 + d ≡ c = omega arith in
    let number : IsNumber (c ∷ []) d = subst (λ (b : ℕ). IsNumber (b ∷ []) d) byte (number_first d (omega arith)) in
    subst (λ (l : List ℕ). IsNumber (l ++ c ∷ []) d) (sym none) number

-- no digit follows a zero, or makes a number that does not fit
pub no_more_digits : (value : Option ℕ) (v c : ℕ) → value ≡ Some v → (0 < v → v * 10 < 2 ^ 64 → ⊥) → (digits : List ℕ) (n : ℕ) → Spells value digits → IsNumber (digits ++ c ∷ []) n → ⊥
no_more_digits value v c is not digits n spells longer =
    let number : IsNumber digits v = subst (λ (o : Option ℕ). Spells o digits) is spells in
    let grown = number_grows digits v c n number longer in
    not grown.some (omega (arith, longer.fits))

-- what one digit more gives
abbrev GivesDigit : Option ℕ → ℕ → Option ℕ → Type 0
GivesDigit value c r = IfSome r (λ n. (digits : List ℕ) → Spells value digits → IsNumber (digits ++ c ∷ []) n) × IfNone r ((digits : List ℕ) (n : ℕ) → Spells value digits → IsNumber (digits ++ c ∷ []) n → ⊥)

pub next_digit : (value : Option ℕ) (v c tens d : ℕ) (r : Option ℕ) → value ≡ Some v → 0 < v → 48 ≤ c → c ≤ 57 → d ≡ c - 48 → tens ≡ v * 10 → SomeIff r (tens + d < 2 ^ 64) (tens + d) → GivesDigit value c r
next_digit value v c tens d None is some low high gives scaled cases = (
  tt,
  λ digits n spells longer.
      let number : IsNumber digits v = subst (λ (o : Option ℕ). Spells o digits) is spells in
      let grown = number_grows digits v c n number longer in
      cases (omega (arith, longer.fits)),
)
next_digit value v c tens d (Some x) is some low high gives scaled cases = (
  λ digits spells.
      let number : IsNumber digits v = subst (λ (o : Option ℕ). Spells o digits) is spells in
      let byte : 48 + d ≡ c = omega arith in
      let sum : v * 10 + d ≡ x = omega (arith, cases.1) in
      let longer = number_push digits v d number some (omega arith) (omega (arith, cases.0)) in
      subst (λ (m : ℕ). IsNumber (digits ++ c ∷ []) m) sum (subst (λ (b : ℕ). IsNumber (digits ++ b ∷ []) (v * 10 + d)) byte longer),
  tt,
)

-- the bytes up to i, with the next one, are no number
abbrev pub StopsAt : List ℕ → ℕ → Type 0
StopsAt text i = i < length text → (n : ℕ) → IsNumber (take i text ++ get_or text i 0 ∷ []) n → ⊥

-- then no number in front of the text is longer
no_longer : (text : List ℕ) (i : ℕ) → StopsAt text i → (f l : List ℕ) (m : ℕ) → f ++ l ≡ text → IsNumber f m → length f ≤ i
no_longer text i stop f l m e is = go (cases_lt i (length f))
  where
    go : (i < length f) ⊎ (length f ≤ i) → length f ≤ i
    go (inl more) =
        let inside : i < length text = omega (arith, ap length e, length-append f l) in
        let cut : take (i + 1) f ++ drop (i + 1) f ≡ decimal m = take-append-drop (i + 1) f ∙ is.digits in
        let some : 0 < length (take (i + 1) f) = omega (arith, length-take (i + 1) f) in
        let shorter = front_number m is.fits (take (i + 1) f) (drop (i + 1) f) cut some in
        let same : take (i + 1) f ≡ take i text ++ get_or text i 0 ∷ [] = sym (take-append-le (i + 1) f l (omega arith)) ∙ ap (take (i + 1)) e ∙ take_more text i 0 inside in
        absurd (stop inside shorter.0 (subst (λ (w : List ℕ). IsNumber w shorter.0) same shorter.1))
    go (inr le) = le

-- where it stops behind digits, they are the number
pub number_taken : (text : List ℕ) (i v : ℕ) → i ≤ length text → StopsAt text i → IsNumber (take i text) v → TakesNumber text v (drop i text)
number_taken text i v le stop is = record {
  parts = ap (λ (w : List ℕ). w ++ drop i text) (sym is.digits) ∙ take-append-drop i text;
  fits = is.fits;
  longest = λ f l m e number. omega (arith, no_longer text i stop f l m e number, ap length is.digits, length-take i text);
}

-- where it stops before any digit, there is no number
pub no_number : (text : List ℕ) (i : ℕ) → StopsAt text i → take i text ≡ [] → HasNoNumber text
no_number text i stop none f l m e number =
    let some : 0 < length f = subst (λ (w : List ℕ). 0 < length w) (sym number.digits) (decimal_nonempty m number.fits) in
    omega (arith, no_longer text i stop f l m e number, some, ap length none, length-take i text, ap length e, length-append f l)
