-- Digits without a leading zero are the numeral of their value.
use Rattle.std.proofs.Common.{ℕ, zero, suc, ◌≡◌, ◌+◌, ◌-◌, ◌*◌, ◌/◌, ◌%◌, ◌<◌, ◌≤◌, false, List, [], ◌∷◌, ◌++◌, map, length, take, get_or, add-one, eqb, refl, sym, ap, ◌∙◌, arith}
use Rattle.std.specs.Int.Digits.{digits_of, number_from_digits}
use Rattle.std.proofs.lemmas.Bool.{ne_eqb}
use Rattle.std.proofs.lemmas.Int.Digits.{digits_of_step, all_below_base_digits_of, first_digits_of, number_digits_of, number_push}
use Rattle.std.proofs.lemmas.List.{map-append, length-map, get_or-map, map_more, take_more, take_all, get_or-take}
use Rattle.std.proofs.lemmas.List.Elements.{All-from_recursion}
use Rattle.fleet_base.specs.Bytes.{numeral}

-- the number that digits stand for
abbrev pub value_of : List ℕ → ℕ
value_of ds = number_from_digits 10 (map (λ c. c - 48) ds)

-- the numeral of a number that is not 0
pub numeral-above : (n : ℕ) → 0 < n → numeral n ≡ map (λ d. 48 + d) (digits_of 10 n)
numeral-above n h = let e : eqb n 0 ≡ false = ne_eqb n 0 (λ e. omega arith) in rw e refl

-- one more digit
pub numeral-push : (n d : ℕ) → 0 < n → d < 10 → numeral (10 * n + d) ≡ numeral n ++ (48 + d) ∷ []
numeral-push n d h low =
    let m = 10 * n + d in
    let over : m / 10 ≡ n = omega arith in
    let left : m % 10 ≡ d = omega arith in
    numeral-above m (omega arith)
    ∙ ap (λ ds. map (λ x. 48 + x) ds) (digits_of_step 10 m (omega arith) (omega arith))
    ∙ map-append (λ x. 48 + x) (digits_of 10 (m / 10)) (m % 10 ∷ [])
    ∙ ap (λ k. map (λ x. 48 + x) (digits_of 10 k) ++ (48 + m % 10) ∷ []) over
    ∙ ap (λ k. map (λ x. 48 + x) (digits_of 10 n) ++ (48 + k) ∷ []) left
    ∙ ap (λ ds. ds ++ (48 + d) ∷ []) (sym (numeral-above n h))

-- the digits of a text of digits
digits_back : (ds : List ℕ) → map (λ c. c - 48) (map (λ d. 48 + d) ds) ≡ ds
digits_back [] = refl
digits_back (d ∷ ds) = same_cons _ _ _ _ (omega arith) (digits_back ds)
  where
    same_cons : (x y : ℕ) (xs ys : List ℕ) → x ≡ y → xs ≡ ys → x ∷ xs ≡ y ∷ ys
    same_cons x y xs ys e f = cc

nonempty : (ds : List ℕ) → 0 < get_or ds 0 0 → 0 < length ds
nonempty [] h = absurd (omega arith)
nonempty (d ∷ ds) h = omega arith

-- the value of a numeral
pub value_of-numeral : (n : ℕ) → value_of (numeral n) ≡ n
value_of-numeral zero = refl
value_of-numeral (suc m) =
    ap value_of (numeral-above (suc m) (omega arith))
    ∙ ap (number_from_digits 10) (digits_back (digits_of 10 (suc m)))
    ∙ number_digits_of 10 (suc m) (omega arith)

-- the same text is the numeral of one number alone
pub same_number : (m n : ℕ) → numeral m ≡ numeral n → m ≡ n
same_number m n e = sym (value_of-numeral m) ∙ ap value_of e ∙ value_of-numeral n

pub length-numeral : (n : ℕ) → 0 < length (numeral n)
length-numeral zero = omega arith
length-numeral (suc m) =
    let ds = digits_of 10 (suc m) in
    let some : 0 < length ds = nonempty ds (first_digits_of 10 (suc m) (omega arith) (omega arith)) in
    let is : numeral (suc m) ≡ map (λ d. 48 + d) ds = numeral-above (suc m) (omega arith) in
    omega (arith, ap length is, length-map ds (λ d. 48 + d))

-- each character of a numeral is a digit
pub numeral_digit : (n k : ℕ) → k < length (numeral n) → (48 ≤ get_or (numeral n) k 0) × (get_or (numeral n) k 0 ≤ 57)
numeral_digit zero zero h = (omega arith, omega arith)
numeral_digit zero (suc k) h = absurd (omega arith)
numeral_digit (suc m) k h =
    let ds : List ℕ = digits_of 10 (suc m) in
    let is : numeral (suc m) ≡ map (λ d. 48 + d) ds = numeral-above (suc m) (omega arith) in
    let inside : k < length ds = omega (arith, ap length is, length-map ds (λ d. 48 + d)) in
    let low : get_or ds k 0 < 10 = All-from_recursion (λ d. d < 10) ds (all_below_base_digits_of 10 (suc m) (omega arith)) k 0 inside in
    let at : get_or (numeral (suc m)) k 0 ≡ 48 + get_or ds k 0 = ap (λ xs. get_or xs k 0) is ∙ get_or-map (λ d. 48 + d) ds k 0 0 inside in
    (omega arith, omega arith)

-- a numeral that begins with 0 is that of 0
pub numeral_first : (n : ℕ) → get_or (numeral n) 0 0 ≡ 48 → length (numeral n) ≡ 1
numeral_first zero e = refl
numeral_first (suc m) e =
    let ds : List ℕ = digits_of 10 (suc m) in
    let first : 0 < get_or ds 0 0 = first_digits_of 10 (suc m) (omega arith) (omega arith) in
    let is : numeral (suc m) ≡ map (λ d. 48 + d) ds = numeral-above (suc m) (omega arith) in
    let at : get_or (numeral (suc m)) 0 0 ≡ 48 + get_or ds 0 0 = ap (λ xs. get_or xs 0 0) is ∙ get_or-map (λ d. 48 + d) ds 0 0 0 (nonempty ds first) in
    absurd (omega arith)

-- all characters are digits
abbrev pub AreDigits : List ℕ → ℕ → Type 0
AreDigits ds n = (k : ℕ) → k < n → (48 ≤ get_or ds k 0) × (get_or ds k 0 ≤ 57)

-- one more digit of a text
pub value_of_more : (ds : List ℕ) (i : ℕ) → i < length ds → value_of (take (i + 1) ds) ≡ 10 * value_of (take i ds) + (get_or ds i 0 - 48)
value_of_more ds i h =
    ap (number_from_digits 10) (map_more (λ c. c - 48) ds i 0 h)
    ∙ number_push 10 (map (λ c. c - 48) (take i ds)) (get_or ds i 0 - 48)
    ∙ omega arith

-- one digit
numeral-one : (d : ℕ) → d < 10 → numeral d ≡ (48 + d) ∷ []
numeral-one zero h = refl
numeral-one (suc m) h =
    let over : suc m / 10 ≡ 0 = omega arith in
    let left : suc m % 10 ≡ suc m = omega arith in
    numeral-above (suc m) (omega arith)
    ∙ ap (λ ds. map (λ x. 48 + x) ds) (digits_of_step 10 (suc m) (omega arith) (omega arith))
    ∙ ap (λ k. map (λ x. 48 + x) (digits_of 10 k ++ suc m % 10 ∷ [])) over
    ∙ ap (λ k. (48 + k) ∷ []) left

-- more than one digit have no value 0
not_zero : (ds : List ℕ) → (get_or ds 0 0 ≡ 48 → length ds ≡ 1) → (i : ℕ) → suc i < length ds → (v : ℕ) → take (suc i) ds ≡ numeral v → 0 < v
not_zero ds lead i h zero e =
    let first : get_or ds 0 0 ≡ 48 = sym (get_or-take (suc i) ds 0 0 (omega arith)) ∙ ap (λ xs. get_or xs 0 0) e in
    absurd (omega (arith, lead first))
not_zero ds lead i h (suc v) e = omega arith

-- the first digits are the numeral of their value
front_is : (ds : List ℕ) → (get_or ds 0 0 ≡ 48 → length ds ≡ 1) → (i : ℕ) → i < length ds → AreDigits ds (i + 1) → take (i + 1) ds ≡ numeral (value_of (take (i + 1) ds))
front_is [] lead zero h digits = absurd (omega arith)
front_is (c ∷ cs) lead zero h digits =
    let low : (48 ≤ c) × (c ≤ 57) = digits 0 (omega arith) in
    let back : 48 + (0 + (c - 48)) ≡ c = omega arith in
    sym (numeral-one (0 + (c - 48)) (omega arith) ∙ ap (λ x. x ∷ []) back)
front_is ds lead (suc i) h digits =
    let x : ℕ = get_or ds (suc i) 0 in
    let v : ℕ = value_of (take (suc i) ds) in
    let low : (48 ≤ x) × (x ≤ 57) = digits (suc i) (omega arith) in
    let before : take (suc i) ds ≡ numeral v = rw (sym (add-one i)) (front_is ds lead i (omega arith) (λ k small. digits k (omega arith))) in
    let back : 48 + (x - 48) ≡ x = omega arith in
    take_more ds (suc i) 0 h
    ∙ ap (λ front. front ++ x ∷ []) before
    ∙ ap (λ y. numeral v ++ y ∷ []) (sym back)
    ∙ sym (numeral-push v (x - 48) (not_zero ds lead i h v before) (omega arith))
    ∙ sym (ap numeral (value_of_more ds (suc i) h))

-- digits without a leading zero are the numeral of their value
pub numeral-value_of : (ds : List ℕ) → 0 < length ds → (get_or ds 0 0 ≡ 48 → length ds ≡ 1) → AreDigits ds (length ds) → ds ≡ numeral (value_of ds)
numeral-value_of [] h lead digits = absurd (omega arith)
numeral-value_of (c ∷ cs) h lead digits =
    let all : take (length cs + 1) (c ∷ cs) ≡ c ∷ cs = take_all _ _ (omega arith) in
    sym all ∙ front_is (c ∷ cs) lead (length cs) (omega arith) (λ k small. digits k (omega arith)) ∙ ap (λ ds. numeral (value_of ds)) all
