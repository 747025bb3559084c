-- Words and numbers behind spaces: where reading them stops, and that a spelling has one reading.
use Rattle.std.proofs.Common.{ℕ, suc, zero, ◌≡◌, ◌-◌, ◌^◌, ◌<◌, ◌≤◌, List, [], ◌∷◌, ◌++◌, refl, sym, ap, ◌∙◌, subst, arith, length, get_or, append_assoc, length-append}
use Rattle.std.specs.Prelude.{decimal, flat_map}
use Rattle.std.proofs.lemmas.List.{append-nil, append_cancel_left, flat_map_more, nil_from_length}
use Rattle.std.proofs.lemmas.Fmt.{decimal_injective}
use Rattle.fleet_base.specs.Bytes.{field}
use Rattle.fleet_base.proofs.LineLaws.{AtLeast, decimal-at_least}
use Rattle.report_text.specs.Reading.{spelled, AllFit, AllSmall, IsSpelled, IsSpelledSmall, Stops, BreaksOff, TakesNumber, HasNoNumber, TakesField, LacksField, no_space, no_number}
use Rattle.report_text.proofs.Stopping.{After, Numbered, NoDigitFirst, stops_same, stops_in_word, stops_after_word, stops_at_number, stops_after_number, stops_at_end}

-- so many numbers behind spaces
abbrev pub Fields : ℕ → List ℕ → Type 0
Fields count text = IsSpelled [] count text

some_fields : (k : ℕ) → (text : List ℕ) × Fields k text
some_fields zero = ([], ([], refl, tt, refl))
some_fields (suc k) = longer (some_fields k)
  where
    longer : (text : List ℕ) × Fields k text → (text : List ℕ) × Fields (suc k) text
    longer (text, (ns, count, fit, is)) = (field 0 ++ flat_map field ns, (0 ∷ ns, ap suc count, (omega arith, fit), refl))

plain_fields : (k : ℕ) → NoDigitFirst (Fields k)
plain_fields k c rest ([], count, fit, is) = cc
plain_fields k c rest (n ∷ ns, count, fit, is) = let space : c ≡ 32 = cc in omega arith

-- one number more
to_fields : (k : ℕ) (text : List ℕ) → After (32 ∷ []) (Numbered (Fields k)) text → Fields (suc k) text
to_fields k text (digits, e, (n, rest, is, fits, (ns, count, fit, r))) =
    (n ∷ ns, ap suc count, (fits, fit), e ∙ ap (λ (l : List ℕ). 32 ∷ l) (is ∙ ap (λ (l : List ℕ). decimal n ++ l) r))

from_fields : (k : ℕ) (text : List ℕ) → Fields (suc k) text → After (32 ∷ []) (Numbered (Fields k)) text
from_fields k text ([], count, fit, is) = absurd (omega arith)
from_fields k text (n ∷ ns, count, fit, is) =
    (decimal n ++ flat_map field ns, is, (n, flat_map field ns, refl, fit.0, (ns, omega arith, fit.1, refl)))

-- words in front
to_spelled : (words : List ℕ) (k : ℕ) (text : List ℕ) → After words (Fields k) text → IsSpelled words k text
to_spelled words k text (rest, e, (ns, count, fit, is)) = (ns, count, fit, e ∙ ap (λ (l : List ℕ). words ++ l) is)

from_spelled : (words : List ℕ) (k : ℕ) (text : List ℕ) → IsSpelled words k text → After words (Fields k) text
from_spelled words k text (ns, count, fit, is) = (flat_map field ns, is, (ns, count, fit, refl))

-- the words are not there
pub spelled_breaks_off : (words : List ℕ) (k : ℕ) (text left : List ℕ) → BreaksOff words text left → Stops (IsSpelled words k) text left
spelled_breaks_off words k text left b =
    let some = some_fields k in
    stops_same (After words (Fields k)) (IsSpelled words k) (to_spelled words k) (from_spelled words k) text left (stops_in_word (Fields k) some.0 some.1 words text left b)

-- the words are there, and the numbers are not
pub spelled_goes_on : (words : List ℕ) (k : ℕ) (text rest left : List ℕ) → text ≡ words ++ rest → Stops (Fields k) rest left → Stops (IsSpelled words k) text left
spelled_goes_on words k text rest left is s =
    stops_same (After words (Fields k)) (IsSpelled words k) (to_spelled words k) (from_spelled words k) text left (stops_after_word (Fields k) words text rest left is s)

of_field : (k : ℕ) (text left : List ℕ) → Stops (After (32 ∷ []) (Numbered (Fields k))) text left → Stops (Fields (suc k)) text left
of_field k text left s = stops_same (After (32 ∷ []) (Numbered (Fields k))) (Fields (suc k)) (to_fields k) (from_fields k) text left s

-- a space is not there
pub field_breaks_off : (k : ℕ) (text left : List ℕ) → BreaksOff (32 ∷ []) text left → Stops (Fields (suc k)) text left
field_breaks_off k text left b =
    let some = some_fields k in
    of_field k text left (stops_in_word (Numbered (Fields k)) (decimal 0 ++ some.0) (0, some.0, refl, omega arith, some.1) (32 ∷ []) text left b)

-- a space is there, and a number is not
pub field_has_no_number : (k : ℕ) (text digits : List ℕ) → text ≡ (32 ∷ []) ++ digits → HasNoNumber digits → Stops (Fields (suc k)) text digits
field_has_no_number k text digits is none =
    let some = some_fields k in
    of_field k text digits (stops_after_word (Numbered (Fields k)) (32 ∷ []) text digits digits is (stops_at_number (Fields k) some.0 some.1 digits none))

-- a space and a number are there, and the other numbers are not
pub field_goes_on : (k : ℕ) (text digits : List ℕ) (n : ℕ) (rest left : List ℕ) → text ≡ (32 ∷ []) ++ digits → TakesNumber digits n rest → Stops (Fields k) rest left → Stops (Fields (suc k)) text left
field_goes_on k text digits n rest left is takes s =
    of_field k text left (stops_after_word (Numbered (Fields k)) (32 ∷ []) text digits left is (stops_after_number (Fields k) (plain_fields k) digits n rest left takes s))

-- all numbers are there, and more bytes
pub fields_go_on : (text : List ℕ) → 0 < length text → Stops (Fields 0) text text
fields_go_on [] some = absurd (omega arith)
fields_go_on (c ∷ rest) some = stops_same (λ t. t ≡ []) (Fields 0) (λ t e. ([], refl, tt, e)) none (c ∷ rest) (c ∷ rest) (stops_at_end c rest)
  where
    none : (t : List ℕ) → Fields 0 t → t ≡ []
    none t ([], count, fit, is) = is
    none t (n ∷ ns, count, fit, is) = absurd (omega arith)

-- ---- a spelling has one reading

first_digits : (a x b y : List ℕ) → AtLeast 48 a → AtLeast 48 b → ((c : ℕ) (r : List ℕ) → x ≡ c ∷ r → c < 48) → ((c : ℕ) (r : List ℕ) → y ≡ c ∷ r → c < 48) → a ++ x ≡ b ++ y → (a ≡ b) × (x ≡ y)
first_digits [] x [] y pa pb px py e = (refl, e)
first_digits [] x (d ∷ b) y pa pb px py e = absurd (omega (arith, pb.0, px d (b ++ y) e))
first_digits (c ∷ a) x [] y pa pb px py e = absurd (omega (arith, pa.0, py c (a ++ x) (sym e)))
first_digits (c ∷ a) x (d ∷ b) y pa pb px py e =
    let head : c ≡ d = cc in
    let tail : a ++ x ≡ b ++ y = cc in
    let r = first_digits a x b y pa.1 pb.1 px py tail in
    let same = r.0 in
    (cc, r.1)

space_first : (ns : List ℕ) (c : ℕ) (r : List ℕ) → flat_map field ns ≡ c ∷ r → c < 48
space_first [] c r e = cc
space_first (n ∷ ns) c r e = let space : c ≡ 32 = cc in omega arith

pub same_numbers : (ns ms : List ℕ) → AllFit ns → AllFit ms → flat_map field ns ≡ flat_map field ms → ns ≡ ms
same_numbers [] [] fn fm e = refl
same_numbers [] (m ∷ ms) fn fm e = cc
same_numbers (n ∷ ns) [] fn fm e = cc
same_numbers (n ∷ ns) (m ∷ ms) fn fm e =
    let digits : decimal n ++ flat_map field ns ≡ decimal m ++ flat_map field ms = cc in
    let r = first_digits (decimal n) (flat_map field ns) (decimal m) (flat_map field ms) (decimal-at_least n) (decimal-at_least m) (space_first ns) (space_first ms) digits in
    let head = decimal_injective n m fn.0 fm.0 r.0 in
    let tail = same_numbers ns ms fn.1 fm.1 r.1 in
    cc

-- ---- reading the numbers one by one

-- The line is these words, the numbers so far and the rest. Where reading the other numbers stops in the rest, it stops in the line.
pub record HasRead (words : List ℕ) (count : ℕ) (line numbers rest : List ℕ) : Type 0 where
  pub text : line ≡ spelled words numbers ++ rest
  pub fit : AllFit numbers
  pub stops : (left : List ℕ) → Stops (Fields (count - length numbers)) rest left → Stops (IsSpelled words count) line left

pub has_read_words : (words : List ℕ) (count : ℕ) (line rest : List ℕ) → line ≡ words ++ rest → HasRead words count line [] rest
has_read_words words count line rest is = record {
  text = is ∙ ap (λ (l : List ℕ). l ++ rest) (sym (append-nil words));
  fit = tt;
  stops = λ left s. spelled_goes_on words count line rest left is (subst (λ (k : ℕ). Stops (Fields k) rest left) all s);
}
  where
    all : count - length {A = ℕ} [] ≡ count
    all = omega arith

all_fit-push : (ns : List ℕ) (n : ℕ) → AllFit ns → n < 2 ^ 64 → AllFit (ns ++ n ∷ [])
all_fit-push [] n fit h = (h, tt)
all_fit-push (m ∷ ns) n fit h = (fit.0, all_fit-push ns n fit.1 h)

pub has_read_more : (words : List ℕ) (count : ℕ) (line numbers rest : List ℕ) (n : ℕ) (after : List ℕ) → HasRead words count line numbers rest → length numbers < count → TakesField rest n after → HasRead words count line (numbers ++ n ∷ []) after
has_read_more words count line numbers rest n after h more takes = record {
  text = h.text ∙ ap (λ (l : List ℕ). spelled words numbers ++ l) piece ∙ sym (append_assoc (spelled words numbers) (field n) after) ∙ ap (λ (l : List ℕ). l ++ after) (flat_map_more field words numbers n);
  fit = all_fit-push numbers n h.fit takes.number.fits;
  stops = λ left s. h.stops left (longer left s);
}
  where
    piece : rest ≡ field n ++ after
    piece = takes.space ∙ ap (λ (l : List ℕ). 32 ∷ l) (sym takes.number.parts)

    longer : (left : List ℕ) → Stops (Fields (count - length (numbers ++ n ∷ []))) after left → Stops (Fields (count - length numbers)) rest left
    longer left s =
        let one_more : suc (count - length (numbers ++ n ∷ [])) ≡ count - length numbers = omega (arith, length-append numbers (n ∷ [])) in
        subst (λ (k : ℕ). Stops (Fields k) rest left) one_more (field_goes_on (count - length (numbers ++ n ∷ [])) rest takes.digits n after left takes.space takes.number s)

pub has_read_fails : (words : List ℕ) (count : ℕ) (line numbers rest left : List ℕ) → HasRead words count line numbers rest → length numbers < count → LacksField rest left → Stops (IsSpelled words count) line left
has_read_fails words count line numbers rest left h more lacks = h.stops left (subst (λ (k : ℕ). Stops (Fields k) rest left) one_more (stop lacks))
  where
    one_more : suc (count - length numbers - 1) ≡ count - length numbers
    one_more = omega arith

    stop : LacksField rest left → Stops (Fields (suc (count - length numbers - 1))) rest left
    stop (no_space b) = field_breaks_off (count - length numbers - 1) rest left b
    stop (no_number is none) = field_has_no_number (count - length numbers - 1) rest left is none

pub has_read_too_little : (words : List ℕ) (count : ℕ) (line numbers rest : List ℕ) → HasRead words count line numbers rest → length numbers ≡ count → 0 < length rest → Stops (IsSpelled words count) line rest
has_read_too_little words count line numbers rest h all some =
    let none : 0 ≡ count - length numbers = omega arith in
    h.stops rest (subst (λ (k : ℕ). Stops (Fields k) rest rest) none (fields_go_on rest some))

pub has_read_all : (words : List ℕ) (count : ℕ) (line numbers rest : List ℕ) → HasRead words count line numbers rest → length rest ≡ 0 → AllFit numbers × (line ≡ spelled words numbers)
has_read_all words count line numbers rest h none =
    (h.fit, h.text ∙ ap (λ (l : List ℕ). spelled words numbers ++ l) (nil_from_length rest none) ∙ append-nil (spelled words numbers))

-- ---- numbers below 2^32

pub all_small-fit : (ns : List ℕ) → AllSmall ns → AllFit ns
all_small-fit [] small = tt
all_small-fit (n ∷ ns) small = (omega (arith, small.0), all_small-fit ns small.1)

pub all_small-push : (ns : List ℕ) (n : ℕ) → AllSmall ns → n < 2 ^ 32 → AllSmall (ns ++ n ∷ [])
all_small-push [] n small h = (h, tt)
all_small-push (m ∷ ns) n small h = (small.0, all_small-push ns n small.1 h)

small_at : (ns : List ℕ) (at : ℕ) → AllSmall ns → at < length ns → get_or ns at 0 < 2 ^ 32
small_at [] at small h = absurd (omega arith)
small_at (n ∷ ns) zero small h = small.0
small_at (n ∷ ns) (suc at) small h = small_at ns at small.1 (omega arith)

pub spelled_small : (words : List ℕ) (count : ℕ) (line : List ℕ) → IsSpelledSmall words count line → IsSpelled words count line
spelled_small words count line (ns, n, small, is) = (ns, n, all_small-fit ns small, is)

-- a number that is too large
pub not_small : (words : List ℕ) (count : ℕ) (line numbers : List ℕ) (at : ℕ) → AllFit numbers → line ≡ spelled words numbers → at < length numbers → 2 ^ 32 ≤ get_or numbers at 0 → IsSpelledSmall words count line → ⊥
not_small words count line numbers at fit is inside large (ns, n, small, e) =
    let same = same_numbers ns numbers (all_small-fit ns small) fit (append_cancel_left words (flat_map field ns) (flat_map field numbers) (sym e ∙ is)) in
    omega (arith, large, small_at numbers at (subst AllSmall same small) inside)
