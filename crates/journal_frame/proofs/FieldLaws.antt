-- A field that is read is the field that was written, and what was written is read again.
use Rattle.std.proofs.Common.{◌≡◌, ℕ, zero, suc, ◌+◌, ◌^◌, ◌<◌, ◌≤◌, Bool, true, false, cond, ltb, eqb, List, [], ◌∷◌, ◌++◌, length, get_or, take, drop, Option, Some, None, refl, sym, ap, subst, ◌∙◌, append_assoc, arith, inl, inr}
use Rattle.std.specs.Int.{Width, w32, w64, byte_len, from_be_bytes, to_be_bytes}
use Rattle.std.specs.List.{AllByRecursion}
use Rattle.std.proofs.lemmas.Bool.{cases_lt, ltb-false, le-ltb, eqb-true}
use Rattle.std.proofs.lemmas.List.{take_at, drop_at, take-append-drop, length-append, length-take, get_or-drop, get_or-take, get_or_past, nil_from_length}
use Rattle.std.proofs.lemmas.List.Concat.{flat_map-cons}
use Rattle.std.proofs.lemmas.Nat.{be_bytes_4, be_bytes_8, from_be_bytes-to_be_bytes_4, from_be_bytes-to_be_bytes_8}
use Rattle.fleet_base.specs.declared.order.PairId.{PairId}
use Rattle.journal_frame.specs.Texts.{sized}
use Rattle.journal_frame.specs.Entries.{pair_bytes}
use Rattle.journal_frame.specs.declared.error.FrameError.{FrameError}
use Rattle.journal_frame.specs.declared.error.FrameError.TheVariants.{NotInGrammar, Memory}
use Rattle.journal_frame.specs.Reading.{◌>>=◌, Refuses, number_at, text_at, pairs_at, at_end}

-- each item is a byte
abbrev pub IsBytes : List ℕ → Type 0
IsBytes bytes = (i : ℕ) → get_or bytes i 0 < 256

pub IsBytes-drop : (n : ℕ) (bytes : List ℕ) → IsBytes bytes → IsBytes (drop n bytes)
IsBytes-drop n bytes h i = rw get_or-drop (h (n + i))

IsBytes-take : (n : ℕ) (bytes : List ℕ) → IsBytes bytes → IsBytes (take n bytes)
IsBytes-take n bytes h i =
    elim (cases_lt i n) [
      | inl lt ↦ rw (get_or-take n bytes i 0 lt) (h i)
      | inr le ↦ rw (get_or_past (take n bytes) i 0 (omega (arith, length-take n bytes))) (omega arith)
    ]

pub IsBytes-rest : (b : ℕ) (bytes : List ℕ) → IsBytes (b ∷ bytes) → IsBytes bytes
IsBytes-rest b bytes h i = h (suc i)

-- the value of a step that did not fail
pub bind_some : {A B : Type 0} (o : Option A) (f : A → Option B) (y : B) → (o >>= f) ≡ Some y → (x : A) × (o ≡ Some x) × (f x ≡ Some y)
bind_some (Some x) f y e = (x, refl, e)
bind_some None f y e = absurd cc

-- a test that did not fail
pub guard_not : {A : Type 0} (b : Bool) (x y : A) → cond b None (Some x) ≡ Some y → (b ≡ false) × (x ≡ y)
guard_not true x y e = absurd cc
guard_not false x y e = (refl, cc)

pub guard_yes : {A : Type 0} (b : Bool) (x : Option A) (y : A) → cond b x None ≡ Some y → (b ≡ true) × (x ≡ Some y)
guard_yes true x y e = (refl, e)
guard_yes false x y e = absurd cc

abbrev done : {A : Type 0} → A → Option A
done x = Some x

pub some_is : {A : Type 0} (x y : A) → done x ≡ done y → x ≡ y
some_is x y e = cc

-- where the bytes are in the grammar, want of memory is the only refusal
pub refused : {A : Type 0} (e : FrameError) (read : Option A) (value : A) → Refuses e read → read ≡ Some value → e ≡ Memory
refused Memory read value none is = refl
refused NotInGrammar read value none is = absurd cc

-- what a reader took from the front
pub record Takes (bytes text rest : List ℕ) : Type 0 where
  pub parts : bytes ≡ text ++ rest
  pub rest_fits : IsBytes rest

pub Takes-then : (a x b y c : List ℕ) → Takes a x b → Takes b y c → Takes a (x ++ y) c
Takes-then a x b y c p q = record { parts = p.parts ∙ ap (λ (t : List ℕ). x ++ t) q.parts ∙ sym (append_assoc x y c); rest_fits = q.rest_fits }

-- in front of all that follows
pub after : (a x b y : List ℕ) → Takes a x b → b ≡ y → a ≡ x ++ y
after a x b y p q = p.parts ∙ ap (λ (t : List ℕ). x ++ t) q

-- nothing follows
pub at_end_is : {A : Type 0} (x y : A) (bytes : List ℕ) → at_end x bytes ≡ Some y → (bytes ≡ []) × (x ≡ y)
at_end_is x y bytes e =
    let g = guard_yes (eqb (length bytes) 0) (Some x) y e in
    (nil_from_length bytes (eqb-true _ _ g.0), some_is x y g.1)

-- ---- numbers

pub record IsWide (w : Width) (limit : ℕ) : Type 0 where
  pub len : (n : ℕ) → length (to_be_bytes w n) ≡ byte_len w
  pub back : (bytes : List ℕ) → length bytes ≡ byte_len w → IsBytes bytes → to_be_bytes w (from_be_bytes w bytes) ≡ bytes
  pub again : (n : ℕ) → n < limit → from_be_bytes w (to_be_bytes w n) ≡ n
  pub below : (bytes : List ℕ) → IsBytes bytes → from_be_bytes w bytes < limit

pub wide32 : IsWide w32 (2 ^ 32)
wide32 = record {
  len = λ n. refl;
  back = λ bytes len fits. be_bytes_4 bytes _ len fits refl;
  again = λ n lt. from_be_bytes-to_be_bytes_4 n lt;
  below = λ bytes fits. omega (arith, fits 0, fits 1, fits 2, fits 3);
}

pub wide64 : IsWide w64 (2 ^ 64)
wide64 = record {
  len = λ n. refl;
  back = λ bytes len fits. be_bytes_8 bytes _ len fits refl;
  again = λ n lt. from_be_bytes-to_be_bytes_8 n lt;
  below = λ bytes fits. omega (arith, fits 0, fits 1, fits 2, fits 3, fits 4, fits 5, fits 6, fits 7);
}

pub number_takes : (w : Width) (limit : ℕ) (wide : IsWide w limit) (bytes : List ℕ) (n : ℕ) (rest : List ℕ) → IsBytes bytes → number_at w bytes ≡ Some (n, rest) → Takes bytes (to_be_bytes w n) rest × (n < limit)
number_takes w limit wide bytes n rest fits e =
    let g = guard_not (ltb (length bytes) (byte_len w)) (from_be_bytes w (take (byte_len w) bytes), drop (byte_len w) bytes) (n, rest) e in
    let long : byte_len w ≤ length bytes = ltb-false _ _ g.0 in
    let n-is : from_be_bytes w (take (byte_len w) bytes) ≡ n = ap (λ (p : ℕ × List ℕ). p.0) g.1 in
    let rest-is : drop (byte_len w) bytes ≡ rest = ap (λ (p : ℕ × List ℕ). p.1) g.1 in
    let front : to_be_bytes w n ≡ take (byte_len w) bytes = rw (← n-is) (wide.back (take (byte_len w) bytes) (omega (arith, length-take (byte_len w) bytes)) (IsBytes-take (byte_len w) bytes fits)) in
    (record { parts = rw (front, ← rest-is) (sym (take-append-drop (byte_len w) bytes)); rest_fits = rw (← rest-is) (IsBytes-drop (byte_len w) bytes fits) }, rw (← n-is) (wide.below (take (byte_len w) bytes) (IsBytes-take (byte_len w) bytes fits)))

pub number_again : (w : Width) (limit : ℕ) (wide : IsWide w limit) (n : ℕ) (rest : List ℕ) → n < limit → number_at w (to_be_bytes w n ++ rest) ≡ Some (n, rest)
number_again w limit wide n rest lt =
    let len = wide.len n in
    let long : ltb (length (to_be_bytes w n ++ rest)) (byte_len w) ≡ false = le-ltb _ _ (omega (arith, length-append (to_be_bytes w n) rest)) in
    rw (long, take_at (to_be_bytes w n) rest (byte_len w) len, drop_at (to_be_bytes w n) rest (byte_len w) len, wide.again n lt) refl

-- a number of four bytes, and one of eight

pub short_takes : (bytes : List ℕ) (n : ℕ) (rest : List ℕ) → IsBytes bytes → number_at w32 bytes ≡ Some (n, rest) → Takes bytes (to_be_bytes w32 n) rest × (n < 2 ^ 32)
short_takes = number_takes w32 (2 ^ 32) wide32

pub short_again : (n : ℕ) (rest : List ℕ) → n < 2 ^ 32 → number_at w32 (to_be_bytes w32 n ++ rest) ≡ Some (n, rest)
short_again = number_again w32 (2 ^ 32) wide32

pub long_takes : (bytes : List ℕ) (n : ℕ) (rest : List ℕ) → IsBytes bytes → number_at w64 bytes ≡ Some (n, rest) → Takes bytes (to_be_bytes w64 n) rest × (n < 2 ^ 64)
long_takes = number_takes w64 (2 ^ 64) wide64

pub long_again : (n : ℕ) (rest : List ℕ) → n < 2 ^ 64 → number_at w64 (to_be_bytes w64 n ++ rest) ≡ Some (n, rest)
long_again = number_again w64 (2 ^ 64) wide64

-- ---- texts

pub text_takes : (bytes text rest : List ℕ) → IsBytes bytes → text_at bytes ≡ Some (text, rest) → Takes bytes (sized text) rest × (length text < 2 ^ 32)
unfolding text_at
text_takes bytes text rest fits e =
    let b = bind_some (number_at w32 bytes) (λ n. cond (ltb (length n.1) n.0) None (Some (take n.0 n.1, drop n.0 n.1))) (text, rest) e in
    let n = b.0 in
    let t = short_takes bytes n.0 n.1 fits b.1 in
    let g = guard_not (ltb (length n.1) n.0) (take n.0 n.1, drop n.0 n.1) (text, rest) b.2 in
    let long : n.0 ≤ length n.1 = ltb-false _ _ g.0 in
    let len : length (take n.0 n.1) ≡ n.0 = omega (arith, length-take n.0 n.1) in
    let second : Takes n.1 (take n.0 n.1) (drop n.0 n.1) = record { parts = sym (take-append-drop n.0 n.1); rest_fits = IsBytes-drop n.0 n.1 t.0.rest_fits } in
    let both = Takes-then bytes (to_be_bytes w32 n.0) n.1 (take n.0 n.1) (drop n.0 n.1) t.0 second in
    let whole : Takes bytes (sized (take n.0 n.1)) (drop n.0 n.1) = subst (λ (k : ℕ). Takes bytes (to_be_bytes w32 k ++ take n.0 n.1) (drop n.0 n.1)) (sym len) both in
    subst (λ (p : List ℕ × List ℕ). Takes bytes (sized p.0) p.1 × (length p.0 < 2 ^ 32)) g.1 (whole, omega (arith, t.1))

pub text_again : (text rest : List ℕ) → length text < 2 ^ 32 → text_at (sized text ++ rest) ≡ Some (text, rest)
unfolding text_at
text_again text rest lt =
    let long : ltb (length (text ++ rest)) (length text) ≡ false = le-ltb _ _ (omega (arith, length-append text rest)) in
    rw (short_again (length text) (text ++ rest) lt, long, take_at text rest (length text) refl, drop_at text rest (length text) refl) refl

-- ---- pairs

pub pairs_take : (n : ℕ) (bytes : List ℕ) (x : List PairId × List ℕ) → IsBytes bytes → pairs_at n bytes ≡ Some x → Takes bytes (pair_bytes x.0) x.1 × (length x.0 ≡ n) × AllByRecursion (λ q. q.0 < 2 ^ 32) x.0
unfolding pairs_at
pairs_take zero bytes x fits e =
    subst (λ (y : List PairId × List ℕ). Takes bytes (pair_bytes y.0) y.1 × (length y.0 ≡ 0) × AllByRecursion (λ q. q.0 < 2 ^ 32) y.0) (some_is ([], bytes) x e) (record { parts = refl; rest_fits = fits }, refl, tt)
pairs_take (suc n) bytes x fits e =
    let a = bind_some (number_at w32 bytes) (λ first. pairs_at n first.1 >>= λ others. Some (record { 0 = first.0 } ∷ others.0, others.1)) x e in
    let b = bind_some (pairs_at n a.0.1) (λ others. Some (record { 0 = a.0.0 } ∷ others.0, others.1)) x a.2 in
    let first = short_takes bytes a.0.0 a.0.1 fits a.1 in
    let second = pairs_take n a.0.1 b.0 first.0.rest_fits b.1 in
    let both = Takes-then bytes (to_be_bytes w32 a.0.0) a.0.1 (pair_bytes b.0.0) b.0.1 first.0 second.0 in
    let made : List PairId × List ℕ = (record { 0 = a.0.0 } ∷ b.0.0, b.0.1) in
    subst (λ (y : List PairId × List ℕ). Takes bytes (pair_bytes y.0) y.1 × (length y.0 ≡ suc n) × AllByRecursion (λ q. q.0 < 2 ^ 32) y.0) (some_is made x b.2) (rw flat_map-cons both, ap suc second.1, (first.1, second.2))

pub pairs_again : (qs : List PairId) (rest : List ℕ) → AllByRecursion (λ q. q.0 < 2 ^ 32) qs → pairs_at (length qs) (pair_bytes qs ++ rest) ≡ Some (qs, rest)
unfolding pairs_at
pairs_again [] rest fits = refl
pairs_again (q ∷ qs) rest fits =
    let regrouped : pair_bytes (q ∷ qs) ++ rest ≡ to_be_bytes w32 q.0 ++ (pair_bytes qs ++ rest) = ap (λ (x : List ℕ). x ++ rest) (flat_map-cons (λ r. to_be_bytes w32 r.0) q qs) ∙ append_assoc (to_be_bytes w32 q.0) (pair_bytes qs) rest in
    ap (pairs_at (suc (length qs))) regrouped ∙ rw (short_again q.0 (pair_bytes qs ++ rest) fits.0, pairs_again qs rest fits.1) refl
