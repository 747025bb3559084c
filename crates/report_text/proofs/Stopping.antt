-- Where reading stops: the longest front of a text that begins one of the wanted texts.
use Rattle.std.proofs.Common.{ℕ, ◌≡◌, ◌+◌, ◌^◌, ◌<◌, ◌≤◌, ◌⊎◌, List, [], ◌∷◌, ◌++◌, refl, sym, ap, ◌∙◌, subst, inl, inr, arith, length, take, drop, get_or, append_assoc, length-append, length-drop}
use Rattle.std.specs.Prelude.{decimal}
use Rattle.std.proofs.lemmas.List.{append_cancel_left, append-nil, take-append-drop, drop_more}
use Rattle.fleet_base.proofs.LineLaws.{AtLeast, decimal-at_least}
use Rattle.report_text.specs.Reading.{Stops, BreaksOff, TakesNumber, HasNoNumber}
use Rattle.report_text.proofs.Numbers.{front_number}

-- two cuts of one list: one front goes on to the other
pub two_cuts : (a x b y : List ℕ) → a ++ x ≡ b ++ y → ((u : List ℕ) × (a ≡ b ++ u) × (y ≡ u ++ x)) ⊎ ((u : List ℕ) × (b ≡ a ++ u) × (x ≡ u ++ y))
two_cuts [] x b y e = inr (b, refl, e)
two_cuts (c ∷ a) x [] y e = inl (c ∷ a, refl, sym e)
two_cuts (c ∷ a) x (d ∷ b) y e =
    let head : c ≡ d = cc in
    let tail : a ++ x ≡ b ++ y = cc in
    longer head (two_cuts a x b y tail)
  where
    longer : c ≡ d → ((u : List ℕ) × (a ≡ b ++ u) × (y ≡ u ++ x)) ⊎ ((u : List ℕ) × (b ≡ a ++ u) × (x ≡ u ++ y)) → ((u : List ℕ) × (c ∷ a ≡ (d ∷ b) ++ u) × (y ≡ u ++ x)) ⊎ ((u : List ℕ) × (d ∷ b ≡ (c ∷ a) ++ u) × (x ≡ u ++ y))
    longer head (inl (u, p, q)) = inl (u, cc, q)
    longer head (inr (u, p, q)) = inr (u, cc, q)

-- ---- texts with a front of words, and texts with a number in front

abbrev pub After : List ℕ → (List ℕ → Type 0) → List ℕ → Type 0
After word Q text = (rest : List ℕ) × (text ≡ word ++ rest) × Q rest

abbrev pub Numbered : (List ℕ → Type 0) → List ℕ → Type 0
Numbered Q text = (n : ℕ) × (rest : List ℕ) × (text ≡ decimal n ++ rest) × (n < 2 ^ 64) × Q rest

-- a text that has Q does not go on with a digit
abbrev pub NoDigitFirst : (List ℕ → Type 0) → Type 0
NoDigitFirst Q = (c : ℕ) (rest : List ℕ) → Q (c ∷ rest) → c < 48

-- the same texts by another name
pub stops_same : (P R : List ℕ → Type 0) → ((t : List ℕ) → P t → R t) → ((t : List ℕ) → R t → P t) → (text left : List ℕ) → Stops P text left → Stops R text left
stops_same P R to from text left s = record {
  front = s.front;
  parts = s.parts;
  outside = λ r. s.outside (from text r);
  begins = (s.begins.0, to (s.front ++ s.begins.0) s.begins.1);
  longest = λ f l e b. s.longest f l e (b.0, from (f ++ b.0) b.1);
}

-- the text and the word agree up to i, and not there
pub breaks_off : (word text : List ℕ) (i : ℕ) → i < length word → take i text ≡ take i word → ((rest : List ℕ) → drop i text ≡ get_or word i 0 ∷ rest → ⊥) → BreaksOff word text (drop i text)
breaks_off word text i inside same other = record {
  front = take i word;
  next = get_or word i 0;
  more = drop (i + 1) word;
  of_word = ap (λ (l : List ℕ). take i word ++ l) (sym (drop_more word i 0 inside)) ∙ take-append-drop i word;
  of_text = ap (λ (l : List ℕ). l ++ drop i text) (sym same) ∙ take-append-drop i text;
  other = other;
}

-- the text ends there
pub ended : (text : List ℕ) (i c : ℕ) → i ≡ length text → (rest : List ℕ) → drop i text ≡ c ∷ rest → ⊥
ended text i c end rest e = omega (arith, ap length e, length-drop i text)

-- the text has another byte there
pub other_byte : (text : List ℕ) (i c : ℕ) → i < length text → (get_or text i 0 ≡ c → ⊥) → (rest : List ℕ) → drop i text ≡ c ∷ rest → ⊥
other_byte text i c inside other rest e =
    let both : get_or text i 0 ∷ drop (i + 1) text ≡ c ∷ rest = sym (drop_more text i 0 inside) ∙ e in
    let same : get_or text i 0 ≡ c = cc in
    other same

-- reading stops within the word
pub stops_in_word : (Q : List ℕ → Type 0) (some : List ℕ) → Q some → (word text left : List ℕ) → BreaksOff word text left → Stops (After word Q) text left
stops_in_word Q some q word text left b = record {
  front = b.front;
  parts = b.of_text;
  outside = λ r. outside r.0 r.1;
  begins = (b.next ∷ (b.more ++ some), (some, begun, q));
  longest = λ f l e (r, (t, is, qt)). longest f l r t e is;
}
  where
    whole : (rest : List ℕ) → b.front ++ (b.next ∷ (b.more ++ rest)) ≡ word ++ rest
    whole rest = sym (append_assoc b.front (b.next ∷ b.more) rest) ∙ ap (λ (w : List ℕ). w ++ rest) b.of_word

    begun : b.front ++ (b.next ∷ (b.more ++ some)) ≡ word ++ some
    begun = whole some

    outside : (rest : List ℕ) → text ≡ word ++ rest → ⊥
    outside rest is = b.other (b.more ++ rest) (append_cancel_left b.front left (b.next ∷ (b.more ++ rest)) (b.of_text ∙ is ∙ sym (whole rest)))

    longest : (f l r t : List ℕ) → f ++ l ≡ text → f ++ r ≡ word ++ t → length f ≤ length b.front
    longest f l r t e is = go (two_cuts f r b.front (b.next ∷ (b.more ++ t)) (is ∙ sym (whole t)))
      where
        go : ((u : List ℕ) × (f ≡ b.front ++ u) × (b.next ∷ (b.more ++ t) ≡ u ++ r)) ⊎ ((u : List ℕ) × (b.front ≡ f ++ u) × (r ≡ u ++ b.next ∷ (b.more ++ t))) → length f ≤ length b.front
        go (inl ([], p, k)) = omega (arith, ap length p, length-append b.front [])
        go (inl (x ∷ u, p, k)) =
            let same : x ≡ b.next = cc in
            let on : b.front ++ left ≡ b.front ++ (x ∷ (u ++ l)) = b.of_text ∙ sym e ∙ ap (λ (w : List ℕ). w ++ l) p ∙ append_assoc b.front (x ∷ u) l in
            let next : left ≡ x ∷ (u ++ l) = append_cancel_left b.front left (x ∷ (u ++ l)) on in
            absurd (b.other (u ++ l) (next ∙ ap (λ (c : ℕ). c ∷ (u ++ l)) same))
        go (inr (u, p, k)) = omega (arith, ap length p, length-append f u)

-- reading stops behind the word
pub stops_after_word : (Q : List ℕ → Type 0) (word text rest left : List ℕ) → text ≡ word ++ rest → Stops Q rest left → Stops (After word Q) text left
stops_after_word Q word text rest left is s = record {
  front = word ++ s.front;
  parts = append_assoc word s.front left ∙ ap (λ (l : List ℕ). word ++ l) s.parts ∙ sym is;
  outside = λ (t, e, q). s.outside (subst Q (append_cancel_left word t rest (sym e ∙ is)) q);
  begins = (s.begins.0, (s.front ++ s.begins.0, append_assoc word s.front s.begins.0, s.begins.1));
  longest = λ f l e (r, (t, p, q)). longest f l r t e p q;
}
  where
    longest : (f l r t : List ℕ) → f ++ l ≡ text → f ++ r ≡ word ++ t → Q t → length f ≤ length (word ++ s.front)
    longest f l r t e p q = go (two_cuts f r word t p)
      where
        go : ((u : List ℕ) × (f ≡ word ++ u) × (t ≡ u ++ r)) ⊎ ((u : List ℕ) × (word ≡ f ++ u) × (r ≡ u ++ t)) → length f ≤ length (word ++ s.front)
        go (inl (u, k, i)) =
            let on : word ++ (u ++ l) ≡ word ++ rest = sym (append_assoc word u l) ∙ ap (λ (w : List ℕ). w ++ l) (sym k) ∙ e ∙ is in
            let le = s.longest u l (append_cancel_left word (u ++ l) rest on) (r, subst Q i q) in
            omega (arith, ap length k, length-append word u, length-append word s.front, le)
        go (inr (u, k, i)) = omega (arith, ap length k, length-append f u, length-append word s.front)

-- reading stops where a number is wanted
pub stops_at_number : (Q : List ℕ → Type 0) (some : List ℕ) → Q some → (text : List ℕ) → HasNoNumber text → Stops (Numbered Q) text text
stops_at_number Q some q text none = record {
  front = [];
  parts = refl;
  outside = λ (n, rest, is, fits, k). none (decimal n) rest n (sym is) (record { digits = refl; fits = fits });
  begins = (decimal 0 ++ some, (0, some, refl, omega arith, q));
  longest = λ f l e (r, (n, t, is, fits, k)). longest f l e r n t is fits;
}
  where
    longest : (f l : List ℕ) → f ++ l ≡ text → (r : List ℕ) (n : ℕ) (t : List ℕ) → f ++ r ≡ decimal n ++ t → n < 2 ^ 64 → length f ≤ 0
    longest [] l e r n t is fits = omega arith
    longest (x ∷ f) l e r n t is fits = go (two_cuts (x ∷ f) r (decimal n) t is)
      where
        go : ((u : List ℕ) × (x ∷ f ≡ decimal n ++ u) × (t ≡ u ++ r)) ⊎ ((u : List ℕ) × (decimal n ≡ (x ∷ f) ++ u) × (r ≡ u ++ t)) → length (x ∷ f) ≤ 0
        go (inl (u, k, i)) =
            absurd (none (decimal n) (u ++ l) n (sym (append_assoc (decimal n) u l) ∙ ap (λ (w : List ℕ). w ++ l) (sym k) ∙ e) (record { digits = refl; fits = fits }))
        go (inr (u, k, i)) =
            let m = front_number n fits (x ∷ f) u (sym k) (omega arith) in
            absurd (none (x ∷ f) l m.0 e m.1)

-- reading stops behind a number
pub stops_after_number : (Q : List ℕ → Type 0) → NoDigitFirst Q → (text : List ℕ) (n : ℕ) (rest left : List ℕ) → TakesNumber text n rest → Stops Q rest left → Stops (Numbered Q) text left
stops_after_number Q plain text n rest left takes s = record {
  front = decimal n ++ s.front;
  parts = append_assoc (decimal n) s.front left ∙ ap (λ (l : List ℕ). decimal n ++ l) s.parts ∙ takes.parts;
  outside = λ (m, t, is, fits, q). outside m t is fits q;
  begins = (s.begins.0, (n, s.front ++ s.begins.0, append_assoc (decimal n) s.front s.begins.0, takes.fits, s.begins.1));
  longest = λ f l e (r, (m, t, is, fits, q)). longest f l r m t e is fits q;
}
  where
    digit_first : (c : ℕ) (xs ys : List ℕ) (m : ℕ) → decimal m ≡ xs ++ c ∷ ys → 48 ≤ c
    digit_first c xs ys m e = later xs (subst (AtLeast 48) e (decimal-at_least m))
      where
        later : (zs : List ℕ) → AtLeast 48 (zs ++ c ∷ ys) → 48 ≤ c
        later [] a = a.0
        later (z ∷ zs) a = later zs a.1

    -- a number in front of the text, and something that has Q: it is this number, or it is followed by a digit
    same : (m : ℕ) (t : List ℕ) → decimal m ++ t ≡ text → m < 2 ^ 64 → (v : List ℕ) × (decimal n ≡ decimal m ++ v) × (t ≡ v ++ rest)
    same m t e fits = go (two_cuts (decimal m) t (decimal n) rest (e ∙ sym takes.parts))
      where
        go : ((u : List ℕ) × (decimal m ≡ decimal n ++ u) × (rest ≡ u ++ t)) ⊎ ((u : List ℕ) × (decimal n ≡ decimal m ++ u) × (t ≡ u ++ rest)) → (v : List ℕ) × (decimal n ≡ decimal m ++ v) × (t ≡ v ++ rest)
        go (inl ([], p, k)) = ([], sym (append-nil (decimal n)) ∙ sym p ∙ sym (append-nil (decimal m)), sym k)
        go (inl (c ∷ u, p, k)) =
            absurd (omega (arith, takes.longest (decimal m) t m e (record { digits = refl; fits = fits }), ap length p, length-append (decimal n) (c ∷ u)))
        go (inr h) = h

    outside : (m : ℕ) (t : List ℕ) → text ≡ decimal m ++ t → m < 2 ^ 64 → Q t → ⊥
    outside m t is fits q = go (same m t (sym is) fits)
      where
        go : (v : List ℕ) × (decimal n ≡ decimal m ++ v) × (t ≡ v ++ rest) → ⊥
        go ([], p, k) = s.outside (subst Q k q)
        go (c ∷ v, p, k) = omega (arith, plain c (v ++ rest) (subst Q k q), digit_first c (decimal m) v n p)

    longest : (f l r : List ℕ) (m : ℕ) (t : List ℕ) → f ++ l ≡ text → f ++ r ≡ decimal m ++ t → m < 2 ^ 64 → Q t → length f ≤ length (decimal n ++ s.front)
    longest [] l r m t e is fits q = omega arith
    longest (x ∷ f) l r m t e is fits q = go (two_cuts (x ∷ f) r (decimal m) t is)
      where
        behind : (u v : List ℕ) → x ∷ f ≡ decimal m ++ u → t ≡ u ++ r → decimal n ≡ decimal m ++ v → u ++ l ≡ v ++ rest → length (x ∷ f) ≤ length (decimal n ++ s.front)
        behind u [] k i p j =
            let le = s.longest u l j (r, subst Q i q) in
            omega (arith, ap length k, length-append (decimal m) u, ap length p, length-append (decimal m) [], length-append (decimal n) s.front, le)
        behind [] (c ∷ v) k i p j =
            omega (arith, ap length k, length-append (decimal m) [], ap length p, length-append (decimal m) (c ∷ v), length-append (decimal n) s.front)
        behind (d ∷ u) (c ∷ v) k i p j =
            let d_is : d ≡ c = cc in
            absurd (omega (arith, plain d (u ++ r) (subst Q i q), digit_first c (decimal m) v n p, d_is))

        go : ((u : List ℕ) × (x ∷ f ≡ decimal m ++ u) × (t ≡ u ++ r)) ⊎ ((u : List ℕ) × (decimal m ≡ (x ∷ f) ++ u) × (r ≡ u ++ t)) → length (x ∷ f) ≤ length (decimal n ++ s.front)
        go (inl (u, k, i)) =
            let on : decimal m ++ (u ++ l) ≡ text = sym (append_assoc (decimal m) u l) ∙ ap (λ (w : List ℕ). w ++ l) (sym k) ∙ e in
            let v = same m (u ++ l) on fits in
            behind u v.0 k i v.1 v.2
        go (inr (u, k, i)) =
            let number = front_number m fits (x ∷ f) u (sym k) (omega arith) in
            omega (arith, takes.longest (x ∷ f) l number.0 e number.1, length-append (decimal n) s.front)

-- reading stops at a line end that does not come
pub stops_at_end : (c : ℕ) (rest : List ℕ) → Stops (λ t. t ≡ []) (c ∷ rest) (c ∷ rest)
stops_at_end c rest = record {
  front = [];
  parts = refl;
  outside = λ e. cc;
  begins = ([], refl);
  longest = λ f l e (r, is). none f r is;
}
  where
    none : (f r : List ℕ) → f ++ r ≡ [] → length f ≤ 0
    none [] r is = omega arith
    none (x ∷ f) r is = cc
