-- Report lines as words and numbers: where reading one stops, how long it is, and that it names one report.
use Rattle.std.proofs.Common.{ℕ, ◌≡◌, ◌-◌, ◌^◌, ◌<◌, ◌≤◌, ◌⊎◌, List, [], ◌∷◌, ◌++◌, refl, sym, ap, ◌∙◌, subst, inl, inr, arith, length, get_or, take, drop, append_assoc, length-append, length-take-le}
use Rattle.std.specs.Prelude.{decimal, codes, flat_map}
use Rattle.std.proofs.lemmas.List.{append-nil, take-append-drop, take_at, append_cancel_left}
use Rattle.std.proofs.lemmas.Fmt.{length-decimal-le}
use Rattle.fleet_base.specs.declared.report.Report.{Report}
use Rattle.fleet_base.specs.declared.report.Report.TheVariants.{Arrive, Delay}
use Rattle.fleet_base.specs.Bytes.{IsLongestFront, field}
use Rattle.report_text.specs.Reading.{spelled, IsSpelled, Stops}
use Rattle.report_text.specs.ReportLine.{report_line, HasNumbers, IsReportLine, IsReport, BeginsReportLine}
use Rattle.report_text.proofs.Spelling.{same_numbers}

-- ---- as words and numbers

pub arrive_is : (robot index tick : ℕ) → report_line (Arrive robot index tick) ≡ spelled (codes "arrive") (robot ∷ index ∷ tick ∷ [])
arrive_is robot index tick = simp (append_assoc, append-nil)

pub delay_is : (robot index extra tick : ℕ) → report_line (Delay robot index extra tick) ≡ spelled (codes "delay") (robot ∷ index ∷ extra ∷ tick ∷ [])
delay_is robot index extra tick = simp (append_assoc, append-nil)

abbrev pub IsArrive : List ℕ → Type 0
IsArrive line = IsSpelled (codes "arrive") 3 line

abbrev pub IsDelay : List ℕ → Type 0
IsDelay line = IsSpelled (codes "delay") 4 line

pub report_arrives : (line : List ℕ) → IsArrive line → IsReport line
report_arrives line ([], count, fit, is) = absurd (omega arith)
report_arrives line (a ∷ [], count, fit, is) = absurd (omega arith)
report_arrives line (a ∷ b ∷ [], count, fit, is) = absurd (omega arith)
report_arrives line (a ∷ b ∷ c ∷ [], count, fit, is) =
    (Arrive a b c, record { text = is ∙ sym (arrive_is a b c); numbers = (fit.0, fit.1.0, fit.1.1.0) })
report_arrives line (a ∷ b ∷ c ∷ d ∷ ns, count, fit, is) = absurd (omega arith)

pub report_delays : (line : List ℕ) → IsDelay line → IsReport line
report_delays line ([], count, fit, is) = absurd (omega arith)
report_delays line (a ∷ [], count, fit, is) = absurd (omega arith)
report_delays line (a ∷ b ∷ [], count, fit, is) = absurd (omega arith)
report_delays line (a ∷ b ∷ c ∷ [], count, fit, is) = absurd (omega arith)
report_delays line (a ∷ b ∷ c ∷ d ∷ [], count, fit, is) =
    (Delay a b c d, record { text = is ∙ sym (delay_is a b c d); numbers = (fit.0, fit.1.0, fit.1.1.0, fit.1.1.1.0) })
report_delays line (a ∷ b ∷ c ∷ d ∷ e ∷ ns, count, fit, is) = absurd (omega arith)

sorted : (line : List ℕ) → IsReport line → IsArrive line ⊎ IsDelay line
sorted line (Arrive a b c, h) = inl (a ∷ b ∷ c ∷ [], refl, (h.numbers.0, (h.numbers.1, (h.numbers.2, tt))), h.text ∙ arrive_is a b c)
sorted line (Delay a b c d, h) = inr (a ∷ b ∷ c ∷ d ∷ [], refl, (h.numbers.0, (h.numbers.1, (h.numbers.2, (h.numbers.3, tt)))), h.text ∙ delay_is a b c d)

-- ---- where reading stops

-- of two kinds of texts that begin with different bytes, the text begins at most one
first_byte : (c : ℕ) (word : List ℕ) (count : ℕ) (line : List ℕ) → ((rest : List ℕ) → line ≡ c ∷ rest → ⊥) → (f l r : List ℕ) → f ++ l ≡ line → IsSpelled (c ∷ word) count (f ++ r) → f ≡ []
first_byte c word count line other [] l r e s = refl
first_byte c word count line other (x ∷ f) l r e (ns, n, fit, is) =
    let same : x ≡ c = cc in
    absurd (other (f ++ l) (sym e ∙ ap (λ (b : ℕ). b ∷ (f ++ l)) same))

not_first : (c : ℕ) (word : List ℕ) (count : ℕ) (line : List ℕ) → ((rest : List ℕ) → line ≡ c ∷ rest → ⊥) → IsSpelled (c ∷ word) count line → ⊥
not_first c word count line other (ns, n, fit, is) = other (word ++ flat_map field ns) is

empty_front : (f front : List ℕ) → f ≡ [] → length f ≤ length front
empty_front f front e = omega (arith, ap length e)

-- a line that does not begin with `d` stops where it stops as an arrival
pub stops_as_arrive : (line left : List ℕ) → ((rest : List ℕ) → line ≡ 100 ∷ rest → ⊥) → Stops IsArrive line left → Stops IsReport line left
stops_as_arrive line left other s = record {
  front = s.front;
  parts = s.parts;
  outside = λ report. out (sorted line report);
  begins = (s.begins.0, report_arrives (s.front ++ s.begins.0) s.begins.1);
  longest = λ f l e b. longest f l b.0 e (sorted (f ++ b.0) b.1);
}
  where
    out : IsArrive line ⊎ IsDelay line → ⊥
    out (inl a) = s.outside a
    out (inr d) = not_first 100 (codes "elay") 4 line other d

    longest : (f l r : List ℕ) → f ++ l ≡ line → IsArrive (f ++ r) ⊎ IsDelay (f ++ r) → length f ≤ length s.front
    longest f l r e (inl a) = s.longest f l e (r, a)
    longest f l r e (inr d) = empty_front f s.front (first_byte 100 (codes "elay") 4 line other f l r e d)

-- a line that does not begin with `a` stops where it stops as a delay
pub stops_as_delay : (line left : List ℕ) → ((rest : List ℕ) → line ≡ 97 ∷ rest → ⊥) → Stops IsDelay line left → Stops IsReport line left
stops_as_delay line left other s = record {
  front = s.front;
  parts = s.parts;
  outside = λ report. out (sorted line report);
  begins = (s.begins.0, report_delays (s.front ++ s.begins.0) s.begins.1);
  longest = λ f l e b. longest f l b.0 e (sorted (f ++ b.0) b.1);
}
  where
    out : IsArrive line ⊎ IsDelay line → ⊥
    out (inl a) = not_first 97 (codes "rrive") 3 line other a
    out (inr d) = s.outside d

    longest : (f l r : List ℕ) → f ++ l ≡ line → IsArrive (f ++ r) ⊎ IsDelay (f ++ r) → length f ≤ length s.front
    longest f l r e (inl a) = empty_front f s.front (first_byte 97 (codes "rrive") 3 line other f l r e a)
    longest f l r e (inr d) = s.longest f l e (r, d)

-- the length of the longest front that begins a report line
pub longest_front : (line left : List ℕ) → Stops IsReport line left → IsLongestFront BeginsReportLine line (length line - length left)
longest_front line left s = record {
  within = omega (arith, ap length s.parts, length-append s.front left);
  good = subst BeginsReportLine (sym front) (s.front ++ s.begins.0, s.begins.1.0, s.begins.1.1, (s.begins.0, refl));
  longest = λ m le b. longest m le b.0 b.1 b.2 b.3.0 b.3.1;
}
  where
    size : length s.front ≡ length line - length left
    size = omega (arith, ap length s.parts, length-append s.front left)

    front : take (length line - length left) line ≡ s.front
    front = ap (take (length line - length left)) (sym s.parts) ∙ take_at s.front left (length line - length left) size

    longest : (m : ℕ) → m ≤ length line → (whole : List ℕ) (report : Report) → IsReportLine whole report → (rest : List ℕ) → take m line ++ rest ≡ whole → m ≤ length line - length left
    longest m le whole report h rest e =
        let cut = take-append-drop m line in
        let least = s.longest (take m line) (drop m line) cut (rest, (report, subst (λ (l : List ℕ). IsReportLine l report) (sym e) h)) in
        omega (arith, least, length-take-le m line le, size)

-- ---- lengths

length-decimal : (n : ℕ) → n < 2 ^ 64 → length (decimal n) ≤ 20
length-decimal n fits = length-decimal-le 20 n (omega arith) (omega (arith, fits)) fits

pub report_line-short : (line : List ℕ) (report : Report) → IsReportLine line report → length line ≤ 89
report_line-short line (Arrive a b c) h =
    omega (arith, ap length (h.text ∙ arrive_is a b c), length-append (decimal a) (field b ++ (field c ++ [])), length-append (decimal b) (field c ++ []), length-append (decimal c) [], length-decimal a h.numbers.0, length-decimal b h.numbers.1, length-decimal c h.numbers.2)
report_line-short line (Delay a b c d) h =
    omega (arith, ap length (h.text ∙ delay_is a b c d), length-append (decimal a) (field b ++ (field c ++ (field d ++ []))), length-append (decimal b) (field c ++ (field d ++ [])), length-append (decimal c) (field d ++ []), length-append (decimal d) [], length-decimal a h.numbers.0, length-decimal b h.numbers.1, length-decimal c h.numbers.2, length-decimal d h.numbers.3)

-- ---- one report a line

same_report : (a b : Report) → HasNumbers a → HasNumbers b → report_line a ≡ report_line b → a ≡ b
same_report (Arrive a b c) (Arrive x y z) fa fb e =
    let whole = sym (arrive_is a b c) ∙ e ∙ arrive_is x y z in
    let same = same_numbers (a ∷ b ∷ c ∷ []) (x ∷ y ∷ z ∷ []) (fa.0, (fa.1, (fa.2, tt))) (fb.0, (fb.1, (fb.2, tt))) (append_cancel_left (codes "arrive") (flat_map field (a ∷ b ∷ c ∷ [])) (flat_map field (x ∷ y ∷ z ∷ [])) whole) in
    let p : a ≡ x = cc in
    let q : b ≡ y = cc in
    let r : c ≡ z = cc in
    cc
same_report (Arrive a b c) (Delay x y z w) fa fb e = absurd (omega (arith, ap (λ (l : List ℕ). get_or l 0 0) e))
same_report (Delay a b c d) (Arrive x y z) fa fb e = absurd (omega (arith, ap (λ (l : List ℕ). get_or l 0 0) e))
same_report (Delay a b c d) (Delay x y z w) fa fb e =
    let whole = sym (delay_is a b c d) ∙ e ∙ delay_is x y z w in
    let same = same_numbers (a ∷ b ∷ c ∷ d ∷ []) (x ∷ y ∷ z ∷ w ∷ []) (fa.0, (fa.1, (fa.2, (fa.3, tt)))) (fb.0, (fb.1, (fb.2, (fb.3, tt)))) (append_cancel_left (codes "delay") (flat_map field (a ∷ b ∷ c ∷ d ∷ [])) (flat_map field (x ∷ y ∷ z ∷ w ∷ [])) whole) in
    let p : a ≡ x = cc in
    let q : b ≡ y = cc in
    let r : c ≡ z = cc in
    let o : d ≡ w = cc in
    cc

pub one_report : (line : List ℕ) (a b : Report) → IsReportLine line a → IsReportLine line b → a ≡ b
one_report line a b p q = same_report a b p.numbers q.numbers (sym p.text ∙ q.text)

-- what begins a report line is no longer
front-short : (front : List ℕ) → BeginsReportLine front → length front ≤ 89
front-short front (line, report, h, (rest, e)) = omega (arith, report_line-short line report h, ap length e, length-append front rest)

pub longest_front-short : (line : List ℕ) (n : ℕ) → IsLongestFront BeginsReportLine line n → n ≤ 89
longest_front-short line n h = omega (arith, front-short (take n line) h.good, length-take-le n line h.within)
