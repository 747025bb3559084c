-- The bytes of a side have one meaning.
use Rattle.std.proofs.Common.{◌≡◌, ◌≢◌, ℕ, ◌+◌, List, [], ◌∷◌, ◌++◌, length, take, drop, refl, sym, ◌∙◌, ap, subst, arith, append_assoc, length-append}
use Rattle.std.specs.Int.{w32, to_be_bytes, from_be_bytes}
use Rattle.std.specs.List.{AllByRecursion}
use Rattle.std.proofs.lemmas.List.{take_at, drop_at}
use Rattle.std.proofs.lemmas.Nat.{from_be_bytes-to_be_bytes_4}
use Rattle.journal_frame.specs.Texts.{Fits}
use Rattle.journal_frame.specs.Headers.{IsHeaderPayload}
use Rattle.journal_frame.specs.Frames.{framed, opened, front, HasFrame, HasHeader, HasEntries, IsBlank, IsLive}

pub length-framed : (payload : List ℕ) → length (framed payload) ≡ 4 + length payload
unfolding framed
length-framed payload = omega (arith, length-append {A = ℕ})

-- two frames that begin the same bytes are one
pub framed_one : (p q x y : List ℕ) → Fits p → Fits q → framed p ++ x ≡ framed q ++ y → (p ≡ q) × (x ≡ y)
unfolding framed
framed_one p q x y p_fits q_fits same =
    let regroup : (to_be_bytes w32 (length p) ++ p) ++ x ≡ to_be_bytes w32 (length p) ++ (p ++ x) = append_assoc (to_be_bytes w32 (length p)) p x in
    let regroup_q : (to_be_bytes w32 (length q) ++ q) ++ y ≡ to_be_bytes w32 (length q) ++ (q ++ y) = append_assoc (to_be_bytes w32 (length q)) q y in
    let whole : to_be_bytes w32 (length p) ++ (p ++ x) ≡ to_be_bytes w32 (length q) ++ (q ++ y) = sym regroup ∙ same ∙ regroup_q in
    let heads : to_be_bytes w32 (length p) ≡ to_be_bytes w32 (length q) = ap (λ (l : List ℕ). take 4 l) whole in
    let sizes : length p ≡ length q = sym (from_be_bytes-to_be_bytes_4 (length p) p_fits) ∙ ap (from_be_bytes w32) heads ∙ from_be_bytes-to_be_bytes_4 (length q) q_fits in
    let tails : p ++ x ≡ q ++ y = ap (λ (l : List ℕ). drop 4 l) whole in (
      sym (take_at p x (length p) refl) ∙ ap (λ (l : List ℕ). take (length p) l) tails ∙ take_at q y (length p) (sym sizes),
      sym (drop_at p x (length p) refl) ∙ ap (λ (l : List ℕ). drop (length p) l) tails ∙ drop_at q y (length p) (sym sizes),
    )

opened_one : (ps qs : List (List ℕ)) (c d : ℕ) (x y : List ℕ) → c ≢ 1 → d ≢ 1 → AllByRecursion Fits ps → AllByRecursion Fits qs → opened ps ++ c ∷ x ≡ opened qs ++ d ∷ y → ps ≡ qs
opened_one [] [] c d x y c_shut d_shut ps_fit qs_fit same = refl
opened_one [] (q ∷ qs) c d x y c_shut d_shut ps_fit qs_fit same = let is : c ≡ 1 = cc same in absurd (c_shut is)
opened_one (p ∷ ps) [] c d x y c_shut d_shut ps_fit qs_fit same = let is : d ≡ 1 = cc same in absurd (d_shut is)
opened_one (p ∷ ps) (q ∷ qs) c d x y c_shut d_shut ps_fit qs_fit same =
    let inner : framed p ++ (opened ps ++ c ∷ x) ≡ framed q ++ (opened qs ++ d ∷ y) =
    sym (append_assoc (framed p) (opened ps) (c ∷ x)) ∙ ap (λ (l : List ℕ). drop 1 l) same ∙ append_assoc (framed q) (opened qs) (d ∷ y) in
    let one = framed_one p q (opened ps ++ c ∷ x) (opened qs ++ d ∷ y) ps_fit.0 qs_fit.0 inner in
    let rest = opened_one ps qs c d x y c_shut d_shut ps_fit.1 qs_fit.1 one.1 in
    λ i. one.0 i ∷ rest i

-- the bytes with the first gate apart
behind : (gate : ℕ) (header : List ℕ) (entries : List (List ℕ)) (closed : ℕ) (rest : List ℕ) → front gate header entries ++ closed ∷ rest ≡ gate ∷ (framed header ++ (opened entries ++ closed ∷ rest))
behind gate header entries closed rest = append_assoc (gate ∷ framed header) (opened entries) (closed ∷ rest)

pub entries_one : (bytes header other : List ℕ) (entries others : List (List ℕ)) → HasEntries bytes header entries → HasEntries bytes other others → (header ≡ other) × (entries ≡ others)
entries_one bytes header other entries others one two =
    let same : framed header ++ (opened entries ++ one.closed ∷ one.rest) ≡ framed other ++ (opened others ++ two.closed ∷ two.rest) =
    ap (λ (l : List ℕ). drop 1 l) (sym (behind one.gate header entries one.closed one.rest) ∙ sym one.bytes_are ∙ two.bytes_are ∙ behind two.gate other others two.closed two.rest) in
    let heads = framed_one header other (opened entries ++ one.closed ∷ one.rest) (opened others ++ two.closed ∷ two.rest) one.header_fits two.header_fits same in
    (heads.0, opened_one entries others one.closed two.closed one.rest two.rest one.is_closed two.is_closed one.entries_fit two.entries_fit heads.1)

-- a side has one first frame
pub frame_one : (bytes : List ℕ) (gate other_gate : ℕ) (payload other : List ℕ) → HasFrame bytes gate payload → HasFrame bytes other_gate other → payload ≡ other
frame_one bytes gate other_gate payload other one two = (framed_one payload other (one.next ∷ one.rest) (two.next ∷ two.rest) one.fits two.fits (ap (λ (l : List ℕ). drop 1 l) (sym one.bytes_are ∙ two.bytes_are))).0

pub header_frame_one : (bytes payload other : List ℕ) → HasHeader bytes payload → HasHeader bytes other → payload ≡ other
header_frame_one bytes payload other one two = frame_one bytes one.gate two.gate payload other one.frame two.frame

-- a blank side has no frame behind an open gate
blank_no_frame : (bytes : List ℕ) (gate : ℕ) (payload : List ℕ) → IsBlank bytes → gate ≢ 0 → HasFrame bytes gate payload → ⊥
blank_no_frame bytes gate payload blank is_open frame = by_cases bytes blank frame.bytes_are
  where
    long : length (framed payload ++ frame.next ∷ frame.rest) ≡ 4 + length payload + length (frame.next ∷ frame.rest)
    long = omega (arith, length-framed payload, length-append (framed payload) (frame.next ∷ frame.rest))

    by_cases : (l : List ℕ) → IsBlank l → l ≡ gate ∷ (framed payload ++ frame.next ∷ frame.rest) → ⊥
    by_cases [] b is = cc is
    by_cases (x ∷ []) b is = omega (arith, long, ap length is)
    by_cases (x ∷ y ∷ l) b is = let same : x ≡ gate = cc is in is_open (sym same ∙ b)

pub blank_not_live : (bytes : List ℕ) → IsBlank bytes → ¬ IsLive bytes
blank_not_live bytes blank live = blank_no_frame bytes live.1.gate live.0 blank live.1.is_open live.1.frame

-- the first frame, whatever stands behind it
first_frame : (gate : ℕ) (header : List ℕ) (entries : List (List ℕ)) (closed : ℕ) (rest : List ℕ) → Fits header → HasFrame (front gate header entries ++ closed ∷ rest) gate header
first_frame gate header [] closed rest fits = record { next = closed; rest = rest; fits = fits; bytes_are = behind gate header [] closed rest }
first_frame gate header (entry ∷ entries) closed rest fits = record { next = 1; rest = (framed entry ++ opened entries) ++ closed ∷ rest; fits = fits; bytes_are = behind gate header (entry ∷ entries) closed rest }

pub live_from_entries : (bytes header : List ℕ) (entries : List (List ℕ)) → HasEntries bytes header entries → IsHeaderPayload header → IsLive bytes
live_from_entries bytes header entries has grammar =
    let frame : HasFrame bytes has.gate header = subst (λ (l : List ℕ). HasFrame l has.gate header) (sym has.bytes_are) (first_frame has.gate header entries has.closed has.rest has.header_fits) in
    (header, record { gate = has.gate; is_open = has.is_open; frame = frame; grammar = grammar })
