-- What sides of frames stand for.
use Rattle.std.proofs.Common.{◌≡◌, ◌≢◌, ◌⊎◌, inl, inr, ℕ, ◌+◌, List, [], ◌∷◌, ◌++◌, length, sym, ◌∙◌, ap, arith, append_assoc, length-append}
use Rattle.std.specs.List.{AllByRecursion}
use Rattle.std.proofs.lemmas.List.{append-nil}
use Rattle.std.proofs.lemmas.Bool.{cases_eq}
use Rattle.journal_frame.specs.Texts.{Fits}
use Rattle.journal_frame.specs.Frames.{framed, frame_text, opened, front, HasEntries}
use Rattle.journal_frame.proofs.FrameLaws.{length-framed}

pub length-frame_text : (payload : List ℕ) → length (frame_text payload) ≡ 5 + length payload
length-frame_text payload = omega (arith, length-framed payload, length-append (framed payload) (0 ∷ []))

-- the text has the payload's length
pub text_fits : (payload other text : List ℕ) → text ≡ frame_text payload → text ≡ frame_text other → Fits other → Fits payload
text_fits payload other text is is_other fits = omega (arith, length-frame_text payload, length-frame_text other, ap length is, ap length is_other, fits)

pub opened-push : (payloads : List (List ℕ)) (payload : List ℕ) → opened (payloads ++ payload ∷ []) ≡ opened payloads ++ 1 ∷ framed payload
opened-push [] payload = append-nil (1 ∷ framed payload)
opened-push (p ∷ payloads) payload =
    ap (λ (l : List ℕ). (1 ∷ framed p) ++ l) (opened-push payloads payload) ∙ sym (append_assoc (1 ∷ framed p) (opened payloads) (1 ∷ framed payload))

pub fit-push : (payloads : List (List ℕ)) (payload : List ℕ) → AllByRecursion Fits payloads → Fits payload → AllByRecursion Fits (payloads ++ payload ∷ [])
fit-push [] payload all fits = (fits, tt)
fit-push (p ∷ payloads) payload all fits = (all.0, fit-push payloads payload all.1 fits)

pub front-push : (gate : ℕ) (header : List ℕ) (entries : List (List ℕ)) (payload : List ℕ) → front gate header (entries ++ payload ∷ []) ≡ front gate header entries ++ 1 ∷ framed payload
front-push gate header entries payload =
    ap (λ (l : List ℕ). (gate ∷ framed header) ++ l) (opened-push entries payload) ∙ sym (append_assoc (gate ∷ framed header) (opened entries) (1 ∷ framed payload))

-- the same header and entries with another closed gate and another rest
pub closed_again : (bytes header : List ℕ) (entries : List (List ℕ)) (has : HasEntries bytes header entries) (c : List ℕ) (closed : ℕ) (rest : List ℕ) → c ≡ front has.gate header entries ++ closed ∷ rest → closed ≢ 1 → HasEntries c header entries
closed_again bytes header entries has c closed rest is shut =
    record { gate = has.gate; closed = closed; rest = rest; is_open = has.is_open; is_closed = shut; bytes_are = is; header_fits = has.header_fits; entries_fit = has.entries_fit }

-- the closed gate opened before a whole frame
pub opened_before : (bytes header : List ℕ) (entries : List (List ℕ)) (has : HasEntries bytes header entries) (payload : List ℕ) (c rest : List ℕ) → Fits payload → c ≡ front has.gate header entries ++ 1 ∷ (frame_text payload ++ rest) → HasEntries c header (entries ++ payload ∷ [])
opened_before bytes header entries has payload c rest fits is =
    record {
      gate = has.gate;
      closed = 0;
      rest = rest;
      is_open = has.is_open;
      is_closed = λ h. absurd (omega (arith, h));
      bytes_are = is
          ∙ ap (λ (l : List ℕ). front has.gate header entries ++ 1 ∷ l) (append_assoc (framed payload) (0 ∷ []) rest)
          ∙ sym (append_assoc (front has.gate header entries) (1 ∷ framed payload) (0 ∷ rest))
          ∙ ap (λ (l : List ℕ). l ++ 0 ∷ rest) (sym (front-push has.gate header entries payload));
      header_fits = has.header_fits;
      entries_fit = fit-push entries payload has.entries_fit fits;
    }

-- a whole frame behind any gate counts or it does not
pub behind_gate : (bytes header : List ℕ) (entries : List (List ℕ)) (has : HasEntries bytes header entries) (payload : List ℕ) (c rest : List ℕ) (gate : ℕ) → Fits payload → c ≡ front has.gate header entries ++ gate ∷ (frame_text payload ++ rest) → HasEntries c header entries ⊎ HasEntries c header (entries ++ payload ∷ [])
behind_gate bytes header entries has payload c rest gate fits is = elim (cases_eq gate 1) [
  | inl is_open ↦ inr (opened_before bytes header entries has payload c rest fits (is ∙ ap (λ (g : ℕ). front has.gate header entries ++ g ∷ (frame_text payload ++ rest)) is_open))
  | inr shut ↦ inl (closed_again bytes header entries has c gate (frame_text payload ++ rest) is shut)
]
