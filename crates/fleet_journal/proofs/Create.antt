-- What a stop leaves at each moment of a `create`, one part after another.
use Rattle.std.proofs.Common.{◌≡◌, ◌≢◌, inl, inr, ⊎_elim, ℕ, List, [], ◌∷◌, ◌++◌, length, ◌^◌, ◌<◌, ◌≤◌, drop, refl, sym, ◌∙◌, ap, subst, arith, length-append}
use Rattle.std.proofs.lemmas.List.{append-nil, drop_at}
use Rattle.station_api.specs.Scene.{Scene}
use Rattle.station_api.specs.Clock.{Clock, LeavesOnly}
use Rattle.station_api.specs.Disk.{Changes}
use Rattle.station_api.specs.declared.station.DiskSide.TheVariants.{A, B}
use Rattle.station_api.proofs.Moments.{goes_on, leaves_also}
use Rattle.journal_frame.specs.declared.header.HeaderParts.{HeaderParts}
use Rattle.journal_frame.specs.Texts.{Fits}
use Rattle.journal_frame.specs.Headers.{IsHeader}
use Rattle.journal_frame.specs.Frames.{framed, frame_text, HasEntries, IsBlank}
use Rattle.journal_frame.proofs.FrameLaws.{length-framed}
use Rattle.fleet_journal.specs.Sides.{Keeps, IsBlankJournal, BlankOrCreated}
use Rattle.fleet_journal.specs.Standing.{Standing}
use Rattle.fleet_journal.specs.Journal.{IsHeaderText, Stands, EndsShut}
use Rattle.fleet_journal.specs.Clearing.{IsSameButGate, IsCleared, Clears, ClearsLong, HasGate, HasText, GetsText}
use Rattle.fleet_journal.proofs.Frames.{length-frame_text}
use Rattle.fleet_journal.proofs.Clearing.{clean_cleared, gate_cleared, long_cleared}
use Rattle.fleet_journal.proofs.Beside.{weaker, beside_blank, keeps_cleared}

-- a header has one payload
payload_one : (payload other : List ℕ) (header : HeaderParts) → IsHeader payload header → IsHeader other header → payload ≡ other
payload_one payload other header one two = one.payload_is ∙ sym two.payload_is

-- a header with an open gate, and nothing behind it but a closed one
header_alone : (bytes payload text : List ℕ) (gate : ℕ) → Fits payload → text ≡ frame_text payload → gate ≢ 0 → bytes ≡ gate ∷ text → HasEntries bytes payload []
header_alone bytes payload text gate fits is_text is_open is = record {
  gate = gate;
  closed = 0;
  rest = [];
  is_open = is_open;
  is_closed = λ h. absurd (omega (arith, h));
  bytes_are = is ∙ ap (λ (l : List ℕ). gate ∷ l) is_text ∙ ap (λ (l : List ℕ). l ++ 0 ∷ []) (sym (append-nil (gate ∷ framed payload)));
  header_fits = fits;
  entries_fit = tt;
}

same_but_gate : (old new : List ℕ) → IsBlank old → IsSameButGate old new → IsBlank new
same_but_gate old new blank (gate, other, [], is_open, old_is, new_is) = subst IsBlank (sym new_is) tt
same_but_gate old new blank (gate, other, x ∷ rest, is_open, old_is, new_is) = let shut : gate ≡ 0 = subst IsBlank old_is blank in absurd (is_open shut)

-- a blank side stays blank while it is cleared
blank_cleared : (old new : List ℕ) → IsBlank old → IsCleared old new → IsBlank new
blank_cleared old new blank (inl same) = subst IsBlank (sym same) blank
blank_cleared old new blank (inr (inl is)) = is
blank_cleared old new blank (inr (inr gates)) = same_but_gate old new blank gates

pub journal_cleared : (s c : Scene) → IsBlankJournal s → Changes A IsCleared s c → IsBlankJournal c
journal_cleared s c blank changes = record { a = blank_cleared s.a c.a blank.a changes.on; b = subst IsBlank (sym changes.off) blank.b }

module _ (header : HeaderParts) (text : List ℕ) (of_header : IsHeaderText text header) (short : length text < 2 ^ 32) where
  abbrev P : Scene → Type 0
  P = BlankOrCreated header

  abbrev payload : List ℕ
  payload = of_header.0

  fits : Fits payload
  fits = omega (arith, short, ap length of_header.2, length-frame_text payload)

  created : (s c : Scene) (gate : ℕ) → IsBlankJournal s → gate ≢ 0 → c.a ≡ gate ∷ text → c.b ≡ s.b → Keeps A header [] c
  created s c gate blank is_open is off = record {
    payload = payload;
    is_header = of_header.1;
    has = header_alone c.a payload text gate fits of_header.2 is_open is;
    beside = beside_blank A header.generation c.b (subst IsBlank (sym off) blank.b);
  }

  gets : (s c : Scene) → IsBlankJournal s → Changes A (GetsText text) s c → P c
  gets s c blank changes = ⊎_elim
      (λ is. inl (record { a = is; b = subst IsBlank (sym changes.off) blank.b }))
      (λ found. inr (created s c found.0 blank found.1 found.2 changes.off))
      changes.on

  at_clean : (s c : Scene) → IsBlankJournal s → Changes A Clears s c → IsBlankJournal c
  at_clean s c blank changes = journal_cleared s c blank (weaker A Clears IsCleared s c clean_cleared changes)

  at_gate : (s c : Scene) → IsBlankJournal s → Changes A HasGate s c → IsBlankJournal c
  at_gate s c blank changes = journal_cleared s c blank (weaker A HasGate IsCleared s c gate_cleared changes)

  other_cleared : (s c : Scene) → Keeps A header [] s → Changes B IsCleared s c → Keeps A header [] c
  other_cleared s c keeps changes = keeps_cleared A header [] s c keeps changes

  pub at_end : (s0 s1 s2 s3 s4 : Scene) → IsBlankJournal s0 → Changes A Clears s0 s1 → Changes A HasGate s1 s2 → Changes A (HasText text) s2 s3 → Changes B ClearsLong s3 s4 → Keeps A header [] s4
  at_end s0 s1 s2 s3 s4 blank cleared gated put last =
      other_cleared s3 s4 (created s2 s3 1 (at_gate s1 s2 (at_clean s0 s1 blank cleared) gated) (λ h. absurd (omega (arith, h))) put.on put.off) (weaker B ClearsLong IsCleared s3 s4 long_cleared last)

  pub until_cleared : (k0 k1 : Clock) → IsBlankJournal k0.seen → LeavesOnly (Changes A IsCleared k0.seen) k0 k1 → LeavesOnly P k0 k1
  until_cleared k0 k1 blank run = leaves_also (Changes A IsCleared k0.seen) P k0 k1 run (λ c changes. inl (journal_cleared k0.seen c blank changes))

  pub until_gate : (k0 k1 k2 : Clock) → IsBlankJournal k0.seen → LeavesOnly (Changes A IsCleared k0.seen) k0 k1 → Changes A Clears k0.seen k1.seen → LeavesOnly (Changes A IsCleared k1.seen) k1 k2 → LeavesOnly P k0 k2
  until_gate k0 k1 k2 blank run cleared then = goes_on P k0 k1 k2 (until_cleared k0 k1 blank run) (until_cleared k1 k2 (at_clean k0.seen k1.seen blank cleared) then)

  pub until_header : (k0 k1 k2 k3 : Clock) → IsBlankJournal k0.seen → LeavesOnly (Changes A IsCleared k0.seen) k0 k1 → Changes A Clears k0.seen k1.seen → LeavesOnly (Changes A IsCleared k1.seen) k1 k2 → Changes A HasGate k1.seen k2.seen
      → LeavesOnly (Changes A (GetsText text) k2.seen) k2 k3 → LeavesOnly P k0 k3
  until_header k0 k1 k2 k3 blank run cleared gate gated got =
      let at2 = at_gate k1.seen k2.seen (at_clean k0.seen k1.seen blank cleared) gated in
      goes_on P k0 k2 k3 (until_gate k0 k1 k2 blank run cleared gate) (leaves_also (Changes A (GetsText text) k2.seen) P k2 k3 got (λ c changes. gets k2.seen c at2 changes))

  pub until_end : (k0 k1 k2 k3 k4 : Clock) → IsBlankJournal k0.seen → LeavesOnly (Changes A IsCleared k0.seen) k0 k1 → Changes A Clears k0.seen k1.seen → LeavesOnly (Changes A IsCleared k1.seen) k1 k2 → Changes A HasGate k1.seen k2.seen
      → LeavesOnly (Changes A (GetsText text) k2.seen) k2 k3 → Changes A (HasText text) k2.seen k3.seen → LeavesOnly (Changes B IsCleared k3.seen) k3 k4 → LeavesOnly P k0 k4
  until_end k0 k1 k2 k3 k4 blank run cleared gate gated got put last =
      let at3 = created k2.seen k3.seen 1 (at_gate k1.seen k2.seen (at_clean k0.seen k1.seen blank cleared) gated) (λ h. absurd (omega (arith, h))) put.on put.off in
      goes_on P k0 k3 k4 (until_header k0 k1 k2 k3 blank run cleared gate gated got)
      (leaves_also (Changes B IsCleared k3.seen) P k3 k4 last (λ c changes. inr (other_cleared k3.seen c at3 changes)))

  pub stands_created : (journal : Standing) (scene : Scene) → Keeps A header [] scene → journal ≡ record { side = A; place = length text; passed = 0 } → Stands journal header [] scene
  stands_created journal scene keeps is =
      subst (λ (j : Standing). Stands j header [] scene) (sym is) (record {
        keeps = keeps;
        place = omega (arith, ap length of_header.2, length-frame_text payload, one, length-framed keeps.payload, length-append (keeps.has.gate ∷ framed keeps.payload) []);
        passed = refl;
      })
    where
      one : length keeps.payload ≡ length payload
      one = ap length (payload_one keeps.payload payload header keeps.is_header of_header.1)

  -- the text behind an open gate ends with a closed one
  pub ends_shut : (journal : Standing) (scene : Scene) → scene.a ≡ 1 ∷ text → journal ≡ record { side = A; place = length text; passed = 0 } → EndsShut journal scene
  ends_shut journal scene bytes is =
      subst (λ (j : Standing). EndsShut j scene) (sym is)
      (ap (λ (l : List ℕ). drop (length text) l) (bytes ∙ ap (λ (l : List ℕ). 1 ∷ l) of_header.2)
      ∙ drop_at (1 ∷ framed payload) (0 ∷ []) (length text) (omega (arith, ap length of_header.2, length-frame_text payload, length-framed payload)))

-- the other side, where it had at most one byte
pub short_stays : (s0 s1 s2 s3 s4 : Scene) (text : List ℕ) → Changes A Clears s0 s1 → Changes A HasGate s1 s2 → Changes A (HasText text) s2 s3 → Changes B ClearsLong s3 s4 → length s0.b ≤ 1 → s4.b ≡ s0.b
short_stays s0 s1 s2 s3 s4 text cleared gated put last short =
    let same : s3.b ≡ s0.b = put.off ∙ gated.off ∙ cleared.off in
    last.on.stays (omega (arith, ap length same, short)) ∙ same
