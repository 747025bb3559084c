-- What a journal has read, and what it reads next.
use Rattle.std.proofs.Common.{◌≡◌, ◌≢◌, ℕ, ◌+◌, List, [], ◌∷◌, ◌++◌, length, get_or, drop, refl, sym, ◌∙◌, ap, subst, arith, append_assoc, length-append, inl, inr}
use Rattle.std.proofs.lemmas.List.{append-nil, drop_at}
use Rattle.station_api.specs.Scene.{Scene, side_of, other_of}
use Rattle.station_api.specs.declared.station.DiskSide.{DiskSide}
use Rattle.journal_frame.specs.declared.header.HeaderParts.{HeaderParts}
use Rattle.journal_frame.specs.Headers.{IsHeader}
use Rattle.journal_frame.specs.Entries.{IsEntryPayload}
use Rattle.journal_frame.specs.Frames.{framed, front, HasFrame, HasHeader, IsBlank, IsLive, IsBadRecord}
use Rattle.journal_frame.proofs.FrameLaws.{length-framed, frame_one, header_frame_one, blank_not_live}
use Rattle.journal_frame.proofs.HeaderLaws.{header_one}
use Rattle.fleet_journal.specs.Sides.{IsTakenOver, IsBeside, IsClean}
use Rattle.fleet_journal.specs.Standing.{Standing}
use Rattle.fleet_journal.specs.Journal.{HasRead, Stands}
use Rattle.fleet_journal.proofs.Frames.{front-push, fit-push}

-- a side that is not live is beside any other
pub not_live_beside : (side : DiskSide) (own : ℕ) (bytes : List ℕ) → ¬ IsLive bytes → IsBeside side own bytes
not_live_beside side own bytes none payload header has is = absurd (none (payload, has))

-- a side with one header is beside what is taken over it
pub one_beside : (side : DiskSide) (own : ℕ) (bytes payload : List ℕ) (header : HeaderParts) → IsHeader payload header → HasHeader bytes payload → IsTakenOver side own header.generation → IsBeside side own bytes
one_beside side own bytes payload header is has over other other_header other_has other_is =
    let same = header_frame_one bytes payload other has other_has in
    let headers = header_one payload header other_header is (subst (λ (p : List ℕ). IsHeader p other_header) (sym same) other_is) in
    subst (λ (h : HeaderParts). IsTakenOver side own h.generation) headers over

clean_blank : (bytes : List ℕ) → IsClean bytes → IsBlank bytes
clean_blank [] clean = tt
clean_blank (x ∷ []) clean = tt
clean_blank (x ∷ y ∷ bytes) (inl is) = absurd (cc is)
clean_blank (x ∷ y ∷ bytes) (inr is) = absurd (omega (arith, ap length is))

-- a live side is not clean
pub live_not_clean : (bytes payload : List ℕ) → HasHeader bytes payload → ¬ IsClean bytes
live_not_clean bytes payload has clean = blank_not_live bytes (clean_blank bytes clean) (payload, has)

-- a journal behind its header
pub behind_header : (side : DiskSide) (header : HeaderParts) (payload : List ℕ) (size : ℕ) (scene : Scene) → IsHeader payload header → HasHeader (side_of side scene) payload → size ≡ length payload
    → IsBeside side header.generation (side_of (other_of side) scene) → HasRead (record { side = side; place = 5 + size; passed = 0 }) header [] scene
behind_header side header payload size scene is has is_size beside = record {
  payload = payload;
  is_header = is;
  begins = record {
    gate = has.gate;
    next = has.frame.next;
    rest = has.frame.rest;
    is_open = has.is_open;
    bytes_are = has.frame.bytes_are ∙ ap (λ (l : List ℕ). l ++ has.frame.next ∷ has.frame.rest) (sym (append-nil (has.gate ∷ framed payload)));
    header_fits = has.frame.fits;
    entries_fit = tt;
  };
  beside = beside;
  place = omega (arith, is_size, length-framed payload, length-append (has.gate ∷ framed payload) []);
  passed = refl;
}

module _ (journal : Standing) (header : HeaderParts) (entries : List (List ℕ)) (scene : Scene) (has : HasRead journal header entries scene) where
  abbrev bytes : List ℕ
  bytes = side_of journal.side scene

  abbrev before : List ℕ
  before = front has.begins.gate has.payload entries

  -- what lies from the journal's gate on
  at_gate : drop journal.place bytes ≡ has.begins.next ∷ has.begins.rest
  at_gate = ap (λ (l : List ℕ). drop journal.place l) has.begins.bytes_are ∙ drop_at before (has.begins.next ∷ has.begins.rest) journal.place (sym has.place)

  -- where the gate is closed, the entries are all that there are
  pub closed_stands : get_or (drop journal.place bytes) 0 0 ≢ 1 → Stands journal header entries scene
  closed_stands shut = record {
    keeps = record {
      payload = has.payload;
      is_header = has.is_header;
      has = record {
        gate = has.begins.gate;
        closed = has.begins.next;
        rest = has.begins.rest;
        is_open = has.begins.is_open;
        is_closed = λ is. shut (ap (λ (l : List ℕ). get_or l 0 0) at_gate ∙ is);
        bytes_are = has.begins.bytes_are;
        header_fits = has.begins.header_fits;
        entries_fit = has.begins.entries_fit;
      };
      beside = has.beside;
    };
    place = has.place;
    passed = has.passed;
  }

  -- behind an open gate there is one more entry
  pub read_on : (payload : List ℕ) (size : ℕ) → HasFrame (drop journal.place bytes) 1 payload → length payload ≡ size → HasRead (record { side = journal.side; place = journal.place + (5 + size); passed = journal.passed + 1 }) header (entries ++ payload ∷ []) scene
  read_on payload size frame is_size =
      let next_is : has.begins.next ∷ has.begins.rest ≡ (1 ∷ framed payload) ++ frame.next ∷ frame.rest = sym at_gate ∙ frame.bytes_are in
      record {
        payload = has.payload;
        is_header = has.is_header;
        begins = record {
          gate = has.begins.gate;
          next = frame.next;
          rest = frame.rest;
          is_open = has.begins.is_open;
          bytes_are = has.begins.bytes_are ∙ ap (λ (l : List ℕ). before ++ l) next_is
              ∙ sym (append_assoc before (1 ∷ framed payload) (frame.next ∷ frame.rest))
              ∙ ap (λ (l : List ℕ). l ++ frame.next ∷ frame.rest) (sym (front-push has.begins.gate has.payload entries payload));
          header_fits = has.begins.header_fits;
          entries_fit = fit-push entries payload has.begins.entries_fit frame.fits;
        };
        beside = has.beside;
        place = omega (arith, has.place, is_size, ap length (front-push has.begins.gate has.payload entries payload), length-append before (1 ∷ framed payload), length-framed payload);
        passed = omega (arith, has.passed, length-append entries (payload ∷ []));
      }

open_gate_is : (l : List ℕ) → get_or l 0 0 ≡ 1 → l ≡ 1 ∷ drop 1 l
open_gate_is [] is = absurd (omega (arith, is))
open_gate_is (x ∷ l) is = ap (λ (y : ℕ). y ∷ l) is

-- an open gate without a whole frame behind it
pub no_frame_bad : (l : List ℕ) → get_or l 0 0 ≡ 1 → ((gate : ℕ) (payload : List ℕ) → ¬ HasFrame l gate payload) → IsBadRecord l
no_frame_bad l is none = record { behind = drop 1 l; is_open = open_gate_is l is; no_entry = λ payload grammar frame. none 1 payload frame }

-- an open gate, and a whole frame behind it that is no entry
pub no_entry_bad : (l payload : List ℕ) (gate : ℕ) → get_or l 0 0 ≡ 1 → HasFrame l gate payload → ¬ IsEntryPayload payload → IsBadRecord l
no_entry_bad l payload gate is frame none =
    record { behind = drop 1 l; is_open = open_gate_is l is; no_entry = λ other grammar other_frame. none (subst IsEntryPayload (frame_one l 1 gate other payload other_frame frame) grammar) }

-- an open gate, and behind it never an entry
pub never_entry_bad : (l : List ℕ) → get_or l 0 0 ≡ 1 → ((gate : ℕ) (payload : List ℕ) → IsEntryPayload payload → ¬ HasFrame l gate payload) → IsBadRecord l
never_entry_bad l is none = record { behind = drop 1 l; is_open = open_gate_is l is; no_entry = λ payload grammar frame. none 1 payload grammar frame }
