-- What a stop leaves at each moment of an `append`, one device call after another.
use Rattle.std.proofs.Common.{◌≡◌, ◌⊎◌, inl, inr, ℕ, ◌+◌, List, [], ◌∷◌, ◌++◌, length, get_or, drop, sym, ◌∙◌, ap, subst, arith, append_assoc, length-append}
use Rattle.std.proofs.lemmas.List.{append-nil, drop_all, drop_at}
use Rattle.station_api.specs.Scene.{Scene, side_of, other_of}
use Rattle.station_api.specs.Clock.{Clock, LeavesOnly, LeavesNow, IsKept}
use Rattle.station_api.specs.Disk.{Torn, IsQuiet, IsStep, IsSynced, Writes, written}
use Rattle.station_api.proofs.Moments.{goes_on, leaves_now, after_quiet, after_step_kept, kept_again}
use Rattle.station_api.specs.declared.station.DiskSide.{DiskSide}
use Rattle.journal_frame.specs.declared.header.HeaderParts.{HeaderParts}
use Rattle.journal_frame.specs.Texts.{Fits}
use Rattle.journal_frame.specs.Frames.{front, frame_text, framed, HasEntries}
use Rattle.fleet_journal.specs.Sides.{IsBeside, KeepsOrAdds}
use Rattle.fleet_journal.specs.Standing.{Standing}
use Rattle.fleet_journal.specs.Journal.{Stands, EndsShut}
use Rattle.fleet_journal.proofs.Bytes.{torn_behind, torn_at, written_behind, written_at, written_over}
use Rattle.journal_frame.proofs.FrameLaws.{length-framed}
use Rattle.fleet_journal.proofs.Frames.{length-frame_text, closed_again, opened_before, behind_gate, front-push}

-- An append to a journal that stands at its closed gate
pub record Begins (journal : Standing) (header : HeaderParts) (entries : List (List ℕ)) (payload text : List ℕ) (old : Clock) : Type 0 where
  pub fits : Fits payload
  pub is_text : text ≡ frame_text payload
  pub stands : Stands journal header entries old.seen

-- the frame stands behind the closed gate
pub record IsStaged (journal : Standing) (header : HeaderParts) (entries : List (List ℕ)) (payload : List ℕ) (old : Clock) (stands : Stands journal header entries old.seen) (scene : Scene) : Type 0 where
  pub rest : List ℕ
  pub bytes_are : side_of journal.side scene ≡ front stands.keeps.has.gate stands.keeps.payload entries ++ stands.keeps.has.closed ∷ (frame_text payload ++ rest)
  pub off : side_of (other_of journal.side) scene ≡ side_of (other_of journal.side) old.seen

module _ (journal : Standing) (header : HeaderParts) (entries : List (List ℕ)) (payload text : List ℕ) (old : Clock) (begins : Begins journal header entries payload text old) where
  abbrev side : DiskSide
  side = journal.side

  abbrev P : Scene → Type 0
  P = KeepsOrAdds side header entries payload

  abbrev first : List ℕ
  first = begins.stands.keeps.payload

  abbrev has : HasEntries (side_of side old.seen) first entries
  has = begins.stands.keeps.has

  abbrev before : List ℕ
  before = front has.gate first entries

  -- live as it was, or with the new entry
  pub stands_for : (c : Scene) → side_of (other_of side) c ≡ side_of (other_of side) old.seen → HasEntries (side_of side c) first entries ⊎ HasEntries (side_of side c) first (entries ++ payload ∷ []) → P c
  stands_for c off (inl is) = inl (record { payload = first; is_header = begins.stands.keeps.is_header; has = is; beside = subst (IsBeside side header.generation) (sym off) begins.stands.keeps.beside })
  stands_for c off (inr is) = inr (record { payload = first; is_header = begins.stands.keeps.is_header; has = is; beside = subst (IsBeside side header.generation) (sym off) begins.stands.keeps.beside })

  -- at the start
  pub at_start : IsKept old → LeavesNow P old
  at_start kept c now =
      let is = kept c now in
      stands_for c (ap (side_of (other_of side)) is) (inl (subst (λ (s : Scene). HasEntries (side_of side s) first entries) (sym is) has))

  -- the frame is being written
  pub behind : IsKept old → (k1 : Clock) → IsStep side (Torn (journal.place + 1) (length text)) old k1 → LeavesOnly P old k1
  behind kept k1 step = after_step_kept P side _ old k1 step kept (λ c changes.
      let torn = subst (λ (l : List ℕ). Torn (journal.place + 1) (length text) l (side_of side c)) has.bytes_are changes.on in
      stands_for c changes.off (inl (closed_again _ first entries has (side_of side c) has.closed (drop (journal.place + 1) (side_of side c)) (torn_behind before has.closed has.rest journal.place begins.stands.place (length text) (side_of side c) torn) has.is_closed)))

  pub staged : (k1 : Clock) → IsStep side (Torn (journal.place + 1) (length text)) old k1 → Writes side (journal.place + 1) text old k1 → IsStaged journal header entries payload old begins.stands k1.seen
  staged k1 step writes =
      let rest = drop (journal.place + 1 + length text) (before ++ has.closed ∷ has.rest) in
      record {
        rest = rest;
        bytes_are = writes ∙ ap (λ (l : List ℕ). written (journal.place + 1) text l) has.bytes_are
            ∙ written_behind before has.closed has.rest journal.place begins.stands.place text
            ∙ ap (λ (l : List ℕ). before ++ has.closed ∷ (l ++ rest)) begins.is_text;
        off = step.off;
      }

  -- the gate is being opened
  module _ (k2 : Clock) (stage : IsStaged journal header entries payload old begins.stands k2.seen) where
    pub opening : IsKept k2 → (k3 : Clock) → IsStep side (Torn journal.place 1) k2 k3 → LeavesOnly P k2 k3
    opening kept k3 step = after_step_kept P side _ k2 k3 step kept (λ c changes.
        let torn = subst (λ (l : List ℕ). Torn journal.place 1 l (side_of side c)) stage.bytes_are changes.on in
        stands_for c (changes.off ∙ stage.off) (behind_gate _ first entries has payload (side_of side c) stage.rest (get_or (side_of side c) journal.place 0) begins.fits (torn_at before has.closed (frame_text payload ++ stage.rest) journal.place begins.stands.place (side_of side c) torn)))

    pub added : (k3 k4 : Clock) → IsStep side (Torn journal.place 1) k2 k3 → Writes side journal.place (1 ∷ []) k2 k3 → IsQuiet k3 k4
        → Stands (record { side = journal.side; place = journal.place + length text; passed = journal.passed + 1 }) header (entries ++ payload ∷ []) k4.seen
    added k3 k4 step writes quiet =
        let is : side_of side k4.seen ≡ before ++ 1 ∷ (frame_text payload ++ stage.rest) =
        ap (side_of side) quiet.seen ∙ writes ∙ ap (λ (l : List ℕ). written journal.place (1 ∷ []) l) stage.bytes_are
        ∙ written_at before has.closed (frame_text payload ++ stage.rest) journal.place begins.stands.place 1 in
        let off : side_of (other_of side) k4.seen ≡ side_of (other_of side) old.seen = ap (side_of (other_of side)) quiet.seen ∙ step.off ∙ stage.off in
        record {
          keeps = record {
            payload = first;
            is_header = begins.stands.keeps.is_header;
            has = opened_before _ first entries has payload (side_of side k4.seen) stage.rest begins.fits is;
            beside = subst (IsBeside side header.generation) (sym off) begins.stands.keeps.beside;
          };
          place = omega (arith, begins.stands.place, ap length begins.is_text, ap length (front-push has.gate first entries payload), length-append before (1 ∷ framed payload), length-append (framed payload) (0 ∷ []));
          passed = omega (arith, begins.stands.passed, length-append entries (payload ∷ []));
        }

  -- the frame as it stands after the sync
  stage_on : (k1 k2 : Clock) → IsQuiet k1 k2 → IsStaged journal header entries payload old begins.stands k1.seen → IsStaged journal header entries payload old begins.stands k2.seen
  stage_on k1 k2 quiet stage = subst (IsStaged journal header entries payload old begins.stands) (sym quiet.seen) stage

  -- the calls of an append, one more each time
  pub until_write : IsKept old → (k1 : Clock) → IsStep side (Torn (journal.place + 1) (length text)) old k1 → LeavesOnly P old k1
  until_write = behind

  pub until_sync : IsKept old → (k1 k2 : Clock) → IsStep side (Torn (journal.place + 1) (length text)) old k1 → IsQuiet k1 k2 → LeavesOnly P old k2
  until_sync kept k1 k2 step quiet =
      let so_far = behind kept k1 step in
      goes_on P old k1 k2 so_far (after_quiet P k1 k2 quiet (leaves_now P old k1 so_far))

  pub until_gate : IsKept old → (k1 k2 k3 : Clock) → IsStep side (Torn (journal.place + 1) (length text)) old k1 → Writes side (journal.place + 1) text old k1 → IsQuiet k1 k2 → IsSynced side k2
      → IsStep side (Torn journal.place 1) k2 k3 → LeavesOnly P old k3
  until_gate kept k1 k2 k3 step writes quiet synced gate =
      goes_on P old k2 k3 (until_sync kept k1 k2 step quiet) (opening k2 (stage_on k1 k2 quiet (staged k1 step writes)) (kept_again side _ old k1 k2 kept step quiet synced) k3 gate)

  pub until_end : IsKept old → (k1 k2 k3 k4 : Clock) → IsStep side (Torn (journal.place + 1) (length text)) old k1 → Writes side (journal.place + 1) text old k1 → IsQuiet k1 k2 → IsSynced side k2
      → IsStep side (Torn journal.place 1) k2 k3 → IsQuiet k3 k4 → LeavesOnly P old k4
  until_end kept k1 k2 k3 k4 step writes quiet synced gate quiet_too =
      let so_far = until_gate kept k1 k2 k3 step writes quiet synced gate in
      goes_on P old k3 k4 so_far (after_quiet P k3 k4 quiet_too (leaves_now P old k3 so_far))

  pub adds : (k1 k2 k3 k4 : Clock) → IsStep side (Torn (journal.place + 1) (length text)) old k1 → Writes side (journal.place + 1) text old k1 → IsQuiet k1 k2
      → IsStep side (Torn journal.place 1) k2 k3 → Writes side journal.place (1 ∷ []) k2 k3 → IsQuiet k3 k4
      → Stands (record { side = journal.side; place = journal.place + length text; passed = journal.passed + 1 }) header (entries ++ payload ∷ []) k4.seen
  adds k1 k2 k3 k4 step writes quiet gate opens quiet_too = added k2 (stage_on k1 k2 quiet (staged k1 step writes)) k3 k4 gate opens quiet_too

  -- both writes are as one
  pub writes_all : (k1 k2 k3 k4 : Clock) → Writes side (journal.place + 1) text old k1 → IsQuiet k1 k2 → Writes side journal.place (1 ∷ []) k2 k3 → IsQuiet k3 k4 → Writes side journal.place (1 ∷ text) old k4
  writes_all k1 k2 k3 k4 frame quiet gate quiet_too =
      let behind_is : side_of side k2.seen ≡ before ++ has.closed ∷ (text ++ drop (journal.place + 1 + length text) (before ++ has.closed ∷ has.rest)) =
      ap (side_of side) quiet.seen ∙ frame ∙ ap (λ (l : List ℕ). written (journal.place + 1) text l) has.bytes_are ∙ written_behind before has.closed has.rest journal.place begins.stands.place text in
      ap (side_of side) quiet_too.seen ∙ gate ∙ ap (λ (l : List ℕ). written journal.place (1 ∷ []) l) behind_is
      ∙ written_at before has.closed (text ++ drop (journal.place + 1 + length text) (before ++ has.closed ∷ has.rest)) journal.place begins.stands.place 1
      ∙ sym (written_over before has.closed has.rest journal.place begins.stands.place 1 text)
      ∙ ap (λ (l : List ℕ). written journal.place (1 ∷ text) l) (sym has.bytes_are)

  -- a side that ended at its closed gate ends at the next one
  pub ends_shut : (new : Clock) → Writes side journal.place (1 ∷ text) old new → length (side_of side old.seen) ≡ journal.place + 1
      → EndsShut (record { side = journal.side; place = journal.place + length text; passed = journal.passed + 1 }) new.seen
  ends_shut new writes short =
      let is : side_of side new.seen ≡ (before ++ 1 ∷ framed payload) ++ 0 ∷ [] =
      writes ∙ ap (λ (l : List ℕ). written journal.place (1 ∷ text) l) has.bytes_are ∙ written_over before has.closed has.rest journal.place begins.stands.place 1 text
      ∙ ap (λ (l : List ℕ). before ++ 1 ∷ (text ++ l)) (drop_all (journal.place + 1 + length text) (before ++ has.closed ∷ has.rest) (omega (arith, short, ap length has.bytes_are)))
      ∙ ap (λ (l : List ℕ). before ++ 1 ∷ l) (append-nil text ∙ begins.is_text)
      ∙ sym (append_assoc before (1 ∷ framed payload) (0 ∷ [])) in
      ap (λ (l : List ℕ). drop (journal.place + length text) l) is
      ∙ drop_at (before ++ 1 ∷ framed payload) (0 ∷ []) (journal.place + length text)
      (omega (arith, begins.stands.place, ap length begins.is_text, length-frame_text payload, length-framed payload, length-append before (1 ∷ framed payload)))
