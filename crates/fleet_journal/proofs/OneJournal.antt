-- Two sides keep one journal at most.
use Rattle.std.proofs.Common.{◌≡◌, ℕ, List, [], ◌∷◌, ◌++◌, sym, ◌∙◌, subst, refl, arith, append_assoc}
use Rattle.station_api.specs.Scene.{Scene, side_of}
use Rattle.station_api.specs.declared.station.DiskSide.{DiskSide}
use Rattle.station_api.specs.declared.station.DiskSide.TheVariants.{A, B}
use Rattle.journal_frame.specs.declared.header.HeaderParts.{HeaderParts}
use Rattle.journal_frame.specs.Headers.{IsHeader, IsHeaderPayload}
use Rattle.journal_frame.specs.Frames.{framed, opened, HasHeader, HasEntries}
use Rattle.journal_frame.proofs.FrameLaws.{header_frame_one, entries_one, blank_not_live}
use Rattle.journal_frame.proofs.HeaderLaws.{header_one}
use Rattle.fleet_journal.specs.Sides.{IsTaken, Keeps, IsBlankJournal, IsNoJournal}
use Rattle.fleet_journal.specs.Standing.{Standing}
use Rattle.fleet_journal.specs.Journal.{BeginsWith, HasRead}

-- a side that begins with a header and entries has this header
begins_header : (bytes payload : List ℕ) (entries : List (List ℕ)) → BeginsWith bytes payload entries → IsHeaderPayload payload → HasHeader bytes payload
begins_header bytes payload entries begins grammar = by_cases entries (begins.bytes_are ∙ append_assoc (begins.gate ∷ framed payload) (opened entries) (begins.next ∷ begins.rest))
  where
    by_cases : (es : List (List ℕ)) → bytes ≡ begins.gate ∷ (framed payload ++ (opened es ++ begins.next ∷ begins.rest)) → HasHeader bytes payload
    by_cases [] is = record { gate = begins.gate; is_open = begins.is_open; frame = record { next = begins.next; rest = begins.rest; fits = begins.header_fits; bytes_are = is }; grammar = grammar }
    by_cases (e ∷ es) is = record { gate = begins.gate; is_open = begins.is_open; frame = record { next = 1; rest = (framed e ++ opened es) ++ begins.next ∷ begins.rest; fits = begins.header_fits; bytes_are = is }; grammar = grammar }

pub reads_taken : (journal : Standing) (header : HeaderParts) (entries : List (List ℕ)) (scene : Scene) → HasRead journal header entries scene → IsTaken journal.side header scene
reads_taken journal header entries scene has = record {
  payload = has.payload;
  is_header = has.is_header;
  has_header = begins_header (side_of journal.side scene) has.payload entries has.begins (header, has.is_header);
  beside = has.beside;
}

pub keeps_taken : (side : DiskSide) (header : HeaderParts) (entries : List (List ℕ)) (scene : Scene) → Keeps side header entries scene → IsTaken side header scene
keeps_taken side header entries scene keeps = record {
  payload = keeps.payload;
  is_header = keeps.is_header;
  has_header = begins_header (side_of side scene) keeps.payload entries
      (record { gate = keeps.has.gate; next = keeps.has.closed; rest = keeps.has.rest; is_open = keeps.has.is_open; bytes_are = keeps.has.bytes_are; header_fits = keeps.has.header_fits; entries_fit = keeps.has.entries_fit })
      (header, keeps.is_header);
  beside = keeps.beside;
}

-- one side has one header
same_side : (side : DiskSide) (header other : HeaderParts) (scene : Scene) → IsTaken side header scene → IsTaken side other scene → header ≡ other
same_side side header other scene one two =
    let same = header_frame_one (side_of side scene) one.payload two.payload one.has_header two.has_header in
    header_one two.payload header other (subst (λ (p : List ℕ). IsHeader p header) same one.is_header) two.is_header

-- not both sides are taken
not_both : (header other : HeaderParts) (scene : Scene) → IsTaken A header scene → IsTaken B other scene → ⊥
not_both header other scene a b = let above = a.beside b.payload other b.has_header b.is_header in let below = b.beside a.payload header a.has_header a.is_header in omega (arith, above, below)

pub taken_one : (side other : DiskSide) (header other_header : HeaderParts) (scene : Scene) → IsTaken side header scene → IsTaken other other_header scene → (side ≡ other) × (header ≡ other_header)
taken_one A A header other_header scene one two = (refl, same_side A header other_header scene one two)
taken_one B B header other_header scene one two = (refl, same_side B header other_header scene one two)
taken_one A B header other_header scene one two = absurd (not_both header other_header scene one two)
taken_one B A header other_header scene one two = absurd (not_both other_header header scene two one)

pub keeps_one : (side other : DiskSide) (header other_header : HeaderParts) (entries others : List (List ℕ)) (scene : Scene) → Keeps side header entries scene → Keeps other other_header others scene
    → (side ≡ other) × (header ≡ other_header) × (entries ≡ others)
keeps_one side other header other_header entries others scene one two =
    let same = taken_one side other header other_header scene (keeps_taken side header entries scene one) (keeps_taken other other_header others scene two) in
    let there : HasEntries (side_of side scene) two.payload others = subst (λ (s : DiskSide). HasEntries (side_of s scene) two.payload others) (sym same.0) two.has in
    let lists = entries_one (side_of side scene) one.payload two.payload entries others one.has there in
    (same.0, same.1, lists.1)

pub taken_not_blank : (side : DiskSide) (header : HeaderParts) (scene : Scene) → IsTaken side header scene → ¬ IsBlankJournal scene
taken_not_blank A header scene taken blank = blank_not_live scene.a blank.a (taken.payload, taken.has_header)
taken_not_blank B header scene taken blank = blank_not_live scene.b blank.b (taken.payload, taken.has_header)

pub taken_is_journal : (side : DiskSide) (header : HeaderParts) (scene : Scene) → IsTaken side header scene → ¬ IsNoJournal scene
taken_is_journal A header scene taken none = none.a (taken.payload, taken.has_header)
taken_is_journal B header scene taken none = none.b (taken.payload, taken.has_header)
