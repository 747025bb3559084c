-- What a stop leaves at each moment of a `finish`, one part after another.
use Rattle.std.proofs.Common.{◌≡◌, ℕ, ◌+◌, List, [], ◌∷◌, ◌++◌, length, take, drop, sym, ◌∙◌, ap, subst, arith, length-append}
use Rattle.station_api.specs.Scene.{Scene, side_of, other_of}
use Rattle.station_api.specs.Clock.{Clock, LeavesOnly}
use Rattle.station_api.specs.Disk.{Changes, Shortened}
use Rattle.station_api.specs.declared.station.DiskSide.{DiskSide}
use Rattle.station_api.proofs.Moments.{goes_on, leaves_also}
use Rattle.journal_frame.specs.declared.header.HeaderParts.{HeaderParts}
use Rattle.journal_frame.specs.Frames.{front}
use Rattle.fleet_journal.specs.Sides.{IsBeside, Keeps}
use Rattle.fleet_journal.specs.Standing.{Standing}
use Rattle.fleet_journal.specs.Journal.{Stands}
use Rattle.fleet_journal.specs.Clearing.{IsCleared, IsCut, Clears}
use Rattle.fleet_journal.proofs.Bytes.{kept_before, take_more}
use Rattle.fleet_journal.proofs.Frames.{closed_again}
use Rattle.fleet_journal.proofs.Clearing.{clean_cleared}
use Rattle.fleet_journal.proofs.Beside.{twice, weaker, beside_cleared}

module _ (journal : Standing) (header : HeaderParts) (entries : List (List ℕ)) (other : DiskSide) (is_other : other ≡ other_of journal.side) where
  abbrev side : DiskSide
  side = journal.side

  abbrev P : Scene → Type 0
  P = Keeps side header entries

  abbrev At : Scene → Type 0
  At = Stands journal header entries

  -- the other side is cleared
  cleared : (s c : Scene) → At s → Changes other IsCleared s c → At c
  cleared s c stands changes =
      let at_other = subst (λ (o : DiskSide). Changes o IsCleared s c) is_other changes in
      let same : side_of side c ≡ side_of side s = subst (λ (o : DiskSide). side_of o c ≡ side_of o s) (twice side) at_other.off in
      let has = stands.keeps.has in
      record {
        keeps = record {
          payload = stands.keeps.payload;
          is_header = stands.keeps.is_header;
          has = closed_again (side_of side s) stands.keeps.payload entries has (side_of side c) has.closed has.rest (same ∙ has.bytes_are) has.is_closed;
          beside = beside_cleared side header.generation (side_of (other_of side) s) (side_of (other_of side) c) stands.keeps.beside at_other.on;
        };
        place = stands.place;
        passed = stands.passed;
      }

  pub clean : (s c : Scene) → At s → Changes other Clears s c → At c
  clean s c stands changes = cleared s c stands (weaker other Clears IsCleared s c clean_cleared changes)

  -- what lies behind the closed gate is cut off
  cutting : (s c : Scene) → At s → Changes side (Shortened (journal.place + 1)) s c → P c
  cutting s c stands changes =
      let has = stands.keeps.has in
      let before = front has.gate stands.keeps.payload entries in
      let same = subst (λ (l : List ℕ). Shortened (journal.place + 1) l (side_of side c)) has.bytes_are changes.on in
      record {
        payload = stands.keeps.payload;
        is_header = stands.keeps.is_header;
        has = closed_again (side_of side s) stands.keeps.payload entries has (side_of side c) has.closed (drop (journal.place + 1) (side_of side c))
            (kept_before before has.closed has.rest journal.place stands.place (side_of side c) same.before) has.is_closed;
        beside = subst (IsBeside side header.generation) (sym changes.off) stands.keeps.beside;
      }

  cut_to : (s c : Scene) (stands : At s) → Changes side (IsCut (journal.place + 1)) s c → side_of side c ≡ front stands.keeps.has.gate stands.keeps.payload entries ++ stands.keeps.has.closed ∷ []
  cut_to s c stands changes =
      let has = stands.keeps.has in
      changes.on ∙ ap (λ (l : List ℕ). take (journal.place + 1) l) has.bytes_are ∙ take_more (front has.gate stands.keeps.payload entries) has.closed has.rest journal.place stands.place

  cut : (s c : Scene) → At s → Changes side (IsCut (journal.place + 1)) s c → At c
  cut s c stands changes =
      let has = stands.keeps.has in
      record {
        keeps = record {
          payload = stands.keeps.payload;
          is_header = stands.keeps.is_header;
          has = closed_again (side_of side s) stands.keeps.payload entries has (side_of side c) has.closed [] (cut_to s c stands changes) has.is_closed;
          beside = subst (IsBeside side header.generation) (sym changes.off) stands.keeps.beside;
        };
        place = stands.place;
        passed = stands.passed;
      }

  -- the parts of a finish, one more each time
  pub until_cleared : (k0 k1 : Clock) → At k0.seen → LeavesOnly (Changes other IsCleared k0.seen) k0 k1 → LeavesOnly P k0 k1
  until_cleared k0 k1 stands run = leaves_also (Changes other IsCleared k0.seen) P k0 k1 run (λ c changes. let is = cleared k0.seen c stands changes in is.keeps)

  pub until_end : (k0 k1 k2 : Clock) → At k0.seen → LeavesOnly (Changes other IsCleared k0.seen) k0 k1 → Changes other Clears k0.seen k1.seen → LeavesOnly (Changes side (Shortened (journal.place + 1)) k1.seen) k1 k2 → LeavesOnly P k0 k2
  until_end k0 k1 k2 stands run cleaned cuts =
      goes_on P k0 k1 k2 (until_cleared k0 k1 stands run)
      (leaves_also (Changes side (Shortened (journal.place + 1)) k1.seen) P k1 k2 cuts (λ c changes. cutting k1.seen c (clean k0.seen k1.seen stands cleaned) changes))

  pub at_end : (s0 s1 s2 : Scene) → At s0 → Changes other Clears s0 s1 → Changes side (IsCut (journal.place + 1)) s1 s2 → At s2
  at_end s0 s1 s2 stands cleaned cuts = cut s1 s2 (clean s0 s1 stands cleaned) cuts

  pub ends : (s0 s1 s2 : Scene) → At s0 → Changes other Clears s0 s1 → Changes side (IsCut (journal.place + 1)) s1 s2 → length (side_of side s2) ≡ journal.place + 1
  ends s0 s1 s2 stands cleaned cuts =
      let is = clean s0 s1 stands cleaned in
      omega (arith, ap length (cut_to s1 s2 is cuts), is.place, length-append (front is.keeps.has.gate is.keeps.payload entries) (is.keeps.has.closed ∷ []))

  pub cuts_side : (s0 s1 s2 : Scene) → Changes other Clears s0 s1 → Changes side (IsCut (journal.place + 1)) s1 s2 → side_of side s2 ≡ take (journal.place + 1) (side_of side s0)
  cuts_side s0 s1 s2 cleaned cuts =
      let at_other = subst (λ (o : DiskSide). Changes o Clears s0 s1) is_other cleaned in
      let same : side_of side s1 ≡ side_of side s0 = subst (λ (o : DiskSide). side_of o s1 ≡ side_of o s0) (twice side) at_other.off in
      cuts.on ∙ ap (λ (l : List ℕ). take (journal.place + 1) l) same
