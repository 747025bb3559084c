-- Which side is taken, by what each side is.
use Rattle.std.proofs.Common.{◌≡◌, ℕ, ◌+◌, ◌<◌, ◌≤◌, List, refl, inl, inr}
use Rattle.station_api.specs.Scene.{Scene}
use Rattle.station_api.specs.declared.station.DiskSide.TheVariants.{A, B}
use Rattle.journal_frame.specs.declared.header.HeaderParts.{HeaderParts}
use Rattle.journal_frame.specs.Frames.{IsLive}
use Rattle.journal_frame.proofs.FrameLaws.{blank_not_live}
use Rattle.fleet_journal.specs.Sides.{IsNoJournal}
use Rattle.fleet_journal.specs.Reading.{IsFoundOn}
use Rattle.fleet_journal.specs.Answers.{IsOther, IsFound}
use Rattle.fleet_journal.specs.declared.found.Found.{Found}
use Rattle.fleet_journal.specs.declared.found.Found.TheVariants.{Blank, Live, Foreign}
use Rattle.fleet_journal.specs.declared.journal.Finding.TheVariants.{Live as LiveFinding}
use Rattle.fleet_journal.specs.declared.journal.OtherSide.{OtherSide}
use Rattle.fleet_journal.specs.declared.journal.OtherSide.TheVariants.{ToClear}
use Rattle.fleet_journal.proofs.Advances.{not_live_beside, one_beside, live_not_clean, behind_header}

pub found_not_live : (bytes : List ℕ) (found : Found) → IsFoundOn bytes found → ((header : HeaderParts) (size : ℕ) → found ≡ Live header size → ⊥) → ¬ IsLive bytes
found_not_live bytes (Blank clean) is other = blank_not_live bytes is.0
found_not_live bytes (Live header size) is other = absurd (other header size refl)
found_not_live bytes Foreign is other = is.1

module _ (scene : Scene) (header : HeaderParts) (size : ℕ) (other : OtherSide) where
  -- side A alone has a header
  pub only_a : IsFoundOn scene.a (Live header size) → ¬ IsLive scene.b → IsOther scene.b other → IsFound scene (LiveFinding (record { side = A; place = 5 + size; passed = 0 }) header other)
  only_a a none is_other = (behind_header A header a.0 size scene a.1 a.2 a.3 (not_live_beside A header.generation scene.b none), is_other)

  -- side B alone has a header
  pub only_b : IsFoundOn scene.b (Live header size) → ¬ IsLive scene.a → IsOther scene.a other → IsFound scene (LiveFinding (record { side = B; place = 5 + size; passed = 0 }) header other)
  only_b b none is_other = (behind_header B header b.0 size scene b.1 b.2 b.3 (not_live_beside B header.generation scene.a none), is_other)

module _ (scene : Scene) (header later : HeaderParts) (size there : ℕ) (a : IsFoundOn scene.a (Live header size)) (b : IsFoundOn scene.b (Live later there)) where
  -- both sides have headers, and side B no later one
  pub first_a : (other : OtherSide) → later.generation ≤ header.generation → IsOther scene.b other → IsFound scene (LiveFinding (record { side = A; place = 5 + size; passed = 0 }) header other)
  first_a other le is_other = (behind_header A header a.0 size scene a.1 a.2 a.3 (one_beside A header.generation scene.b b.0 later b.1 b.2 le), is_other)

  -- both sides have headers, and side B a later one
  pub later_b : header.generation < later.generation → IsFound scene (LiveFinding (record { side = B; place = 5 + there; passed = 0 }) later ToClear)
  later_b lt = (behind_header B later b.0 there scene b.1 b.2 b.3 (one_beside B later.generation scene.a a.0 header a.1 a.2 lt), live_not_clean scene.a a.0 a.2)

-- neither side has a header, and one is foreign
pub no_journal_b : (scene : Scene) (a : Found) → IsFoundOn scene.a a → ((header : HeaderParts) (size : ℕ) → a ≡ Live header size → ⊥) → IsFoundOn scene.b Foreign → IsNoJournal scene
no_journal_b scene a is other foreign = record { a = found_not_live scene.a a is other; b = foreign.1; foreign = inr foreign }

pub no_journal_a : (scene : Scene) (b : Found) → IsFoundOn scene.a Foreign → IsFoundOn scene.b b → ((header : HeaderParts) (size : ℕ) → b ≡ Live header size → ⊥) → IsNoJournal scene
no_journal_a scene b foreign is other = record { a = foreign.1; b = found_not_live scene.b b is other; foreign = inl foreign }
