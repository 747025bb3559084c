-- What a call keeps on the side while it changes ticks.
use Rattle.std.specs.Prelude.{ℕ, ◌≡◌, List, true, false, if◌then◌else◌}
use Rattle.fleet_base.specs.declared.geometry.Visit.{Visit}
use Rattle.fleet_base.specs.VisitRows.{tick_in}
use Rattle.longest_path.specs.Cells.{put, is_marked, AreAlike}
use Rattle.longest_path.specs.declared.work.Work.{Work}

-- there is a place for each tick
pub record IsWorkFor (rows : List (List ℕ)) (work : Work) : Type 0 where
  pub waiting : AreAlike rows work.waiting
  pub raised : AreAlike rows work.raised
  pub saved : AreAlike rows work.saved

-- no visit waits, and none was raised
pub record IsIdle (work : Work) : Type 0 where
  pub waiting : (v : Visit) → is_marked work.waiting v ≡ false
  pub raised : (v : Visit) → is_marked work.raised v ≡ false

-- a visit that was raised has its former tick saved, and each other one has it still
pub record IsKeptBy (base : Visit → ℕ) (rows : List (List ℕ)) (work : Work) : Type 0 where
  pub raised : (v : Visit) → is_marked work.raised v ≡ true → tick_in work.saved v ≡ base v
  pub others : (v : Visit) → is_marked work.raised v ≡ false → tick_in rows v ≡ base v

-- the saved ticks, with that of a visit that was not raised before
abbrev pub saved_with : Work → Visit → ℕ → List (List ℕ)
saved_with work v before = if is_marked work.raised v then work.saved else put work.saved v before

-- a visit is raised, and waits
abbrev pub noted : Work → Visit → ℕ → Work
noted work v before = record { waiting = put work.waiting v true; raised = put work.raised v true; saved = saved_with work v before }
