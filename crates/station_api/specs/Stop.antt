-- Which of the scenes that a stop may leave a test asks for: the first bytes not yet synced as written, and the others lost.
use Rattle.std.specs.Prelude.{ℕ, ◌+◌, ◌-◌, min, Bool, true, false, if◌then◌else◌, nat_lt, nat_le, List, [], ◌∷◌, length, take, replicate}
use Rattle.station_api.specs.Scene.{Scene, side_of}
use Rattle.station_api.specs.Disk.{written}
use Rattle.station_api.specs.Replay.{scene, with_side, with_sent, within}
use Rattle.station_api.specs.declared.station.DiskSide.{DiskSide}
use Rattle.station_api.specs.declared.station.DiskSide.TheVariants.{A, B}
use Rattle.station_api.specs.declared.call.Call.{Call}
use Rattle.station_api.specs.declared.call.Change.{Change}
use Rattle.station_api.specs.declared.call.Change.TheVariants.{Write, Cut, Sync, Send}

-- the calls up to this number
abbrev pub until : ℕ → List Call → List Call
until last [] = []
until last (call ∷ calls) = if nat_le call.number last then call ∷ until last calls else []

-- for each byte of each side, whether it lies in a range written since the last sync of its side
pub record Marks : Type 0 where
  pub a : List Bool
  pub b : List Bool

-- the marks of a side
abbrev pub marks_of : DiskSide → Marks → List Bool
marks_of A marks = marks.a
marks_of B marks = marks.b

-- other marks for one side
abbrev pub with_marks : DiskSide → List Bool → Marks → Marks
with_marks A of_side was = record was { a = of_side }
with_marks B of_side was = record was { b = of_side }

-- no byte
abbrev pub unmarked : Scene → Marks
unmarked first = record { a = replicate (length first.a) false; b = replicate (length first.b) false }

-- what a change makes of the scene
abbrev pub made : Change → Scene → Scene
made (Write side at bytes) was = let stands = side_of side was in with_side side (written (within at stands) bytes.items stands) was
made (Cut side n) was = with_side side (take n (side_of side was)) was
made (Sync side) was = was
made (Send bytes) was = with_sent bytes.items was

-- what it makes of the marks
abbrev pub marked : Change → Marks → Marks
marked (Write side at bytes) was = let of_side = marks_of side was in with_marks side (written (min at (length of_side)) (replicate (length bytes.items) true) of_side) was
marked (Cut side n) was = with_marks side (take n (marks_of side was)) was
marked (Sync side) was = with_marks side (replicate (length (marks_of side was)) false) was
marked (Send bytes) was = was

-- what some calls make of the scene, one after another
abbrev pub made_all : List Call → Scene → Scene
made_all [] was = was
made_all (call ∷ calls) was = made_all calls (made call.change was)

-- what some calls make of the marks
abbrev pub marked_all : List Call → Marks → Marks
marked_all [] was = was
marked_all (call ∷ calls) was = marked_all calls (marked call.change was)

-- how many bytes are marked
abbrev pub count_marked : List Bool → ℕ
count_marked [] = 0
count_marked (mark ∷ marks) = (if mark then 1 else 0) + count_marked marks

-- of the marked bytes the first are kept, and the others hold a filler
abbrev pub worn : ℕ → ℕ → List Bool → List ℕ → List ℕ
worn kept filler [] bytes = []
worn kept filler (mark ∷ marks) [] = []
worn kept filler (true ∷ marks) (byte ∷ bytes) = (if nat_lt 0 kept then byte else filler) ∷ worn (kept - 1) filler marks bytes
worn kept filler (false ∷ marks) (byte ∷ bytes) = byte ∷ worn kept filler marks bytes

-- the bytes of side A come first, by place, and then those of side B
abbrev pub worn_scene : ℕ → ℕ → Marks → Scene → Scene
worn_scene kept filler marks was = scene (worn kept filler marks.a was.a) (worn (kept - count_marked marks.a) filler marks.b was.b) was.sent

-- what a stop after the calls up to a number leaves, if a test asks for so many bytes kept and for this filler
abbrev pub stopped_scene : Scene → List Call → ℕ → ℕ → ℕ → Scene
stopped_scene first calls last kept filler = worn_scene kept filler (marked_all (until last calls) (unmarked first)) (made_all (until last calls) first)
