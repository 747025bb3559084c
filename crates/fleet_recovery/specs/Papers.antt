-- The bytes of a map and of a plan.
use Rattle.std.specs.Prelude.{◌≡◌, ◌≢◌, ◌⊎◌, ℕ, ◌≤◌, List, ◌∷◌, ◌++◌, length, take, None}
use Rattle.journal_frame.specs.declared.header.HeaderParts.{HeaderParts}
use Rattle.fleet_recovery.specs.declared.papers.Papers.{Papers as HandedPapers}

-- the bytes of the map and of the plan
pub record Papers : Type 0 where
  pub map : List ℕ
  pub plan : List ℕ

-- the map, one byte 0, the plan
abbrev pub paper_text : Papers → List ℕ
paper_text papers = papers.map ++ 0 ∷ papers.plan

-- the papers that a header names
abbrev pub papers_of : HeaderParts → Papers
papers_of header = record { map = header.map; plan = header.plan }

-- the map or the plan differs
abbrev pub Differ : Papers → Papers → Type 0
Differ papers other = (papers.map ≢ other.map) ⊎ (papers.plan ≢ other.plan)

-- n is how long two texts are the same
pub record AgreeFor (xs ys : List ℕ) (n : ℕ) : Type 0 where
  pub within_first : n ≤ length xs
  pub within_second : n ≤ length ys
  pub same : take n xs ≡ take n ys
  pub longest : (m : ℕ) → m ≤ length xs → m ≤ length ys → take m xs ≡ take m ys → m ≤ n

-- the papers that were handed in
abbrev pub papers_in : HandedPapers → Papers
papers_in handed = record { map = handed.map.now; plan = handed.plan.now }

-- the header of a new journal
abbrev pub new_header : List ℕ → List ℕ → HeaderParts
new_header map plan = record { generation = 1; map = map; plan = plan; summary = None }
