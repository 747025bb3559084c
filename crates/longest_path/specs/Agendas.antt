-- An agenda as it is kept.
use Rattle.std.specs.Prelude.{ℕ, ◌≡◌, ◌≤◌, List, true, length, Contains}
use Rattle.std.specs.BinaryHeap.{heap_items, heap_len, heap_capacity}
use Rattle.fleet_base.specs.declared.geometry.Visit.{Visit}
use Rattle.longest_path.specs.Cells.{is_marked, mark_count, cell_count}
use Rattle.longest_path.specs.declared.agenda.Waiting.{Waiting}
use Rattle.longest_path.specs.declared.agenda.Agenda.TheInside.{Inside}

-- there is room for each visit, no more wait than are marked, and each that is marked waits
pub record IsAgenda (a : Inside) : Type 0 where
  pub room : cell_count a.marks ≤ heap_capacity a.heap
  pub length : length (heap_items a.heap) ≡ heap_len a.heap
  pub few : heap_len a.heap ≤ mark_count a.marks
  pub each : (v : Visit) → is_marked a.marks v ≡ true → (w : Waiting) × Contains (heap_items a.heap) w × (w.visit ≡ v)
