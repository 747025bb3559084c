-- How long the moves of a robot last, from its first visit on.
use Rattle.std.specs.Prelude.{ℕ, ◌≡◌, ◌≤◌, ◌*◌, List}
use Rattle.fleet_base.specs.declared.geometry.Visit.{Visit}
use Rattle.fleet_base.specs.Order.{Graph, IsVisit}
use Rattle.fleet_base.specs.State.{FleetState}
use Rattle.fleet_base.specs.Paths.{travel}
use Rattle.fleet_base.specs.VisitRows.{tick_in, AreRowsFor}

-- the first visit of a robot
abbrev pub first_of : ℕ → Visit
first_of i = record { robot = i; index = 0 }

-- each visit of a robot up to this one has the sum of the moves that lead there, none of which is longer than the longest delay allows
abbrev pub HasRowSums : FleetState → List (List ℕ) → ℕ → ℕ → Type 0
HasRowSums x rows i last = (k : ℕ) → k ≤ last → (tick_in rows (record { robot = i; index = k }) ≡ travel x (first_of i) k) × (travel x (first_of i) k ≤ k * 1000001)

-- so has each visit
pub record AreSums (g : Graph) (x : FleetState) (kept : List (List ℕ)) : Type 0 where
  pub rows : AreRowsFor g kept
  pub sums : (v : Visit) → IsVisit g v → (tick_in kept v ≡ travel x (first_of v.robot) v.index) × (travel x (first_of v.robot) v.index ≤ v.index * 1000001)
