-- The groups that have a pair which is closed or decided.
use Rattle.std.specs.Prelude.{ℕ, ◌≡◌, ◌<◌, List, slice_index_or, Bool, true, false, Option, None}
use Rattle.fleet_base.specs.declared.order.Side.{Side}
use Rattle.fleet_base.specs.Order.{Graph}
use Rattle.fleet_base.specs.State.{FleetState}
use Rattle.fleet_base.specs.Open.{is_open}
use Rattle.fleet_base.specs.Groups.{IsGroupOf}
use Rattle.cert_check.specs.Sides.{decided}

-- the pair is open, and no side is decided for it
abbrev pub IsFreeBy : Graph → FleetState → List (Option Side) → ℕ → Type 0
IsFreeBy g x sides q = (is_open g x q ≡ true) × (decided sides q ≡ None)

-- what is kept for the group of this name
abbrev pub taken_at : List Bool → ℕ → Bool
taken_at taken n = slice_index_or taken n false

-- of the first pairs, those that are not free have taken their groups, and nothing else has
pub record AreTaken (g : Graph) (x : FleetState) (sides : List (Option Side)) (pairs : ℕ) (taken : List Bool) : Type 0 where
  pub each : (q n : ℕ) → q < pairs → IsGroupOf g q n → ¬ IsFreeBy g x sides q → taken_at taken n ≡ true
  pub only : (n : ℕ) → taken_at taken n ≡ true → (q : ℕ) × (q < pairs) × IsGroupOf g q n × (¬ IsFreeBy g x sides q)
