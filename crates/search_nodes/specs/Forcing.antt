-- How pairs get sides by their mates, one at a time, in an order that has no side yet for some of them.
use Rattle.std.specs.Prelude.{ℕ, ◌≡◌, ◌<◌, ◌++◌, List, [], ◌∷◌, length, Option, Some, None, IsSome, Contains}
use Rattle.fleet_base.specs.declared.order.PairId.{PairId}
use Rattle.fleet_base.specs.declared.order.Side.{Side}
use Rattle.fleet_base.specs.Order.{Graph}
use Rattle.fleet_base.specs.Groups.{AreMates}
use Rattle.fleet_base.specs.State.{FleetState}
use Rattle.longest_path.specs.declared.decision.Decision.{Decision as Given}
use Rattle.longest_path.specs.Decisions.{order_on}
use Rattle.order_choice.specs.declared.made.Forcing.{Forcing}

-- a pair without a side has a mate with this one
pub record IsForcing (g : Graph) (order : ℕ → Option Side) (f : Forcing) : Type 0 where
  pub mates : AreMates g f.mate.0 f.pair.0
  pub none : order f.pair.0 ≡ None
  pub side : order f.mate.0 ≡ Some f.side

-- no pair without a side has a mate with one
abbrev pub HasNoForcing : Graph → (ℕ → Option Side) → Type 0
HasNoForcing g order = (q r : ℕ) → AreMates g q r → order q ≡ None → order r ≡ None

-- these pairs are there
abbrev pub AreThere : Graph → List ℕ → Type 0
AreThere g pairs = (q : ℕ) → Contains pairs q → q < length g.pairs

-- among these pairs is each one without a side that has a mate with one
abbrev pub HasForced : Graph → (ℕ → Option Side) → List ℕ → Type 0
HasForced g order pairs = (q r : ℕ) → AreMates g q r → order q ≡ None → IsSome (order r) → Contains pairs q

-- each mate with a side of a pair without one is this pair
abbrev pub IsForcedBy : Graph → (ℕ → Option Side) → ℕ → Type 0
IsForcedBy g order p = (q r : ℕ) → AreMates g q r → order q ≡ None → IsSome (order r) → r ≡ p

-- a pair and its side, as a schedule is given them
abbrev pub given_to : PairId → Side → Given
given_to q side = record { pair = q; side = side }

-- the decisions after forcings
abbrev pub given_after : List Forcing → List Given → List Given
given_after [] ds = ds
given_after (f ∷ fs) ds = given_after fs (given_to f.pair f.side ∷ ds)

-- each was a forcing where it was made
abbrev pub WereForced : Graph → FleetState → List Forcing → List Given → Type 0
WereForced g x [] ds = Unit {0}
WereForced g x (f ∷ fs) ds = IsForcing g (order_on g x ds) f × WereForced g x fs (given_to f.pair f.side ∷ ds)

-- some decisions were made after others
abbrev pub IsAfter : List Given → List Given → Type 0
IsAfter old new = (more : List Given) × (new ≡ more ++ old)
