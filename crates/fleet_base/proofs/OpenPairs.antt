-- Open pairs: neither visit is settled.
use Rattle.std.proofs.Common.{ℕ, ◌≡◌, ◌≢◌, Some, None, Option, true, false, Bool, refl, sym, ap, ◌∙◌, arith, ltb, eqb}
use Rattle.std.specs.Prelude.{slice_get, ◌&&◌, ◌||◌, not}
use Rattle.std.specs.Option.{option_map_or}
use Rattle.std.proofs.lemmas.Bool.{eq-eqb, lt-ltb}
use Rattle.fleet_base.specs.declared.geometry.Visit.{Visit}
use Rattle.fleet_base.specs.declared.order.Pair.{Pair}
use Rattle.fleet_base.specs.declared.order.Side.{Side}
use Rattle.fleet_base.specs.declared.order.Side.TheVariants.{Lower, Higher}
use Rattle.fleet_base.specs.Order.{Graph, IsGraph, IsVisit, last_in, next_visit, first_visit, second_visit}
use Rattle.fleet_base.specs.State.{FleetState, IsReleased, released_count}
use Rattle.fleet_base.specs.Open.{is_open, is_settled}

-- where neither may be, both are not
pub neither : (s t : Bool) → (not s && not t) ≡ true → (s ≡ false) × (t ≡ false)
neither true t h = cc
neither false true h = cc
neither false false h = (refl, refl)

-- an open pair is listed, and neither of its visits is settled
pub open_listed : (g : Graph) (x : FleetState) (q : ℕ) → is_open g x q ≡ true → (pair : Pair) × (slice_get g.pairs q ≡ Some pair)
open_listed g x q h = go (slice_get g.pairs q) refl h
  where
    go : (o : Option Pair) → slice_get g.pairs q ≡ o → option_map_or (λ (p : Pair). not (is_settled g x p.lower) && not (is_settled g x p.higher)) o false ≡ true → (pair : Pair) × (slice_get g.pairs q ≡ Some pair)
    go None e k = cc
    go (Some pair) e k = (pair, e)

pub open_unsettled : (g : Graph) (x : FleetState) (q : ℕ) (pair : Pair) → slice_get g.pairs q ≡ Some pair → is_open g x q ≡ true → (is_settled g x pair.lower ≡ false) × (is_settled g x pair.higher ≡ false)
open_unsettled g x q pair e h =
    neither (is_settled g x pair.lower) (is_settled g x pair.higher)
    (sym (ap (λ (o : Option Pair). option_map_or (λ (p : Pair). not (is_settled g x p.lower) && not (is_settled g x p.higher)) o false) e) ∙ h)

-- what is released is settled, and so is a last visit
pub settled_released : (g : Graph) (x : FleetState) (v : Visit) → is_settled g x v ≡ false → IsReleased x v → ⊥
settled_released g x v h r = go (ltb v.index (released_count x v.robot)) (lt-ltb v.index (released_count x v.robot) r) h
  where
    go : (b : Bool) → b ≡ true → (b || eqb v.index (last_in g v.robot)) ≡ false → ⊥
    go true e k = cc
    go false e k = cc

pub settled_last : (g : Graph) (x : FleetState) (v : Visit) → is_settled g x v ≡ false → v.index ≢ last_in g v.robot
settled_last g x v h l = go (ltb v.index (released_count x v.robot)) (eqb v.index (last_in g v.robot)) (eq-eqb v.index (last_in g v.robot) l) h
  where
    go : (a b : Bool) → b ≡ true → (a || b) ≡ false → ⊥
    go true b e k = cc
    go false b e k = cc

-- no visit of an open pair is released, and none is its robot's last
pub open_unreleased : (g : Graph) (x : FleetState) (q : ℕ) (pair : Pair) (side : Side) → slice_get g.pairs q ≡ Some pair → is_open g x q ≡ true → ¬ IsReleased x (second_visit pair side)
open_unreleased g x q pair Lower e h r = settled_released g x pair.higher (open_unsettled g x q pair e h).1 r
open_unreleased g x q pair Higher e h r = settled_released g x pair.lower (open_unsettled g x q pair e h).0 r

pub open_goes_on : (g : Graph) (x : FleetState) (q : ℕ) (pair : Pair) (side : Side) → IsGraph g → slice_get g.pairs q ≡ Some pair → is_open g x q ≡ true → IsVisit g (next_visit (first_visit pair side))
open_goes_on g x q pair Lower is e h =
    let v = is.lower q pair e in
    let n = settled_last g x pair.lower (open_unsettled g x q pair e h).0 in
    record { robot = v.robot; index = omega (arith, v.index, n) }
open_goes_on g x q pair Higher is e h =
    let v = is.higher q pair e in
    let n = settled_last g x pair.higher (open_unsettled g x q pair e h).1 in
    record { robot = v.robot; index = omega (arith, v.index, n) }
