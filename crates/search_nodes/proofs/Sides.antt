-- Which pairs have a side in the order of a state and decisions.
use Rattle.std.proofs.Common.{ℕ, ◌≡◌, ◌<◌, ◌≤◌, ◌⊎◌, List, ◌∷◌, Some, None, Option, true, false, Bool, cond, refl, sym, ap, ◌∙◌, subst, inl, inr, arith, length}
use Rattle.std.specs.Prelude.{slice_get, is_some, IsSome}
use Rattle.std.proofs.lemmas.Bool.{eq-eqb}
use Rattle.std.proofs.lemmas.Option.{slice_get_within, slice_get_past}
use Rattle.fleet_base.specs.declared.order.Side.{Side}
use Rattle.fleet_base.specs.Order.{Graph}
use Rattle.fleet_base.specs.Groups.{AreMates}
use Rattle.fleet_base.specs.State.{FleetState, order_at}
use Rattle.fleet_base.specs.Open.{is_open}
use Rattle.fleet_base.specs.Rules.{IsFleetState}
use Rattle.longest_path.specs.declared.decision.Decision.{Decision}
use Rattle.longest_path.specs.Decisions.{side_on, order_on, IsFree}

-- there is a side, or none
pub some_or_none : (o : Option Side) → ((side : Side) × (o ≡ Some side)) ⊎ (o ≡ None)
some_or_none None = inr refl
some_or_none (Some side) = inl (side, refl)

pub not_both : (o : Option Side) → o ≡ None → IsSome o → ⊥
not_both o e h = let k = subst (λ (z : Option Side). IsSome z) e h in cc

pub has_side : (o : Option Side) (side : Side) → o ≡ Some side → IsSome o
has_side o side e = subst (λ (z : Option Side). IsSome z) (sym e) refl

pub no_side : (o : Option Side) → false ≡ is_some o → o ≡ None
no_side None e = refl
no_side (Some side) e = absurd (let z = e in cc)

-- mates are pairs
pub mate_there : (g : Graph) (q r : ℕ) → AreMates g q r → r < length g.pairs
mate_there g q r m = slice_get_within g.pairs r m.two m.two_listed

pub pair_there : (g : Graph) (q r : ℕ) → AreMates g q r → q < length g.pairs
pair_there g q r m = slice_get_within g.pairs q m.one m.one_listed

module _ (g : Graph) (x : FleetState) (ds : List Decision) where
  -- a free pair has no side
  pub none_of_free : (q : ℕ) → IsFree g x ds q → order_on g x ds q ≡ None
  none_of_free q free = ap (λ (b : Bool). cond b (side_on ds q) (order_at g x q)) free.0 ∙ free.1

  -- a closed pair has the state's
  pub order_of_closed : (q : ℕ) → is_open g x q ≡ false → order_on g x ds q ≡ order_at g x q
  order_of_closed q closed = ap (λ (b : Bool). cond b (side_on ds q) (order_at g x q)) closed

  -- one that is decided has the decided one
  pub order_of_open : (q : ℕ) → is_open g x q ≡ true → order_on g x ds q ≡ side_on ds q
  order_of_open q o = ap (λ (b : Bool). cond b (side_on ds q) (order_at g x q)) o

  module _ (state : IsFleetState g x) where
    -- a pair without a side is free
    pub free_of_none : (q : ℕ) → q < length g.pairs → order_on g x ds q ≡ None → IsFree g x ds q
    free_of_none q lt none = go (is_open g x q) refl
      where
        go : (b : Bool) → is_open g x q ≡ b → IsFree g x ds q
        go true o = (o, sym (order_of_open q o) ∙ none)
        go false c = absurd (not_both (order_at g x q) (sym (order_of_closed q c) ∙ none) (state.order.total q lt))

    -- no number past the pairs has a side
    pub none_past : (q : ℕ) → length g.pairs ≤ q → order_on g x ds q ≡ None
    none_past q le = order_of_closed q closed ∙ slice_get_past x.sides q (omega (arith, le, state.fleet.sides))
      where
        none : slice_get g.pairs q ≡ None
        none = slice_get_past g.pairs q le

        closed : is_open g x q ≡ false
        closed = rw none refl

-- a decision gives its pair its side
pub decided_side : (g : Graph) (x : FleetState) (ds : List Decision) (d : Decision) → is_open g x d.pair.0 ≡ true → order_on g x (d ∷ ds) d.pair.0 ≡ Some d.side
decided_side g x ds d o = order_of_open g x (d ∷ ds) d.pair.0 o ∙ ap (λ (b : Bool). cond b (Some d.side) (side_on ds d.pair.0)) (eq-eqb d.pair.0 d.pair.0 refl)
