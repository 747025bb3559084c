-- The order of a state after pairs are switched: an order that keeps the closed pairs is one, with the pairs whose sides differ.
use Rattle.std.proofs.Common.{ℕ, suc, ◌≡◌, ◌+◌, ◌<◌, ◌⊎◌, List, [], ◌∷◌, Some, None, Option, true, false, Bool, set, get_or, refl, sym, ap, ◌∙◌, subst, inl, inr, arith, length, map}
use Rattle.std.specs.Prelude.{Contains, slice_index, IsSome}
use Rattle.std.specs.List.Sorted.{IsStrictlyIncreasing}
use Rattle.std.proofs.lemmas.List.{get_or-set_same, get_or-set_other, length-set}
use Rattle.std.proofs.lemmas.Option.{slice_get-get_or}
use Rattle.fleet_base.specs.declared.order.PairId.{PairId}
use Rattle.fleet_base.specs.declared.order.Side.{Side}
use Rattle.fleet_base.specs.declared.order.Side.TheVariants.{Lower, Higher}
use Rattle.fleet_base.specs.Order.{Graph, IsSoundOrder, order_of, other_side, turned}
use Rattle.fleet_base.specs.Open.{is_open, KeepsClosed}
use Rattle.fleet_base.specs.State.{FleetState}
use Rattle.fleet_base.specs.Rules.{IsFleetState}
use Rattle.fleet_base.proofs.Members.{in_cons, in_none}
use Rattle.fleet_base.proofs.Turning.{turned_or_old}
use Rattle.order_choice.specs.declared.outcome.Outcome.{Outcome}
use Rattle.order_choice.specs.Choices.{IsChosen, Choice, AreSwitches}
use Rattle.longest_path.proofs.LiveLaws.{one_order}

-- a pair's number
abbrev number : PairId → ℕ
number q = q.0

abbrev pub IsAscending : List PairId → Type 0
IsAscending qs = IsStrictlyIncreasing (map (λ q. q.0) qs)

pub ascending_tail : (p : PairId) (ps : List PairId) → IsAscending (p ∷ ps) → IsAscending ps
ascending_tail p ps up k h = let e : suc k + 1 ≡ suc (k + 1) = omega arith in let z = ap (slice_index (p.0 ∷ map (λ (q : PairId). q.0) ps)) e in let u = up (suc k) (omega (arith, h)) in omega (arith, u, z)

-- the first is below all others
pub first_below : (p : PairId) (ps : List PairId) → IsAscending (p ∷ ps) → (r : PairId) → Contains ps r → p.0 < r.0
first_below p [] up r c = absurd (in_none r c)
first_below p (y ∷ ys) up r c = go (in_cons y ys r c) (λ k. first_below y ys (ascending_tail p (y ∷ ys) up) r k)
  where
    next : p.0 < y.0
    next = up 0 (omega arith)

    go : (y ≡ r) ⊎ Contains ys r → (Contains ys r → y.0 < r.0) → p.0 < r.0
    go (inl e) f = let z = ap number e in omega (arith, next, z)
    go (inr k) f = let z = f k in omega (arith, next, z)

-- the sides after one pair is turned
abbrev pub turn_one : List Side → PairId → List Side
turn_one sides q = set sides q.0 (other_side (get_or sides q.0 Lower))

-- a pair that is named once has its other side
pub turned_named : (sides : List Side) (qs : List PairId) (q : ℕ) (p : PairId) → Contains qs p → p.0 ≡ q → IsAscending qs → q < length sides → order_of (turned sides qs) q ≡ Some (other_side (get_or sides q Lower))
turned_named sides [] q p c same up h = absurd (in_none p c)
turned_named sides (y ∷ ys) q p c same up h =
    go (in_cons y ys p c) (λ k. turned_named (turn_one sides y) ys q p k same (ascending_tail y ys up) (omega (arith, h, length-set sides y.0 (other_side (get_or sides y.0 Lower)))))
  where
    here : y.0 ≡ q → (order_of (turned (turn_one sides y) ys) q ≡ order_of (turn_one sides y) q) ⊎ ((r : PairId) × Contains ys r × (r.0 ≡ q)) → order_of (turned (turn_one sides y) ys) q ≡ Some (other_side (get_or sides q Lower))
    here e (inl old) =
        let a = slice_get-get_or (turn_one sides y) q Lower (omega (arith, h, length-set sides y.0 (other_side (get_or sides y.0 Lower)))) in
        let b = ap (λ (n : ℕ). get_or (set sides n (other_side (get_or sides n Lower))) q Lower) e in
        let c = get_or-set_same sides q (other_side (get_or sides q Lower)) Lower h in
        old ∙ a ∙ ap Some (b ∙ c)
    here e (inr r) = let l = first_below y ys up r.0 r.1 in absurd (omega (arith, l, e, r.2))

    later : Contains ys p → order_of (turned (turn_one sides y) ys) q ≡ Some (other_side (get_or (turn_one sides y) q Lower)) → order_of (turned (turn_one sides y) ys) q ≡ Some (other_side (get_or sides q Lower))
    later k i =
        let l = first_below y ys up p k in
        let o = get_or-set_other sides y.0 q (other_side (get_or sides y.0 Lower)) Lower (λ e. omega (arith, l, e, same)) in
        i ∙ ap (λ (d : Side). Some (other_side d)) o

    go : (y ≡ p) ⊎ Contains ys p → (Contains ys p → order_of (turned (turn_one sides y) ys) q ≡ Some (other_side (get_or (turn_one sides y) q Lower))) → order_of (turned (turn_one sides y) ys) q ≡ Some (other_side (get_or sides q Lower))
    go (inl e) f = here (ap number e ∙ same) (turned_or_old (turn_one sides y) ys q)
    go (inr k) f = later k (f k)

-- two sides or none of them are the same or not
same_or_not : (a b : Option Side) → (a ≡ b) ⊎ (a ≡ b → ⊥)
same_or_not None None = inl refl
same_or_not None (Some d) = inr (λ e. cc)
same_or_not (Some d) None = inr (λ e. cc)
same_or_not (Some Lower) (Some Lower) = inl refl
same_or_not (Some Lower) (Some Higher) = inr (λ e. cc)
same_or_not (Some Higher) (Some Lower) = inr (λ e. cc)
same_or_not (Some Higher) (Some Higher) = inl refl

another : (a b : Side) → (Some a ≡ Some b → ⊥) → a ≡ other_side b
another Lower Lower n = absurd (n refl)
another Lower Higher n = refl
another Higher Lower n = refl
another Higher Higher n = absurd (n refl)

module _ (g : Graph) (x : FleetState) (order : ℕ → Option Side) (switched : List PairId) (state : IsFleetState g x) (sound : IsSoundOrder g order) (keeps : KeepsClosed g x order) (are : AreSwitches g x order switched) where
  -- the order is that of the state after the pairs are switched
  pub same_order : (q : ℕ) → order q ≡ order_of (turned x.sides switched) q
  same_order q = go (same_or_not (order q) (order_of x.sides q)) (turned_or_old x.sides switched q)
    where
      differs : (order q ≡ order_of x.sides q → ⊥) → order q ≡ order_of (turned x.sides switched) q
      differs ne =
          let c = are.each (record { 0 = q }) ne in
          let d = are.differ (record { 0 = q }) c in
          let t = turned_named x.sides switched q (record { 0 = q }) c refl are.ascending (omega (arith, d.0, state.fleet.sides)) in
          let o = slice_get-get_or x.sides q Lower (omega (arith, d.0, state.fleet.sides)) in
          side (order q) refl (sound.total q d.0) o ∙ sym t
        where
          side : (z : Option Side) → order q ≡ z → IsSome (order q) → order_of x.sides q ≡ Some (get_or x.sides q Lower) → order q ≡ Some (other_side (get_or x.sides q Lower))
          side None e h o = let k = subst (λ (z : Option Side). IsSome z) e h in cc
          side (Some d) e h o = e ∙ ap Some (another d (get_or x.sides q Lower) (λ k. ne (e ∙ k ∙ sym o)))

      go : (order q ≡ order_of x.sides q) ⊎ (order q ≡ order_of x.sides q → ⊥) → (order_of (turned x.sides switched) q ≡ order_of x.sides q) ⊎ ((p : PairId) × Contains switched p × (p.0 ≡ q)) → order q ≡ order_of (turned x.sides switched) q
      go (inl e) (inl old) = e ∙ sym old
      go (inl e) (inr p) = absurd ((are.differ p.0 p.1).1 (subst (λ (n : ℕ). order n ≡ order_of x.sides n) (sym p.2) e))
      go (inr ne) o = differs ne

  pub opens : (q : PairId) → Contains switched q → is_open g x q.0 ≡ true
  opens q c = go (is_open g x q.0) refl
    where
      go : (b : Bool) → is_open g x q.0 ≡ b → is_open g x q.0 ≡ true
      go true e = e
      go false e = absurd ((are.differ q c).1 (keeps q.0 e))

  pub switched_sound : IsSoundOrder g (order_of (turned x.sides switched))
  switched_sound = subst (λ (o : ℕ → Option Side). IsSoundOrder g o) (one_order order (order_of (turned x.sides switched)) same_order) sound

  pub switched_choice : (budget cost : ℕ) (outcome : Outcome) → IsChosen g x budget order cost outcome → Choice g x budget switched cost outcome
  switched_choice budget cost outcome c = subst (λ (o : ℕ → Option Side). IsChosen g x budget o cost outcome) (one_order order (order_of (turned x.sides switched)) same_order) c
