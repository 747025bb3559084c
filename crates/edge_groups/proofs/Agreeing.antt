-- Mates have the same first robot in every sound order: with different sides they close a cycle.
use Rattle.std.proofs.Common.{ℕ, ◌≡◌, ◌+◌, ◌≤◌, List, [], ◌∷◌, Some, None, Option, refl, sym, ap, ◌∙◌, inl, inr, arith}
use Rattle.std.specs.Prelude.{slice_get, IsSome}
use Rattle.std.proofs.lemmas.Option.{slice_get_within}
use Rattle.fleet_base.specs.declared.order.Pair.{Pair}
use Rattle.fleet_base.specs.declared.order.PairId.{PairId}
use Rattle.fleet_base.specs.declared.order.Side.{Side}
use Rattle.fleet_base.specs.declared.order.Side.TheVariants.{Lower, Higher}
use Rattle.fleet_base.specs.Lists.{Chain}
use Rattle.fleet_base.specs.Order.{Graph, HasEdge, IsCycle, IsSoundOrder, next_visit, first_visit, second_visit, other_side}
use Rattle.plan_graph.proofs.Cycles.{cycle_refutes}
use Rattle.fleet_base.specs.Groups.{AreMates, AreOneApart, AreGrouped, GoesOn}

edge_at : (g : Graph) (order : ℕ → Option Side) (q : ℕ) (pair : Pair) (side : Side) → slice_get g.pairs q ≡ Some pair → order q ≡ Some side
    → HasEdge g order q (next_visit (first_visit pair side)) (second_visit pair side)
edge_at g order q pair side l s = record { pair = pair; side = side; listed = l; sided = s; tail = refl; head = refl }

-- mates with different sides close a cycle: the list of the two
pub mates_close : (g : Graph) (order : ℕ → Option Side) (a b : PairId) (side : Side) → AreMates g a.0 b.0 → order a.0 ≡ Some side → order b.0 ≡ Some (other_side side)
    → GoesOn g order a.0 → GoesOn g order b.0 → IsCycle g order (a ∷ b ∷ [])
mates_close g order a b Lower m sa sb ga gb =
    let ea = edge_at g order a.0 m.one Lower m.one_listed sa in
    let eb = edge_at g order b.0 m.two Higher m.two_listed sb in (
      record { tail = _; head = _; edge = ea; next_tail = _; next_head = _; next_edge = eb; there = gb _ _ eb; robot = m.higher_robot; onward = near m.one.higher.index m.two.higher.index m.higher_visits },
      record { tail = _; head = _; edge = eb; next_tail = _; next_head = _; next_edge = ea; there = ga _ _ ea; robot = sym m.lower_robot; onward = far m.one.lower.index m.two.lower.index m.lower_visits },
    )
  where
    near : (x y : ℕ) → AreOneApart x y → x ≤ y + 1
    near x y (inl e) = omega arith
    near x y (inr e) = omega arith

    far : (x y : ℕ) → AreOneApart x y → y ≤ x + 1
    far x y (inl e) = omega arith
    far x y (inr e) = omega arith
mates_close g order a b Higher m sa sb ga gb =
    let ea = edge_at g order a.0 m.one Higher m.one_listed sa in
    let eb = edge_at g order b.0 m.two Lower m.two_listed sb in (
      record { tail = _; head = _; edge = ea; next_tail = _; next_head = _; next_edge = eb; there = gb _ _ eb; robot = m.lower_robot; onward = near m.one.lower.index m.two.lower.index m.lower_visits },
      record { tail = _; head = _; edge = eb; next_tail = _; next_head = _; next_edge = ea; there = ga _ _ ea; robot = sym m.higher_robot; onward = far m.one.higher.index m.two.higher.index m.higher_visits },
    )
  where
    near : (x y : ℕ) → AreOneApart x y → x ≤ y + 1
    near x y (inl e) = omega arith
    near x y (inr e) = omega arith

    far : (x y : ℕ) → AreOneApart x y → y ≤ x + 1
    far x y (inl e) = omega arith
    far x y (inr e) = omega arith

module _ (g : Graph) (order : ℕ → Option Side) (sound : IsSoundOrder g order) where
  -- mates have the same first robot
  pub mates_agree : (q r : ℕ) → AreMates g q r → order q ≡ order r
  mates_agree q r m = go (order q) (order r) refl refl (sound.total q (slice_get_within g.pairs q m.one m.one_listed)) (sound.total r (slice_get_within g.pairs r m.two m.two_listed))
    where
      differ : (side : Side) → order q ≡ Some side → order r ≡ Some (other_side side) → ⊥
      differ side a b = cycle_refutes g order (record { 0 = q } ∷ record { 0 = r } ∷ [])
          (mates_close g order (record { 0 = q }) (record { 0 = r }) side m a b (λ u v e. sound.follows q u v e) (λ u v e. sound.follows r u v e)) sound.list sound.sorted

      go : (o p : Option Side) → order q ≡ o → order r ≡ p → IsSome o → IsSome p → order q ≡ order r
      go None p a b h k = cc
      go (Some s) None a b h k = cc
      go (Some Lower) (Some Lower) a b h k = a ∙ sym b
      go (Some Higher) (Some Higher) a b h k = a ∙ sym b
      go (Some Lower) (Some Higher) a b h k = absurd (differ Lower a b)
      go (Some Higher) (Some Lower) a b h k = absurd (differ Higher a b)

  along_mates : (between : List ℕ) (q r : ℕ) → Chain (AreMates g) q between r → order q ≡ order r
  along_mates [] q r c = mates_agree q r c
  along_mates (y ∷ ys) q r c = mates_agree q y c.0 ∙ along_mates ys y r c.1

  -- so have all pairs of a group
  pub group_agrees : (q r : ℕ) → AreGrouped g q r → order q ≡ order r
  group_agrees q r (inl e) = ap order e
  group_agrees q r (inr (between, c)) = along_mates between q r c
