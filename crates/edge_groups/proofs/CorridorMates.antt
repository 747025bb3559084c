-- Worked: the mates of the corridor's pairs.
use Rattle.std.proofs.Common.{ℕ, ◌≡◌, [], ◌∷◌, Some, refl, ap, inl, inr, arith}
use Rattle.fleet_base.specs.declared.order.Pair.{Pair}
use Rattle.fleet_base.specs.Examples.{corridor_graph, in_corridor}
use Rattle.fleet_base.specs.Groups.{AreMates, AreOneApart, AreGrouped}

pub first_mates : AreMates corridor_graph 0 1
first_mates = record { one = in_corridor 1 6; two = in_corridor 2 5; one_listed = refl; two_listed = refl; lower_robot = refl; higher_robot = refl; lower_visits = inl refl; higher_visits = inr refl }

pub second_mates : AreMates corridor_graph 1 2
second_mates = record { one = in_corridor 2 5; two = in_corridor 3 4; one_listed = refl; two_listed = refl; lower_robot = refl; higher_robot = refl; lower_visits = inl refl; higher_visits = inr refl }

same_pair : (a b : Pair) → Some a ≡ Some b → a ≡ b
same_pair a b e = cc

pub third_is_none : AreMates corridor_graph 0 2 → ⊥
third_is_none m =
    let a = ap (λ (p : Pair). p.lower.index) (same_pair (in_corridor 1 6) m.one m.one_listed) in
    let b = ap (λ (p : Pair). p.lower.index) (same_pair (in_corridor 3 4) m.two m.two_listed) in
    far m.one.lower.index m.two.lower.index a b m.lower_visits
  where
    far : (j k : ℕ) → 1 ≡ j → 3 ≡ k → AreOneApart j k → ⊥
    far j k a b (inl e) = omega (arith, a, b, e)
    far j k a b (inr e) = omega (arith, a, b, e)

-- pairs 0 and 2 are joined by pair 1
pub joined : AreGrouped corridor_graph 0 2
joined = inr (1 ∷ [], (first_mates, second_mates))
