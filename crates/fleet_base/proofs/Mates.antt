-- Mates are mates of each other.
use Rattle.std.proofs.Common.{ℕ, sym, inl, inr}
use Rattle.fleet_base.specs.Order.{Graph}
use Rattle.fleet_base.specs.Groups.{AreMates, AreOneApart}

-- mates are mates the other way round
pub mates_turned : (g : Graph) (q r : ℕ) → AreMates g q r → AreMates g r q
mates_turned g q r m = record { one = m.two; two = m.one; one_listed = m.two_listed; two_listed = m.one_listed; lower_robot = sym m.lower_robot; higher_robot = sym m.higher_robot; lower_visits = swap m.lower_visits; higher_visits = swap m.higher_visits }
  where
    swap : {a b : ℕ} → AreOneApart a b → AreOneApart b a
    swap (inl e) = inr e
    swap (inr e) = inl e
