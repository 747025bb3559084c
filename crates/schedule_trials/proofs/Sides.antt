-- Sides that are given one pair after another.
use Rattle.std.proofs.Common.{ℕ, ◌≡◌, ◌+◌, ◌<◌, ◌≤◌, ◌⊎◌, List, Some, None, Option, false, replicate, inl, inr, sym, ◌∙◌, subst, arith, length, get_or, set}
use Rattle.std.proofs.lemmas.Bool.{cases_lt}
use Rattle.std.proofs.lemmas.List.{get_or-set_same, get_or-set_other, get_or-replicate, get_or_past, length-replicate, length-set}
use Rattle.fleet_base.specs.declared.order.Side.{Side}
use Rattle.fleet_base.specs.Order.{Graph}
use Rattle.fleet_base.specs.State.{FleetState, order_at}
use Rattle.fleet_base.specs.Open.{is_open}
use Rattle.longest_path.specs.Closed.{AgreesOnClosed}

-- the closed ones of the first so many pairs have the state's sides, and no later pair has a side
pub record AreGiven (g : Graph) (x : FleetState) (sides : List (Option Side)) (n : ℕ) : Type 0 where
  pub count : length sides ≡ length g.pairs
  pub closed : (q : ℕ) (side : Side) → q < n → is_open g x q ≡ false → get_or sides q None ≡ Some side → order_at g x q ≡ Some side
  pub later : (q : ℕ) → n ≤ q → get_or sides q None ≡ None

pub none_given : (g : Graph) (x : FleetState) → AreGiven g x (replicate (length g.pairs) None) 0
none_given g x = record {
  count = length-replicate (length g.pairs) None;
  closed = λ q side lt. absurd (omega (arith, lt));
  later = λ q le. go q (cases_lt q (length g.pairs));
}
  where
    go : (q : ℕ) → (q < length g.pairs) ⊎ (length g.pairs ≤ q) → get_or (replicate {A = Option Side} (length g.pairs) None) q None ≡ None
    go q (inl lt) = get_or-replicate (length g.pairs) q None None lt
    go q (inr le) = get_or_past (replicate {A = Option Side} (length g.pairs) None) q None (omega (arith, le, length-replicate {A = Option Side} (length g.pairs) None))

pub one_given : (g : Graph) (x : FleetState) (sides : List (Option Side)) (n : ℕ) (side : Option Side) → n < length g.pairs → (is_open g x n ≡ false → side ≡ order_at g x n) → AreGiven g x sides n → AreGiven g x (set sides n side) (n + 1)
one_given g x sides n side lt own given = record { count = length-set sides n side ∙ given.count; closed = closed; later = later }
  where
    there : n < length sides
    there = omega (arith, lt, given.count)

    closed : (q : ℕ) (s : Side) → q < n + 1 → is_open g x q ≡ false → get_or (set sides n side) q None ≡ Some s → order_at g x q ≡ Some s
    closed q s less c e = go (cases_lt q n)
      where
        go : (q < n) ⊎ (n ≤ q) → order_at g x q ≡ Some s
        go (inl before) = given.closed q s before c (sym (get_or-set_other sides n q side None (λ h. omega (arith, h, before))) ∙ e)
        go (inr most) =
            let same : q ≡ n = omega arith in
            let read : get_or (set sides n side) q None ≡ side = subst (λ i. get_or (set sides n side) i None ≡ side) (sym same) (get_or-set_same sides n side None there) in
            let here : is_open g x n ≡ false = subst (λ i. is_open g x i ≡ false) same c in
            subst (λ i. order_at g x i ≡ Some s) (sym same) (sym (own here) ∙ sym read ∙ e)

    later : (q : ℕ) → n + 1 ≤ q → get_or (set sides n side) q None ≡ None
    later q le = get_or-set_other sides n q side None (λ h. omega (arith, h, le)) ∙ given.later q (omega (arith, le))

pub all_given : (g : Graph) (x : FleetState) (sides : List (Option Side)) (n : ℕ) → AreGiven g x sides n → AgreesOnClosed g x (λ q. get_or sides q None)
all_given g x sides n given q side c e = go (cases_lt q n)
  where
    go : (q < n) ⊎ (n ≤ q) → order_at g x q ≡ Some side
    go (inl lt) = given.closed q side lt c e
    go (inr le) = absurd (let z = given.later q le in cc)
