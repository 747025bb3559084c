-- A walk, leg by leg.
use Rattle.std.proofs.Common.{ℕ, ◌≡◌, ◌≢◌, ◌+◌, ◌*◌, ◌^◌, ◌<◌, ◌≤◌, List, ◌∷◌, Some, None, Option, true, false, cond, sym, ap, ◌∙◌, arith, length, drop, get_or}
use Rattle.std.specs.Prelude.{option_and_then}
use Rattle.std.proofs.lemmas.Bool.{eq-eqb, ne_eqb}
use Rattle.std.proofs.lemmas.List.{drop_more, drop_all}
use Rattle.fleet_base.specs.declared.geometry.Visit.{Visit}
use Rattle.fleet_base.specs.declared.order.PairId.{PairId}
use Rattle.fleet_base.specs.declared.order.Side.{Side}
use Rattle.fleet_base.specs.Order.{Graph, IsVisit, last_in}
use Rattle.fleet_base.specs.State.{FleetState, duration_of}
use Rattle.fleet_base.specs.declared.order.Edge.{Edge}
use Rattle.fleet_base.specs.Paths.{edge_in, leads_on, travel, walk_end}

abbrev none : PairId
none = record { 0 = 0 }

module _ (g : Graph) (x : FleetState) (order : ℕ → Option Side) (i : ℕ) where
  -- a walk has come to a visit: what is left of the pairs leads to the same end, and no leg has lasted longer than 2^53 ticks
  pub record HasWalked (from : Visit) (start : ℕ) (pairs : List PairId) (place : ℕ) (at : Visit) (tick : ℕ) : Type 0 where
    pub parts : walk_end g x order i from start pairs ≡ walk_end g x order i at tick (drop place pairs)
    pub short : tick ≤ start + place * 2 ^ 53
    pub there : IsVisit g at

  pub begun : (from : Visit) (start tick : ℕ) (pairs : List PairId) → tick ≡ start → IsVisit g from → HasWalked from start pairs 0 from tick
  begun from start tick pairs e there = record { parts = ap (λ n. walk_end g x order i from n pairs) (sym e); short = omega (arith, e); there = there }

  leg : (at : Visit) (t : ℕ) (q : PairId) (qs : List PairId) (o : Option Edge) → edge_in g order q.0 ≡ o → walk_end g x order i at t (q ∷ qs) ≡ option_and_then (λ (e : Edge). cond (leads_on g at e.tail) (walk_end g x order i e.head (t + travel x at e.tail.index + duration_of x e.head) qs) None) o
  leg at t q qs o e = ap (option_and_then (λ (e : Edge). cond (leads_on g at e.tail) (walk_end g x order i e.head (t + travel x at e.tail.index + duration_of x e.head) qs) None)) e

  module _ (from : Visit) (start : ℕ) (pairs : List PairId) (place : ℕ) (at : Visit) (tick : ℕ) (walked : HasWalked from start pairs place at tick) where
    split : place < length pairs → walk_end g x order i from start pairs ≡ walk_end g x order i at tick (get_or pairs place none ∷ drop (place + 1) pairs)
    split h = walked.parts ∙ ap (walk_end g x order i at tick) (drop_more pairs place none h)

    pub no_leg : place < length pairs → edge_in g order (get_or pairs place none).0 ≡ None → walk_end g x order i from start pairs ≡ None
    no_leg h e = split h ∙ leg at tick (get_or pairs place none) (drop (place + 1) pairs) None e

    pub no_way : (e : Edge) → place < length pairs → edge_in g order (get_or pairs place none).0 ≡ Some e → leads_on g at e.tail ≡ false → walk_end g x order i from start pairs ≡ None
    no_way e h is f = split h ∙ leg at tick (get_or pairs place none) (drop (place + 1) pairs) (Some e) is ∙ ap (λ b. cond b (walk_end g x order i e.head (tick + travel x at e.tail.index + duration_of x e.head) (drop (place + 1) pairs)) None) f

    pub goes_on : (e : Edge) (along across later : ℕ) → place < length pairs → edge_in g order (get_or pairs place none).0 ≡ Some e → leads_on g at e.tail ≡ true → along ≡ travel x at e.tail.index → across ≡ duration_of x e.head → later ≡ tick + along + across → along + across ≤ 2 ^ 53 → IsVisit g e.head → HasWalked from start pairs (place + 1) e.head later
    goes_on e along across later h is t a b l few there = record {
      short = omega (arith, walked.short, few, l);
      parts = split h ∙ leg at tick (get_or pairs place none) (drop (place + 1) pairs) (Some e) is ∙ ap (λ b. cond b (walk_end g x order i e.head (tick + travel x at e.tail.index + duration_of x e.head) (drop (place + 1) pairs)) None) t ∙ ap (λ n. walk_end g x order i e.head n (drop (place + 1) pairs)) (let z : tick + travel x at e.tail.index + duration_of x e.head ≡ later = omega (arith, a, b, l) in z);
      there = there;
    }

    pub ends_elsewhere : length pairs ≤ place → at.robot ≢ i → walk_end g x order i from start pairs ≡ None
    ends_elsewhere h ne = walked.parts ∙ ap (walk_end g x order i at tick) (drop_all place pairs h) ∙ ap (λ b. cond b (Some (tick + travel x at (last_in g i))) None) (ne_eqb at.robot i ne)

    pub ends_here : (along sum : ℕ) → length pairs ≤ place → at.robot ≡ i → along ≡ travel x at (last_in g i) → sum ≡ tick + along → Some sum ≡ walk_end g x order i from start pairs
    ends_here along sum h e a s =
        let end : walk_end g x order i from start pairs ≡ Some (tick + travel x at (last_in g i)) = walked.parts ∙ ap (walk_end g x order i at tick) (drop_all place pairs h) ∙ ap (λ b. cond b (Some (tick + travel x at (last_in g i))) None) (eq-eqb at.robot i e) in
        let same : sum ≡ tick + travel x at (last_in g i) = omega (arith, a, s) in
        ap Some same ∙ sym end
