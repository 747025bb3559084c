-- Open pairs that are turned, and the order that they lead to.
use Rattle.std.proofs.Common.{ℕ, suc, zero, ◌≡◌, ◌≢◌, ◌<◌, ◌≤◌, ◌⊎◌, List, [], ◌∷◌, Some, None, Option, true, false, Bool, refl, sym, ap, ◌∙◌, subst, inl, inr, arith, length}
use Rattle.std.specs.Prelude.{Contains, slice_get, slice_index_or, ◌||◌, ◌&&◌, not, All, IsSome, nat_lt, ◌==◌, Ok, Err}
use Rattle.std.specs.Option.{option_map_or}
use Rattle.std.proofs.Math.ListN.{get_or-eq_default}
use Rattle.std.proofs.lemmas.Bool.{cases_lt, or_parts, eq-eqb, false≢true}
use Rattle.std.proofs.lemmas.Option.{slice_get-get_or}
use Rattle.fleet_base.specs.declared.geometry.Visit.{Visit}
use Rattle.fleet_base.specs.declared.order.Pair.{Pair}
use Rattle.fleet_base.specs.declared.order.PairId.{PairId}
use Rattle.fleet_base.specs.declared.order.Side.{Side}
use Rattle.fleet_base.specs.declared.order.Side.TheVariants.{Lower, Higher}
use Rattle.fleet_base.specs.Order.{Graph, IsVisit, HasEdge, Before, IsSorted, IsCyclic, IsSoundOrder, order_of, last_in, next_visit, first_visit, turned}
use Rattle.fleet_base.specs.Open.{is_open, is_settled}
use Rattle.fleet_base.specs.State.{FleetState, IsFleetOf, released_count}
use Rattle.plan_graph.specs.declared.ranking.Ranked.{Ranked}
use Rattle.plan_graph.specs.declared.ranking.Ranked.TheVariants.{Order, Cycle}
use Rattle.plan_graph.specs.Views.{OrientedGraph, Ranking, order_in}
use Rattle.plan_graph.specs.Ranks.{IsRanked}
use Rattle.release_rule.specs.Releasing.{HasSidesOf}
use Rattle.fleet_core.specs.declared.entry.PrepareError.{PrepareError}
use Rattle.fleet_core.specs.declared.entry.PrepareError.TheVariants.{ChoiceRefused}
use Rattle.fleet_core.specs.declared.entry.ChoiceWhy.TheVariants.{Cyclic}
use Rattle.fleet_core.specs.Switching.{AreSwitchable, OrderIs, SwitchIs}
use Rattle.fleet_base.proofs.Turning.{turned_or_old, length-turned}
use Rattle.fleet_base.proofs.OpenPairs.{open_unsettled}

-- ---- orders that give each pair the same side

module _ (g : Graph) (order other : ℕ → Option Side) (same : (q : ℕ) → order q ≡ other q) where
  same_edge : (q : ℕ) (u v : Visit) → HasEdge g other q u v → HasEdge g order q u v
  same_edge q u v e = record { pair = e.pair; side = e.side; listed = e.listed; sided = same q ∙ e.sided; tail = e.tail; head = e.head }

  same_before : (u v : Visit) → Before g other u v → Before g order u v
  same_before u v (inl next) = inl next
  same_before u v (inr e) = inr (e.0, same_edge e.0 u v e.1)

  pub same_sorted : (list : List Visit) → IsSorted g order list → IsSorted g other list
  same_sorted list s = record { visits = s.visits; each = s.each; once = s.once; forward = λ j k u v a b before. s.forward j k u v a b (same_before u v before) }

-- an order that gives the same sides as a cyclic one is cyclic
pub same_cyclic : (g : Graph) (order other : ℕ → Option Side) → ((q : ℕ) → order q ≡ other q) → IsCyclic g order → IsCyclic g other
same_cyclic g order other same cyclic list s = cyclic list (same_sorted g other order (λ q. sym (same q)) list s)

-- ---- open pairs

second_or : (a b : Bool) → (a || b) ≡ false → b ≡ false
second_or a b h = (or_parts a b h).1

-- a visit that is not settled is not its robot's last
followed : (g : Graph) (x : FleetState) (v : Visit) → IsVisit g v → is_settled g x v ≡ false → IsVisit g (next_visit v)
followed g x v there h = record { robot = there.robot; index = omega (arith, there.index, ne) }
  where
    ne : v.index ≢ last_in g v.robot
    ne e = false≢true (sym (second_or (nat_lt v.index (released_count x v.robot)) (v.index == last_in g v.robot) h) ∙ eq-eqb v.index (last_in g v.robot) e)

first_followed : (g : Graph) (x : FleetState) (p : Pair) (side : Side) → IsVisit g p.lower → IsVisit g p.higher → (is_settled g x p.lower ≡ false) × (is_settled g x p.higher ≡ false) → IsVisit g (next_visit (first_visit p side))
first_followed g x p Lower l h o = followed g x p.lower l o.0
first_followed g x p Higher l h o = followed g x p.higher h o.1

module _ (g : Graph) (x : FleetState) (switched : List PairId) (fleet : IsFleetOf g x) (sound : IsSoundOrder g (order_of x.sides)) where
  -- pairs that are open may be turned, where the order then has a list of all visits
  pub all_switchable : All (λ q. is_open g x q.0 ≡ true) switched → (list : List Visit) → IsSorted g (order_of (turned x.sides switched)) list → AreSwitchable g x switched
  all_switchable all list sorted = record { are_open = all; sound = record { total = total; follows = follows; list = list; sorted = sorted } }
    where
      total : (q : ℕ) → q < length g.pairs → IsSome (order_of (turned x.sides switched) q)
      total q h = subst (λ (o : Option Side). IsSome o) (sym (slice_get-get_or (turned x.sides switched) q Lower (omega (arith, h, length-turned x.sides switched, fleet.sides)))) refl

      follows : (q : ℕ) (u v : Visit) → HasEdge g (order_of (turned x.sides switched)) q u v → IsVisit g u
      follows q u v e = go (turned_or_old x.sides switched q)
        where
          go : (order_of (turned x.sides switched) q ≡ order_of x.sides q) ⊎ ((p : PairId) × Contains switched p × (p.0 ≡ q)) → IsVisit g u
          go (inl same) = sound.follows q u v (record { pair = e.pair; side = e.side; listed = e.listed; sided = sym same ∙ e.sided; tail = e.tail; head = e.head })
          go (inr r) =
              let o : is_open g x (r.0).0 ≡ true = subst (λ (p : PairId). is_open g x p.0 ≡ true) (r.1).2 (all (r.1).0 r.0 (r.1).1) in
              let here : is_open g x q ≡ true = subst (λ (n : ℕ). is_open g x n ≡ true) r.2 o in
              subst (λ (w : Visit). IsVisit g w) (sym e.tail)
              (first_followed g x e.pair e.side (fleet.graph.lower q e.pair e.listed) (fleet.graph.higher q e.pair e.listed) (open_unsettled g x q e.pair e.listed here))

  -- no pairs may be
  pub none_switchable : switched ≡ [] → AreSwitchable g x switched
  none_switchable e = subst (λ (qs : List PairId). AreSwitchable g x qs) (sym e) (record { are_open = λ k d h. absurd (omega (arith, h)); sound = sound })

-- ---- a view of the state's order

-- past the end of a list there is nothing
nothing_past : {X : Type 0} (xs : List X) (q : ℕ) → length xs ≤ q → slice_get xs q ≡ None
nothing_past [] q h = refl
nothing_past (x ∷ xs) zero h = absurd (omega (arith, h))
nothing_past (x ∷ xs) (suc q) h = nothing_past xs q (omega (arith, h))

-- a view has the sides of the state where it has them for each pair
pub has_sides : (sides : List (Option Side)) (kept : List Side) → length sides ≡ length kept → ((q : ℕ) → q < length kept → slice_index_or sides q None ≡ slice_get kept q) → (q : ℕ) → slice_index_or sides q None ≡ slice_get kept q
has_sides sides kept same each q = go (cases_lt q (length kept))
  where
    go : (q < length kept) ⊎ (length kept ≤ q) → slice_index_or sides q None ≡ slice_get kept q
    go (inl h) = each q h
    go (inr h) = get_or-eq_default sides None (omega (arith, h, same)) ∙ sym (nothing_past kept q h)

-- what the ranking of the view answers is so of the state's order
pub order_is : (g : Graph) (x : FleetState) (view : OrientedGraph) (room : Ranking) (r : Ranked) → view.graph ≡ g → HasSidesOf view x → IsRanked view room r → (r ≡ Cycle → IsCyclic view.graph (order_in view)) → OrderIs g (order_of x.sides) r
order_is g x view room r graph sides ranked cyclic = subst (λ (h : Graph). OrderIs h (order_of x.sides) r) graph (go r refl ranked)
  where
    go : (s : Ranked) → r ≡ s → IsRanked view room s → OrderIs view.graph (order_of x.sides) s
    go Order e k = (room.order, same_sorted view.graph (order_in view) (order_of x.sides) sides room.order k.0)
    go Cycle e k = same_cyclic view.graph (order_in view) (order_of x.sides) sides (cyclic e)

-- ---- what is switched

none_first : (qs : List PairId) → slice_get qs 0 ≡ None → qs ≡ []
none_first [] e = refl
none_first (q ∷ qs) e = cc

pub turned_fleet : (g : Graph) (x y : FleetState) (switched : List PairId) → IsFleetOf g x → y ≡ record x { sides = turned x.sides switched } → IsFleetOf g y
turned_fleet g x y switched fleet e = subst (λ (z : FleetState). IsFleetOf g z) (sym e) (record {
  graph = fleet.graph;
  lasts = fleet.lasts;
  plan_sides = fleet.plan_sides;
  sides = length-turned x.sides switched ∙ fleet.sides;
  arrivals = fleet.arrivals;
  releases = fleet.releases;
  delays = fleet.delays;
  visits = fleet.visits;
})

module _ (g : Graph) (x : FleetState) (switched : List PairId) (fleet : IsFleetOf g x) (sound : IsSoundOrder g (order_of x.sides)) where
  pub none_switched : slice_get switched 0 ≡ None → SwitchIs g x x switched (Ok tt)
  none_switched e =
      let none = none_first switched e in
      (subst (λ (qs : List PairId). x ≡ record x { sides = turned x.sides qs }) (sym none) refl, none_switchable g x switched fleet sound none)

  module _ (y : FleetState) (e : y ≡ record x { sides = turned x.sides switched }) (all : All (λ q. is_open g x q.0 ≡ true) switched) where
    new_sides : y.sides ≡ turned x.sides switched
    new_sides = ap (λ (z : FleetState). z.sides) e

    pub all_switched : (r : Ranked) → OrderIs g (order_of y.sides) r → r ≡ Order → SwitchIs g x y switched (Ok tt)
    all_switched r o is =
        let listed = subst (λ (s : Ranked). OrderIs g (order_of y.sides) s) is o in
        (e, all_switchable g x switched fleet sound all listed.0 (subst (λ (sides : List Side). IsSorted g (order_of sides) listed.0) new_sides listed.1))

    pub cycle_refused : (r : Ranked) (q : PairId) (refusal : PrepareError) → OrderIs g (order_of y.sides) r → r ≡ Cycle → slice_get switched 0 ≡ Some q → refusal ≡ ChoiceRefused q Cyclic → SwitchIs g x y switched (Err refusal)
    cycle_refused r q refusal o is first why =
        let cyclic = subst (λ (s : Ranked). OrderIs g (order_of y.sides) s) is o in
        subst (λ (w : PrepareError). SwitchIs g x y switched (Err w)) (sym why) (all, first, subst (λ (sides : List Side). IsCyclic g (order_of sides)) new_sides cyclic)
