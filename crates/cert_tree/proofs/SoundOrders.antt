-- A schedule that obeys a sound order is lawful, so no sound order costs less than an optimal tree says.
use Rattle.std.proofs.Common.{ℕ, ◌≡◌, ◌+◌, ◌≤◌, ◌⊎◌, Some, None, Option, refl, ◌∙◌, inl, inr, arith, true, false, Bool, subst, sym, length, ◌<◌, List}
use Rattle.std.specs.Prelude.{slice_get, IsSome}
use Rattle.fleet_base.specs.declared.geometry.Visit.{Visit}
use Rattle.fleet_base.specs.declared.order.Pair.{Pair}
use Rattle.fleet_base.specs.declared.order.Side.{Side}
use Rattle.fleet_base.specs.declared.order.Side.TheVariants.{Lower, Higher}
use Rattle.fleet_base.specs.Order.{Graph, IsGraph, HasEdge, IsSorted, IsSoundOrder, next_visit, first_visit, second_visit}
use Rattle.fleet_base.specs.State.{FleetState}
use Rattle.fleet_base.specs.Open.{is_open, KeepsClosed}
use Rattle.fleet_base.specs.Rules.{IsFleetState}
use Rattle.fleet_base.specs.Schedule.{IsLawful, IsSchedule, ObeysEdge, ObeysSide, Obeys, IsCost}
use Rattle.cert_tree.specs.Trees.{Tree, IsOptimalTree}
use Rattle.fleet_base.proofs.Edges.{head_there}
use Rattle.cert_tree.proofs.EdgeLaws.{visit_before}
use Rattle.std.proofs.lemmas.Option.{slice_get_within}
use Rattle.cert_tree.proofs.Walks.{tail_there}
use Rattle.cert_tree.proofs.TreeBound.{optimal_below}

module _ (g : Graph) (x : FleetState) (graph : IsGraph g) (order : ℕ → Option Side) (sound : IsSoundOrder g order) (keeps : KeepsClosed g x order)
    (s : Visit → ℕ) (schedule : IsSchedule g x s) (obeys : Obeys g x order s) where
  edge : (q : ℕ) (u v : Visit) → HasEdge g order q u v → ObeysEdge x s u v
  edge q u v e = obeys u v (sound.follows q u v e) (head_there g order q u v graph e) (inr (q, e))

  pub sound_is_lawful : IsLawful g x s
  sound_is_lawful = record {
    schedule = schedule;
    along = λ v is. obeys v (next_visit v) (visit_before g v.robot (v.index + 1) v.index is (omega arith)) is (inl refl);
    closed = λ q u v c e. edge q u v (record { pair = e.pair; side = e.side; listed = e.listed; sided = keeps q c ∙ e.sided; tail = e.tail; head = e.head });
    either = λ q pair o l. sides q pair l (order q) refl (sound.total q (slice_get_within g.pairs q pair l));
  }
    where
      sides : (q : ℕ) (pair : Pair) → slice_get g.pairs q ≡ Some pair → (o : Option Side) → order q ≡ o → IsSome o → ObeysSide x s pair Lower ⊎ ObeysSide x s pair Higher
      sides q pair l None e h = cc
      sides q pair l (Some Lower) e h = inl (edge q (next_visit (first_visit pair Lower)) (second_visit pair Lower) (record { pair = pair; side = Lower; listed = l; sided = e; tail = refl; head = refl }))
      sides q pair l (Some Higher) e h = inr (edge q (next_visit (first_visit pair Higher)) (second_visit pair Higher) (record { pair = pair; side = Higher; listed = l; sided = e; tail = refl; head = refl }))

-- an order without a cycle that gives each open pair a side and keeps the closed ones is sound
pub acyclic_is_sound : (g : Graph) (x : FleetState) (order : ℕ → Option Side) (list : List Visit) → IsFleetState g x → KeepsClosed g x order → ((q : ℕ) → is_open g x q ≡ true → IsSome (order q)) → IsSorted g order list → IsSoundOrder g order
acyclic_is_sound g x order list state keeps sided sorted = record {
  total = λ q h. go q (is_open g x q) refl h;
  follows = λ q u v e. tail_there g x state order keeps q u v e;
  list = list;
  sorted = sorted;
}
  where
    go : (q : ℕ) (b : Bool) → is_open g x q ≡ b → q < length g.pairs → IsSome (order q)
    go q true e h = sided q e
    go q false e h = subst (λ o. IsSome o) (sym (keeps q e)) (state.order.total q h)

-- none costs less than an optimal tree's cost
pub no_order_below : (g : Graph) (x : FleetState) (cost c : ℕ) (tree : Tree) (order : ℕ → Option Side) (list : List Visit) → IsFleetState g x → IsOptimalTree g x cost tree → KeepsClosed g x order → ((q : ℕ) → is_open g x q ≡ true → IsSome (order q)) → IsSorted g order list → IsCost g x order c → cost ≤ c
no_order_below g x cost c tree order list state t keeps sided sorted k =
    let sound = acyclic_is_sound g x order list state keeps sided sorted in
    let h = optimal_below g x cost tree k.best state t (sound_is_lawful g x state.fleet.graph order sound keeps k.best k.schedule k.obeys) in
    omega (arith, h, k.sum)
