use Rattle.std.proofs.Common.{◌≡◌, ◌<◌, ◌∷◌, List, sym, subst, ap, ◌∙◌, length}
use Rattle.std.specs.Prelude.{Result, Ok, Err, IfOk}
use Rattle.fleet_base.specs.declared.order.PairId.{PairId}
use Rattle.fleet_base.specs.Order.{Graph, IsCycle}
use Rattle.fleet_base.specs.State.{FleetState}
use Rattle.fleet_base.specs.Rules.{IsFleetState}
use Rattle.plan_graph.specs.Views.{OrientedGraph}
use Rattle.longest_path.specs.Decisions.{order_on}
use Rattle.longest_path.specs.Ticks.{IsKeptFor}
use Rattle.search_nodes.specs.Forcing.{given_to}
use Rattle.search_nodes.proofs.Sides.{free_of_none}
use Rattle.search_nodes.proofs.Views.{set_view, cycle_found}
use Rattle.search_nodes.proofs.candidate.cycle_with.Goals as goal

-- what holds of a list holds of its copy
copied : {E : Type 0} (P : List PairId → Type 0) (l : List PairId) → P l → (r : Result (List PairId) E) → IfOk r (λ c. c ≡ l) → IfOk r P
copied P l h (Ok c) e = subst P (sym e) h
copied P l h (Err x) e = e

pub set-requires : goal.set-requires
set-requires c = subst (λ (g : Graph). c.args.q.0 < length g.pairs) (sym c.write_in_force.ensures.view.graph) c.requires.there

pub earliest-always_cyclic-requires-clause-state : goal.earliest-always_cyclic-requires-clause-state
earliest-always_cyclic-requires-clause-state c =
    let g = c.args.live.now.graph in
    let same : c.set.new.self.graph ≡ g = ap (λ (v : OrientedGraph). v.graph) c.set.ensures ∙ c.write_in_force.ensures.view.graph in
    subst (λ (h : Graph). IsFleetState h c.args.fleet.now) (sym same) (subst (λ (x : FleetState). IsFleetState g x) (sym c.requires.fleet) c.requires.state)

pub earliest-always_cyclic-requires-clause-room : goal.earliest-always_cyclic-requires-clause-room
earliest-always_cyclic-requires-clause-room c =
    let same : c.set.new.self.graph ≡ c.args.live.now.graph = ap (λ (v : OrientedGraph). v.graph) c.set.ensures ∙ c.write_in_force.ensures.view.graph in
    subst (λ (h : Graph). IsKeptFor h c.args.ticks.now) (sym same) c.requires.room

pub returns-clause-cycle : goal.returns-clause-cycle
returns-clause-cycle c =
    let g = c.args.live.now.graph in
    let x = c.args.live.now.state in
    let ds = c.args.live.now.decisions in
    let free = free_of_none g x ds c.requires.state c.args.q.0 c.requires.there c.requires.none in
    let found = cycle_found g x ds c.args.q c.args.side free c.write_in_force.new.view c.set.new.self c.write_in_force.ensures.view c.write_in_force.ensures.order c.set.ensures c.earliest-always_cyclic.result c.earliest-always_cyclic.new.ticks.cycle
    c.requires.cyclic c.earliest-always_cyclic.ensures.cyclic c.earliest-always_cyclic.ensures.cycle in
    let read : IsCycle g (order_on g x (given_to c.args.q c.args.side ∷ ds)) c.cycle.result.now = subst (λ (l : List PairId). IsCycle g (order_on g x (given_to c.args.q c.args.side ∷ ds)) l) (sym c.cycle.ensures) found in
    copied (λ l. IsCycle g (order_on g x (given_to c.args.q c.args.side ∷ ds)) l) c.cycle.result.now read c.from_slice.result c.from_slice.ensures

pub returns-clause-view : goal.returns-clause-view
returns-clause-view c =
    let g = c.args.live.now.graph in
    let x = c.args.live.now.state in
    let ds = c.args.live.now.decisions in
    let free = free_of_none g x ds c.requires.state c.args.q.0 c.requires.there c.requires.none in
    set_view g x ds c.args.q c.args.side free c.write_in_force.new.view c.set.new.self c.write_in_force.ensures.view c.write_in_force.ensures.order c.set.ensures

pub returns-clause-room : goal.returns-clause-room
returns-clause-room c =
    let same : c.set.new.self.graph ≡ c.args.live.now.graph = ap (λ (v : OrientedGraph). v.graph) c.set.ensures ∙ c.write_in_force.ensures.view.graph in
    subst (λ (h : Graph). IsKeptFor h c.earliest-always_cyclic.new.ticks) same c.earliest-always_cyclic.ensures.room
