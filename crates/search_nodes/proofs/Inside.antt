-- What a maker says of its schedule.
use Rattle.std.proofs.Common.{◌≡◌, List, ◌∷◌, Bool, true, false, refl, sym, ap, ◌∙◌, subst}
use Rattle.fleet_base.specs.Order.{Graph}
use Rattle.fleet_base.specs.State.{FleetState}
use Rattle.fleet_base.specs.Rules.{IsFleetState}
use Rattle.plan_graph.specs.Views.{OrientedGraph}
use Rattle.longest_path.specs.declared.decision.Decision.{Decision as Given}
use Rattle.longest_path.specs.Deciding.{Deciding, one_more}
use Rattle.search_nodes.specs.declared.maker.Maker.TheInside.{Inside}
use Rattle.search_nodes.specs.Kept.{making_of, IsMaker}
use Rattle.search_nodes.specs.Making.{Making}
use Rattle.search_nodes.specs.Weighing.{IsViewOf}

module _ (m : Inside) (i : IsMaker m) (now : Making) (e : making_of m ≡ now) where
  pub graph_of_live : m.live.graph ≡ now.graph
  graph_of_live = i.live_graph ∙ ap (λ (n : Making). n.graph) e

  pub state_of_live : m.live.state ≡ now.state
  state_of_live = i.live_state ∙ ap (λ (n : Making). n.state) e

  pub decisions_of_live : m.live.decisions ≡ now.decisions
  decisions_of_live = ap (λ (n : Making). n.decisions) e

  -- what a caller knows holds of the schedule
  pub to_live : (P : Graph → FleetState → List Given → Type 0) → P now.graph now.state now.decisions → P m.live.graph m.live.state m.live.decisions
  to_live P h = subst (λ (g : Graph). P g m.live.state m.live.decisions) (sym graph_of_live) (subst (λ (x : FleetState). P now.graph x m.live.decisions) (sym state_of_live) (subst (λ (ds : List Given). P now.graph now.state ds) (sym decisions_of_live) h))

  -- and the other way round
  pub from_live : (P : Graph → FleetState → List Given → Type 0) → P m.live.graph m.live.state m.live.decisions → P now.graph now.state now.decisions
  from_live P h = subst (λ (g : Graph). P g now.state now.decisions) graph_of_live (subst (λ (x : FleetState). P m.live.graph x now.decisions) state_of_live (subst (λ (ds : List Given). P m.live.graph m.live.state ds) decisions_of_live h))

  -- it is still a maker with another schedule of the graph and the state
  pub with_live : (live : Deciding) → live.graph ≡ m.live.graph → live.state ≡ m.live.state → IsMaker (record m { live = live })
  with_live live g x = record { rules = i.rules; live_graph = g ∙ i.live_graph; live_state = x ∙ i.live_state; candidate = i.candidate; best_view = i.best_view; best = i.best }

  -- ---- what its functions are given

  pub live_rules : IsFleetState m.live.graph m.live.state
  live_rules = subst (λ (g : Graph). IsFleetState g m.live.state) (sym i.live_graph) (subst (λ (x : FleetState). IsFleetState m.graph.now x) (sym i.live_state) i.rules)

  pub candidate_live : IsViewOf m.live.graph m.candidate
  candidate_live = subst (λ (g : Graph). IsViewOf g m.candidate) (sym i.live_graph) i.candidate

-- whatever a schedule answers to a decision, its graph and its state stay
pub same_whole : (b : Bool) (old new : Deciding) (d : Given) → (b ≡ true → new ≡ record old { decisions = d ∷ old.decisions; asked = one_more old.asked }) → (b ≡ false → new ≡ record old { asked = one_more old.asked }) → (new.graph ≡ old.graph) × (new.state ≡ old.state)
same_whole true old new d kept refused = let e = kept refl in (ap (λ (x : Deciding). x.graph) e, ap (λ (x : Deciding). x.state) e)
same_whole false old new d kept refused = let e = refused refl in (ap (λ (x : Deciding). x.graph) e, ap (λ (x : Deciding). x.state) e)

-- a decision that its schedule keeps, as a caller sees it
pub kept_making : (m : Inside) (now : Making) (live : Deciding) (d : Given) → making_of m ≡ now → live ≡ record m.live { decisions = d ∷ m.live.decisions; asked = one_more m.live.asked }
    → making_of (record m { live = live }) ≡ record now { decisions = d ∷ now.decisions; asked = one_more now.asked }
kept_making m now live d e kept =
    ap (λ (l : Deciding). let r : Making = record { graph = m.graph.now; state = m.fleet.now; decisions = l.decisions; asked = l.asked; best = m.best.sides; cost = m.cost } in r) kept
    ∙ ap (λ (n : Making). let r : Making = record n { decisions = d ∷ n.decisions; asked = one_more n.asked } in r) e
