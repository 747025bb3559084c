use Rattle.std.proofs.Common.{◌≡◌, ◌<◌, ◌≤◌, Some, sym, subst, ap, ◌∙◌, arith, length}
use Rattle.std.specs.Prelude.{slice_get, slice_index}
use Rattle.fleet_base.specs.declared.geometry.Visit.{Visit}
use Rattle.fleet_base.specs.Order.{Graph, IsVisit, next_visit}
use Rattle.fleet_base.specs.State.{FleetState, delay_of}
use Rattle.plan_graph.proofs.PlanGraphs.{index_within}
use Rattle.plan_graph.specs.Limits.{IsGraphWithinLimits}
use Rattle.longest_path.specs.Deciding.{order_in_force}
use Rattle.longest_path.proofs.LiveLaws.{open_within}
use Rattle.search_nodes.proofs.Conflicts.{tail_is, head_is, obeys_told}
use Rattle.search_nodes.proofs.candidate.obeys.Goals as goal

pub pair-requires : goal.pair-requires
pair-requires c = subst (λ (g : Graph). c.args.q.0 < length g.pairs) (sym c.requires.graph) (open_within c.args.live.now.graph c.args.live.now.state c.args.q.0 c.requires.open)

pub overflow_add-tail : goal.overflow_add-tail
overflow_add-tail c =
    let g = c.args.live.now.graph in
    let at : slice_get g.pairs c.args.q.0 ≡ Some c.pair.result = subst (λ (h : Graph). slice_get h.pairs c.args.q.0 ≡ Some c.pair.result) c.requires.graph c.pair.ensures in
    let there : IsVisit g (next_visit c.visits_of.result.0) = subst (λ (v : Visit). IsVisit g (next_visit v)) (sym c.visits_of.ensures.first) (tail_is g c.args.live.now.state c.requires.state c.args.q.0 c.pair.result c.args.side c.requires.open at) in
    let limits : IsGraphWithinLimits g = subst (λ (h : Graph). IsGraphWithinLimits h) c.requires.graph c.robots-within.ensures.limits in
    omega (arith, index_within g limits (next_visit c.visits_of.result.0) there)

pub at-begins-requires : goal.at-begins-requires
at-begins-requires c =
    let g = c.args.live.now.graph in
    let at : slice_get g.pairs c.args.q.0 ≡ Some c.pair.result = subst (λ (h : Graph). slice_get h.pairs c.args.q.0 ≡ Some c.pair.result) c.requires.graph c.pair.ensures in
    subst (λ (v : Visit). IsVisit g (next_visit v)) (sym c.visits_of.ensures.first) (tail_is g c.args.live.now.state c.requires.state c.args.q.0 c.pair.result c.args.side c.requires.open at)

pub at-ends-requires : goal.at-ends-requires
at-ends-requires c =
    let g = c.args.live.now.graph in
    let at : slice_get g.pairs c.args.q.0 ≡ Some c.pair.result = subst (λ (h : Graph). slice_get h.pairs c.args.q.0 ≡ Some c.pair.result) c.requires.graph c.pair.ensures in
    subst (λ (v : Visit). IsVisit g v) (sym c.visits_of.ensures.second) (head_is g c.args.live.now.state c.requires.state c.args.q.0 c.pair.result c.args.side c.requires.open at)

pub delay-requires-clause-robot : goal.delay-requires-clause-robot
delay-requires-clause-robot c =
    let g = c.args.live.now.graph in
    let x = c.args.live.now.state in
    let at : slice_get g.pairs c.args.q.0 ≡ Some c.pair.result = subst (λ (h : Graph). slice_get h.pairs c.args.q.0 ≡ Some c.pair.result) c.requires.graph c.pair.ensures in
    let there : IsVisit g c.visits_of.result.1 = subst (λ (v : Visit). IsVisit g v) (sym c.visits_of.ensures.second) (head_is g x c.requires.state c.args.q.0 c.pair.result c.args.side c.requires.open at) in
    subst (λ (y : FleetState). c.visits_of.result.1.robot < length y.lasts) (sym c.requires.fleet) (let e = ap length c.requires.state.fleet.lasts in omega (arith, e, there.robot))

pub delay-requires-clause-index : goal.delay-requires-clause-index
delay-requires-clause-index c =
    let g = c.args.live.now.graph in
    let x = c.args.live.now.state in
    let at : slice_get g.pairs c.args.q.0 ≡ Some c.pair.result = subst (λ (h : Graph). slice_get h.pairs c.args.q.0 ≡ Some c.pair.result) c.requires.graph c.pair.ensures in
    let there : IsVisit g c.visits_of.result.1 = subst (λ (v : Visit). IsVisit g v) (sym c.visits_of.ensures.second) (head_is g x c.requires.state c.args.q.0 c.pair.result c.args.side c.requires.open at) in
    subst (λ (y : FleetState). c.visits_of.result.1.index ≤ slice_index y.lasts c.visits_of.result.1.robot) (sym c.requires.fleet) (let e = ap (λ ls. slice_index ls c.visits_of.result.1.robot) c.requires.state.fleet.lasts in omega (arith, e, there.index))

pub overflow_add-result-2 : goal.overflow_add-result-2
overflow_add-result-2 c =
    let small = c.requires.state.delays c.visits_of.result.1 in
    let same = ap (λ (y : FleetState). delay_of y c.visits_of.result.1) c.requires.fleet in
    omega (arith, small, same, c.delay.ensures, c.at-begins.ensures.small)

pub returns : goal.returns
returns c =
    let g = c.args.live.now.graph in
    let x = c.args.live.now.state in
    let at : slice_get g.pairs c.args.q.0 ≡ Some c.pair.result = subst (λ (h : Graph). slice_get h.pairs c.args.q.0 ≡ Some c.pair.result) c.requires.graph c.pair.ensures in
    λ pair s listed least.
    obeys_told g x c.requires.state c.args.q.0 c.args.side c.requires.open (order_in_force c.args.live.now) c.pair.result pair c.visits_of.result.0 c.visits_of.result.1 c.at-begins.result c.at-ends.result c.delay.result s
    at c.visits_of.ensures.first c.visits_of.ensures.second c.at-begins.ensures.least c.at-ends.ensures.least (c.delay.ensures ∙ ap (λ (y : FleetState). delay_of y c.visits_of.result.1) c.requires.fleet) listed least
