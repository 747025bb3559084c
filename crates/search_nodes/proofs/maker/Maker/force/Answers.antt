use Rattle.std.proofs.Common.{ℕ, ◌≡◌, ◌∷◌, Option, subst, ap, ◌∙◌}
use Rattle.std.specs.Prelude.{IfOk, OnOk, IfSome, IfNone}
use Rattle.fleet_base.specs.declared.order.Side.{Side}
use Rattle.fleet_base.specs.Order.{Graph, IsCyclic}
use Rattle.fleet_base.specs.State.{FleetState}
use Rattle.fleet_base.specs.Rules.{IsFleetState}
use Rattle.edge_groups.specs.Mates.{AreAllMates}
use Rattle.longest_path.specs.Decisions.{order_on}
use Rattle.longest_path.specs.Deciding.{order_in_force}
use Rattle.search_nodes.specs.Forcing.{IsForcing, HasNoForcing, AreThere, HasForced, IsAfter, WereForced, given_to, given_after}
use Rattle.search_nodes.proofs.Inside.{graph_of_live, state_of_live, to_live, from_live, live_rules}
use Rattle.search_nodes.proofs.maker.Maker.force.Goals as goal

pub force-requires-clause-state : goal.force-requires-clause-state
force-requires-clause-state c = live_rules c.self.inside c.self.invariant c.args.self.now c.self.view_is

pub force-requires-clause-mates : goal.force-requires-clause-mates
force-requires-clause-mates c = to_live c.self.inside c.self.invariant c.args.self.now c.self.view_is (λ g x ds. AreAllMates g c.args.groups.now) c.requires.mates

pub force-requires-clause-there : goal.force-requires-clause-there
force-requires-clause-there c = to_live c.self.inside c.self.invariant c.args.self.now c.self.view_is (λ g x ds. AreThere g c.args.suspects.now.keys) c.requires.there

pub returns-clause-after : goal.returns-clause-after
returns-clause-after c = from_live c.self.inside c.self.invariant c.args.self.now c.self.view_is (λ g x ds. IsAfter ds c.force.new.live.decisions) c.force.ensures.after

pub returns-clause-decisions : goal.returns-clause-decisions
returns-clause-decisions c = from_live c.self.inside c.self.invariant c.args.self.now c.self.view_is (λ g x ds. OnOk c.force.result (c.force.new.live.decisions ≡ given_after c.force.new.forced ds)) c.force.ensures.decisions

pub returns-clause-forced : goal.returns-clause-forced
returns-clause-forced c = from_live c.self.inside c.self.invariant c.args.self.now c.self.view_is (λ g x ds. OnOk c.force.result (WereForced g x c.force.new.forced ds)) c.force.ensures.forced

pub returns-clause-out : goal.returns-clause-out
returns-clause-out c =
    let m = c.self.inside in
    let i = c.self.invariant in
    let now = c.args.self.now in
    let e = c.self.view_is in
    let live = c.force.new.live in
    let keys = c.args.suspects.now.keys in
    let order : order_in_force live ≡ order_on now.graph now.state live.decisions = ap (λ (g : Graph). order_on g live.state live.decisions) (c.force.ensures.graph ∙ graph_of_live m i now e) ∙ ap (λ (x : FleetState). order_on now.graph x live.decisions) (c.force.ensures.state ∙ state_of_live m i now e) in
    subst (λ (o : ℕ → Option Side). IfOk c.force.result (λ refused. IfNone refused (HasForced now.graph (order_on now.graph now.state now.decisions) keys → HasNoForcing now.graph o))) order
    (from_live m i now e (λ g x ds. IfOk c.force.result (λ refused. IfNone refused (HasForced g (order_on g x ds) keys → HasNoForcing g (order_in_force live)))) c.force.ensures.out)

pub returns-clause-refused : goal.returns-clause-refused
returns-clause-refused c =
    let m = c.self.inside in
    let i = c.self.invariant in
    let now = c.args.self.now in
    let e = c.self.view_is in
    let live = c.force.new.live in
    let order : order_in_force live ≡ order_on now.graph now.state live.decisions = ap (λ (g : Graph). order_on g live.state live.decisions) (c.force.ensures.graph ∙ graph_of_live m i now e) ∙ ap (λ (x : FleetState). order_on now.graph x live.decisions) (c.force.ensures.state ∙ state_of_live m i now e) in
    subst (λ (o : ℕ → Option Side). IfOk c.force.result (λ refused. IfSome refused (λ f. IsForcing now.graph o f))) order
    (from_live m i now e (λ g x ds. IfOk c.force.result (λ refused. IfSome refused (λ f. IsForcing g (order_in_force live) f))) c.force.ensures.refused)

pub returns-clause-cyclic : goal.returns-clause-cyclic
returns-clause-cyclic c =
    let live = c.force.new.live in
    from_live c.self.inside c.self.invariant c.args.self.now c.self.view_is (λ g x ds. IfOk c.force.result (λ refused. IfSome refused (λ f. IsCyclic g (order_on g x (given_to f.pair f.side ∷ live.decisions))))) c.force.ensures.cyclic

pub returns-clause-rules : goal.returns-clause-rules
returns-clause-rules c = from_live c.self.inside c.self.invariant c.args.self.now c.self.view_is (λ g x ds. IsFleetState g x) (live_rules c.self.inside c.self.invariant c.args.self.now c.self.view_is)
