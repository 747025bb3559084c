use Rattle.std.proofs.Common.{◌<◌, ◌∷◌, sym, subst, length}
use Rattle.fleet_base.specs.Order.{Graph, IsCyclic}
use Rattle.fleet_base.specs.State.{FleetState}
use Rattle.longest_path.specs.Decisions.{order_on}
use Rattle.order_choice.specs.declared.made.Forcing.{Forcing}
use Rattle.search_nodes.specs.Forcing.{IsForcing, HasForced, HasNoForcing, given_to}
use Rattle.search_nodes.proofs.Sides.{mate_there}
use Rattle.search_nodes.proofs.Nodes.{round_at, waiting_at, some_at, none_at}
use Rattle.search_nodes.proofs.maker.Maker.make_forced.Goals as goal

pub round-requires-clause-cyclic : goal.round-requires-clause-cyclic
round-requires-clause-cyclic c =
    let old = c.args.self.now in
    let mid = c.force.new.self in
    let f = c.in-Some.refused in
    let h : IsCyclic old.graph (order_on old.graph old.state (given_to f.pair f.side ∷ mid.decisions)) = some_at (λ (k : Forcing). IsCyclic old.graph (order_on old.graph old.state (given_to k.pair k.side ∷ mid.decisions))) c.in_ok-refused.field-0 f c.in-Some.is c.in_ok-refused.ensures.cyclic in
    subst (λ (g : Graph). IsCyclic g (order_on g mid.state (given_to f.pair f.side ∷ mid.decisions))) (sym c.force.ensures.graph) (subst (λ (x : FleetState). IsCyclic old.graph (order_on old.graph x (given_to f.pair f.side ∷ mid.decisions))) (sym c.force.ensures.state) h)

pub round-requires-clause-there : goal.round-requires-clause-there
round-requires-clause-there c =
    let old = c.args.self.now in
    let f = c.in-Some.refused in
    let k : IsForcing old.graph (order_on old.graph old.state c.force.new.self.decisions) f = some_at (λ (k : Forcing). IsForcing old.graph (order_on old.graph old.state c.force.new.self.decisions) k) c.in_ok-refused.field-0 f c.in-Some.is c.in_ok-refused.ensures.refused in
    subst (λ (g : Graph). f.pair.0 < length g.pairs) (sym c.force.ensures.graph) (mate_there old.graph f.mate.0 f.pair.0 k.mates)

pub returns-in-Some-clause-made : goal.returns-in-Some-clause-made
returns-in-Some-clause-made c =
    let old = c.args.self.now in
    let mid = c.force.new.self in
    let f = c.in-Some.refused in
    let k : IsForcing old.graph (order_on old.graph old.state mid.decisions) f = some_at (λ (k : Forcing). IsForcing old.graph (order_on old.graph old.state mid.decisions) k) c.in_ok-refused.field-0 f c.in-Some.is c.in_ok-refused.ensures.refused in
    λ way on has.
    round_at old mid c.round.new.self c.force.ensures.rules c.force.ensures.graph c.force.ensures.state c.force.new.forced c.in_ok-refused.ensures.decisions c.in_ok-refused.ensures.forced way on f c.push.new.self c.in_ok-stand.stand k c.in_ok-push.ensures.ok c.in_ok-stand.ensures.round c.round.ensures.same

pub returns-clause-made : goal.returns-clause-made
returns-clause-made c =
    let old = c.args.self.now in
    let mid = c.force.new.self in
    let keys = c.args.suspects.now.keys in
    λ way on has.
    let none = none_at (HasForced old.graph (order_on old.graph old.state old.decisions) keys → HasNoForcing old.graph (order_on old.graph old.state mid.decisions)) c.in_ok-refused.field-0 c.in_default.is c.in_ok-refused.ensures.out in
    waiting_at old mid c.weigh-cost.new.self c.force.ensures.rules c.force.ensures.graph c.force.ensures.state c.force.new.forced c.in_ok-refused.ensures.decisions c.in_ok-refused.ensures.forced way on c.weigh-cost.result (none has)
    c.weigh-cost.ensures.relaxed c.weigh-cost.ensures.weighed c.weigh-cost.ensures.back.graph c.weigh-cost.ensures.back.state
