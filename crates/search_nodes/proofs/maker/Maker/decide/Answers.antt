use Rattle.std.proofs.Common.{◌≡◌, ◌∷◌, ◌↔◌, false}
use Rattle.fleet_base.specs.Order.{IsCyclic}
use Rattle.fleet_base.specs.Rules.{IsFleetState}
use Rattle.longest_path.specs.Decisions.{order_on, IsFree}
use Rattle.search_nodes.specs.Forcing.{given_to}
use Rattle.search_nodes.proofs.Inside.{to_live, from_live, live_rules, with_live, same_whole, kept_making}
use Rattle.search_nodes.proofs.maker.Maker.decide.Goals as goal

pub decide-requires : goal.decide-requires
decide-requires c = to_live c.self.inside c.self.invariant c.args.self.now c.self.view_is (λ g x ds. IsFree g x ds c.args.q.0) c.requires

pub returns-clause-cyclic : goal.returns-clause-cyclic
returns-clause-cyclic c =
    from_live c.self.inside c.self.invariant c.args.self.now c.self.view_is (λ g x ds. (c.decide.result ≡ false) ↔ IsCyclic g (order_on g x (given_to c.args.q c.args.side ∷ ds))) c.decide.ensures.cyclic

pub invariant_of-self : goal.invariant_of-self
invariant_of-self c =
    let same = same_whole c.decide.result c.self.inside.live c.decide.new.self (given_to c.args.q c.args.side) c.decide.ensures.kept c.decide.ensures.refused in
    with_live c.self.inside c.self.invariant c.args.self.now c.self.view_is c.decide.new.self same.0 same.1

pub returns-clause-kept : goal.returns-clause-kept
returns-clause-kept c = λ t. kept_making c.self.inside c.args.self.now c.decide.new.self (given_to c.args.q c.args.side) c.self.view_is (c.decide.ensures.kept t)

pub returns-clause-rules : goal.returns-clause-rules
returns-clause-rules c = from_live c.self.inside c.self.invariant c.args.self.now c.self.view_is (λ g x ds. IsFleetState g x) (live_rules c.self.inside c.self.invariant c.args.self.now c.self.view_is)
