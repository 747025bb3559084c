use Rattle.std.proofs.Common.{◌≡◌, ◌<◌, ◌∷◌, None, sym, length}
use Rattle.fleet_base.specs.Order.{IsCycle, IsCyclic}
use Rattle.longest_path.specs.Decisions.{order_on}
use Rattle.longest_path.specs.Ticks.{IsKeptFor}
use Rattle.search_nodes.specs.Forcing.{given_to}
use Rattle.search_nodes.proofs.Inside.{to_live, from_live, live_rules, candidate_live}
use Rattle.search_nodes.proofs.maker.Maker.round.Goals as goal

pub cycle_with-requires : goal.cycle_with-requires
cycle_with-requires c =
    let m = c.self.inside in
    let i = c.self.invariant in
    let now = c.args.self.now in
    let e = c.self.view_is in
    let q = c.args.q in
    record {
      state = live_rules m i now e;
      fleet = sym i.live_state;
      view = candidate_live m i now e;
      room = to_live m i now e (λ g x ds. IsKeptFor g c.args.ticks.now) c.requires.room;
      none = to_live m i now e (λ g x ds. order_on g x ds q.0 ≡ None) c.requires.none;
      there = to_live m i now e (λ g x ds. q.0 < length g.pairs) c.requires.there;
      cyclic = to_live m i now e (λ g x ds. IsCyclic g (order_on g x (given_to q c.args.side ∷ ds))) c.requires.cyclic;
    }

pub returns-clause-round : goal.returns-clause-round
returns-clause-round c =
    let q = c.args.q in
    from_live c.self.inside c.self.invariant c.args.self.now c.self.view_is (λ g x ds. IsCycle g (order_on g x (given_to q c.args.side ∷ ds)) c.in_ok-cycle.cycle) c.in_ok-cycle.ensures.cycle
