use Rattle.std.proofs.Common.{◌<◌, ◌≤◌, ap, arith, length}
use Rattle.fleet_base.specs.Order.{Graph}
use Rattle.longest_path.specs.Deciding.{order_in_force}
use Rattle.search_nodes.proofs.Suspects.{none_forced_to, more_forced_to, all_forced_to}
use Rattle.search_nodes.proofs.forcing.forced_pairs.Goals as goal

pub loop-number-init : goal.loop-number-init
loop-number-init c = none_forced_to c.args.live.now.graph (order_in_force c.args.live.now) c.new-suspects.result.keys c.new-suspects.ensures.empty

pub loop-number-preserved : goal.loop-number-preserved
loop-number-preserved c =
    let g = c.args.live.now.graph in
    let lt : c.loop-number.number < length g.pairs = let e = ap (λ (h : Graph). length h.pairs) c.requires.graph in omega (arith, c.loop-number-test.true, c.pair_count-number-end.ensures, e) in
    more_forced_to g (order_in_force c.args.live.now) c.loop-number.number c.loop-number.suspects.keys c.suspect_forced.new.suspects.keys lt c.loop-number.invariant c.in_ok-suspect_forced.ensures.has c.suspect_forced.ensures.stay c.suspect_forced.ensures.only

pub returns-clause-forced : goal.returns-clause-forced
returns-clause-forced c =
    let g = c.args.live.now.graph in
    let all : length g.pairs ≤ c.loop-number.number = let e = ap (λ (h : Graph). length h.pairs) c.requires.graph in omega (arith, c.loop-number-test.false, c.pair_count-number-end.ensures, e) in
    all_forced_to g (order_in_force c.args.live.now) c.loop-number.number c.loop-number.suspects.keys all c.loop-number.invariant
