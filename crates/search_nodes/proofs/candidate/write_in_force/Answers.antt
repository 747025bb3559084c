use Rattle.std.proofs.Common.{ℕ, ◌≡◌, ◌<◌, ◌≤◌, Option, ap, ◌∙◌, arith, length}
use Rattle.fleet_base.specs.declared.order.Side.{Side}
use Rattle.fleet_base.specs.Order.{Graph}
use Rattle.longest_path.specs.Deciding.{order_in_force}
use Rattle.search_nodes.proofs.Sides.{none_past}
use Rattle.search_nodes.proofs.Views.{none_written, next_written, view_is}
use Rattle.search_nodes.proofs.candidate.write_in_force.Goals as goal

pub loop-number-init : goal.loop-number-init
loop-number-init c = none_written c.args.live.now.graph (λ q o. o ≡ order_in_force c.args.live.now q) c.args.view.now c.requires.view

pub loop-number-preserved : goal.loop-number-preserved
loop-number-preserved c =
    let g = c.args.live.now.graph in
    let P : ℕ → Option Side → Type 0 = λ q o. o ≡ order_in_force c.args.live.now q in
    let n = c.loop-number.number in
    let same : c.graph.result.now ≡ g = c.graph.ensures ∙ c.requires.view.graph in
    let count = ap (λ (h : Graph). length h.pairs) same in
    let lt : n < length g.pairs = omega (arith, c.loop-number-test.true, c.pair_count-number-end.ensures, count) in
    next_written g P n c.loop-number.view c.set.new.self c.side.result lt c.side.ensures c.set.ensures c.loop-number.invariant

pub returns-clause-order : goal.returns-clause-order
returns-clause-order c =
    let g = c.args.live.now.graph in
    let same : c.graph.result.now ≡ g = c.graph.ensures ∙ c.requires.view.graph in
    let count = ap (λ (h : Graph). length h.pairs) same in
    let all : length g.pairs ≤ c.loop-number.number = omega (arith, c.loop-number-test.false, c.pair_count-number-end.ensures, count) in
    view_is g (order_in_force c.args.live.now) c.loop-number.number c.loop-number.view all (none_past g c.args.live.now.state c.args.live.now.decisions c.requires.state) c.loop-number.invariant
