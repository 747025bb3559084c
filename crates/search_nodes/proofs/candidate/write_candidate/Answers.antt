use Rattle.std.proofs.Common.{◌≡◌, ◌<◌, Some, refl, ap, ◌∙◌, arith, length}
use Rattle.fleet_base.specs.Order.{Graph}
use Rattle.longest_path.specs.Deciding.{order_in_force}
use Rattle.search_nodes.proofs.Views.{HasCandidateSide, none_written, next_written}
use Rattle.search_nodes.proofs.candidate.write_candidate.Goals as goal

pub loop-number-init : goal.loop-number-init
loop-number-init c = none_written c.args.live.now.graph (HasCandidateSide c.args.live.now.graph c.args.live.now.state (order_in_force c.args.live.now)) c.args.view.now c.requires.view

pub loop-number-preserved : goal.loop-number-preserved
loop-number-preserved c =
    let g = c.args.live.now.graph in
    let P = HasCandidateSide g c.args.live.now.state (order_in_force c.args.live.now) in
    let n = c.loop-number.number in
    let same : c.graph-graph.result.now ≡ g = c.graph-graph.ensures ∙ c.requires.view.graph in
    let count = ap (λ (h : Graph). length h.pairs) same in
    let lt : n < length g.pairs = omega (arith, c.loop-number-test.true, c.pair_count-number-end.ensures, count) in
    let side : P n (Some c.candidate_side-side.result) = (c.candidate_side-side.result, refl, c.candidate_side-side.ensures) in
    next_written g P n c.loop-number.view c.set.new.self (Some c.candidate_side-side.result) lt side c.set.ensures c.loop-number.invariant
