use Rattle.std.proofs.Common.{ℕ, ◌≡◌, ◌<◌, ◌≤◌, Some, Option, sym, arith, length}
use Rattle.std.proofs.lemmas.Option.{slice_get_past}
use Rattle.fleet_base.specs.declared.order.Side.{Side}
use Rattle.fleet_base.specs.State.{order_at}
use Rattle.search_nodes.proofs.Views.{oriented, none_written, next_written, view_is}
use Rattle.search_nodes.proofs.maker.state_view.Goals as goal

pub loop-number-init : goal.loop-number-init
loop-number-init c = none_written c.args.graph.now (λ q o. o ≡ order_at c.args.graph.now c.args.fleet.now q) c.in_ok-view.view (oriented c.args.graph.now c.in_ok-view.view c.in_ok-view.ensures)

pub side-requires : goal.side-requires
side-requires c = omega (arith, c.loop-number-test.true, c.pair_count-number-end.ensures, c.requires.state.fleet.sides)

pub loop-number-preserved : goal.loop-number-preserved
loop-number-preserved c =
    let g = c.args.graph.now in
    let P : ℕ → Option Side → Type 0 = λ q o. o ≡ order_at g c.args.fleet.now q in
    let n = c.loop-number.number in
    let lt : n < length g.pairs = omega (arith, c.loop-number-test.true, c.pair_count-number-end.ensures) in
    next_written g P n c.loop-number.view c.set.new.self (Some c.side.result) lt (sym c.side.ensures) c.set.ensures c.loop-number.invariant

pub returns-clause-order : goal.returns-clause-order
returns-clause-order c =
    let g = c.args.graph.now in
    let x = c.args.fleet.now in
    let all : length g.pairs ≤ c.loop-number.number = omega (arith, c.loop-number-test.false, c.pair_count-number-end.ensures) in
    view_is g (order_at g x) c.loop-number.number c.loop-number.view all (λ q le. slice_get_past x.sides q (omega (arith, le, c.requires.state.fleet.sides))) c.loop-number.invariant
