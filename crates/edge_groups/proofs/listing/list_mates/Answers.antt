use Rattle.std.proofs.Common.{◌≡◌, ◌+◌, List, [], ◌∷◌, sym, ap, ◌∙◌, subst, arith, length, length-append}
use Rattle.fleet_base.specs.declared.order.PairId.{PairId}
use Rattle.fleet_base.specs.Lists.{row_of}
use Rattle.fleet_base.proofs.GraphLaws.{length-map}
use Rattle.edge_groups.specs.Kept.{rows_in, mates_at}
use Rattle.edge_groups.specs.Mates.{AreMatesOf}
use Rattle.edge_groups.proofs.Rows.{ready_next, rows_more}
use Rattle.edge_groups.proofs.listing.list_mates.Goals as goal

pub loop-q-preserved : goal.loop-q-preserved
loop-q-preserved c =
    let now = c.loop-q.invariant in
    let made = c.in_ok-list.ensures.row in
    let before : length (rows_in c.loop-q.lists) ≡ c.loop-q.q = length-map (mates_at c.loop-q.lists.mates.items) c.loop-q.lists.places.items ∙ now.1 in
    let after : length (rows_in c.list.new.lists) ≡ c.loop-q.q + 1 = ap length made.1 ∙ omega (arith, before, length-append (rows_in c.loop-q.lists) (made.0 ∷ [])) in (
      c.in_ok-list.ensures.kept,
      sym (length-map (mates_at c.list.new.lists.mates.items) c.list.new.lists.places.items) ∙ after,
      λ there. ready_next c.args.graph.now c.robots-plan.ensures.plan c.list.new.self c.loop-q.q there c.in_ok-list.ensures.ready,
      λ k lt. subst (λ (rows : List (List PairId)). AreMatesOf c.args.graph.now k (row_of rows k)) (sym made.1) (rows_more c.args.graph.now (rows_in c.loop-q.lists) made.0 c.loop-q.q before now.3 made.2 k lt),
    )

pub returns-clause-mates : goal.returns-clause-mates
returns-clause-mates c =
    let now = c.loop-q.invariant in
    let all : c.loop-q.q ≡ length c.args.graph.now.pairs = omega (arith, c.loop-q-test.false, c.loop-q.auto.q-end, c.pair_count-q-end.ensures) in
    record { count = length-map (mates_at c.loop-q.lists.mates.items) c.loop-q.lists.places.items ∙ now.1 ∙ all; lists = λ k lt. now.3 k (omega (arith, lt, all)) }
