use Rattle.std.proofs.Common.{ℕ, ◌≡◌, List, map, length, subst, ap, ◌∙◌, arith}
use Rattle.fleet_base.specs.declared.order.PairId.{PairId}
use Rattle.edge_groups.specs.Kept.{rows_in, mates_at}
use Rattle.edge_groups.specs.Packing.{IsPacking}
use Rattle.edge_groups.proofs.Placing.{packed_rows}
use Rattle.edge_groups.proofs.packing.pack.Goals as goal

pub returns-clause-rows : goal.returns-clause-rows
returns-clause-rows c =
    let now = c.loop-first.invariant in
    let all : c.loop-first.first ≡ length (rows_in c.args.lists.now) = omega (arith, c.loop-first-test.false, c.loop-first.auto.first-end, now.1, now.0.count) in
    ap (λ (ms : List PairId). map (mates_at ms) c.loop-first.packed.places.items) c.shrink_to_fit.ensures.items
    ∙ packed_rows (rows_in c.args.lists.now) c.loop-first.packed (subst (λ (n : ℕ). IsPacking (rows_in c.args.lists.now) c.loop-first.packed n) all now.0)
