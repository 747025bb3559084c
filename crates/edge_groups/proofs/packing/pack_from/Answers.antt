use Rattle.std.proofs.Common.{◌≡◌, ◌<◌, ◌∙◌, List, length, subst, sym, ap, inr, arith, get_or}
use Rattle.std.proofs.lemmas.Grind.{get_or_default_zero}
use Rattle.fleet_base.specs.declared.order.PairId.{PairId}
use Rattle.edge_groups.specs.Kept.{rows_in}
use Rattle.edge_groups.specs.Packing.{IsPlaceOf}
use Rattle.edge_groups.proofs.Placing.{placed_more, first_placed, row_short}
use Rattle.edge_groups.proofs.packing.pack_from.Goals as goal

pub place-requires-clause-short : goal.place-requires-clause-short
place-requires-clause-short c = omega (arith, ap length c.row.ensures, row_short c.args.lists.now.mates.items c.args.lists.now.places.items c.loop-q.q)

pub loop-q-preserved-in-Some : goal.loop-q-preserved-in-Some
loop-q-preserved-in-Some c =
    let rows = rows_in c.args.lists.now in
    let lists = c.loop-q.packed in
    let q = c.loop-q.q in
    let there : q < length lists.places.items = omega (arith, c.loop-q-test.true, c.len.ensures, lists.places.ok.0) in
    let p = c.in_ok-place.ensures.places in
    let m = c.in_ok-place.ensures.mates in
    let unplaced : get_or lists.places.items q 0 ≡ 4294967295 = sym (c.index.ensures ∙ get_or_default_zero lists.places.items q c.index.result.now there) ∙ c.if-index.true in
    let of_row = subst (λ (row : List PairId). IsPlaceOf c.place.new.self.mates.items p.0 row) c.row.ensures p.3 in
    let made = placed_more rows lists c.place.new.self c.args.first q p.0 m.0 c.loop-q.invariant.0 there unplaced p.1 p.2 of_row m.1 m.2 in
    (made.0, inr (first_placed lists.places.items c.place.new.self.places.items q c.args.first c.loop-q.invariant.1 made.1 made.2))

pub loop-q-preserved : goal.loop-q-preserved
loop-q-preserved c =
    let rows = rows_in c.args.lists.now in
    let lists = c.loop-q.packed in
    let q = c.loop-q.q in
    let there : q < length lists.places.items = omega (arith, c.loop-q-test.true, c.len.ensures, lists.places.ok.0) in
    let p = c.in_ok-place.ensures.places in
    let m = c.in_ok-place.ensures.mates in
    let unplaced : get_or lists.places.items q 0 ≡ 4294967295 = sym (c.index.ensures ∙ get_or_default_zero lists.places.items q c.index.result.now there) ∙ c.if-index.true in
    let of_row = subst (λ (row : List PairId). IsPlaceOf c.place.new.self.mates.items p.0 row) c.row.ensures p.3 in
    let made = placed_more rows lists c.place.new.self c.args.first q p.0 m.0 c.loop-q.invariant.0 there unplaced p.1 p.2 of_row m.1 m.2 in
    (made.0, inr (first_placed lists.places.items c.place.new.self.places.items q c.args.first c.loop-q.invariant.1 made.1 made.2))
