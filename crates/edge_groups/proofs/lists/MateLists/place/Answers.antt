use Rattle.std.proofs.Common.{ℕ, ◌≡◌, ◌+◌, ◌*◌, ◌-◌, ◌++◌, List, length, drop, take, sym, ap, ◌∙◌, subst, arith, set}
use Rattle.fleet_base.specs.declared.order.PairId.{PairId}
use Rattle.edge_groups.specs.Packing.{IsPlaceOf}
use Rattle.edge_groups.proofs.Placing.{row_placed, rest_of}
use Rattle.edge_groups.proofs.lists.MateLists.place.Goals as goal

pub returns-clause-places : goal.returns-clause-places
returns-clause-places c =
    let list = c.args.self.now.mates.items in
    let row = c.args.row.now in
    let shared = c.shared_end-shared.result in
    let start = c.len.result - shared in
    let same = c.deref.ensures.value in
    let appended = c.in_ok-append.ensures.mates ∙ ap (λ (rest : List PairId). list ++ rest) (rest_of row shared) in
    let whole : length c.deref.result.now ≡ length list = ap length same in
    let long : c.len.result ≡ length list = c.len.ensures ∙ c.args.self.now.mates.ok.0 in
    let ends = subst (λ (l : List PairId). drop (length l - shared) l ≡ take shared row) same c.shared_end-shared.ensures.same in
    let made = row_placed list row shared start (omega (arith, c.shared_end-shared.ensures.list, whole)) c.shared_end-shared.ensures.row c.requires.short c.requires.room (ap (λ (n : ℕ). n - shared) long) ends in (
      start * 8 + length row,
      ap (λ (places : List ℕ). set places c.args.q (start * 8 + length row)) c.in_ok-append.ensures.places,
      made.0,
      subst (λ (l : List PairId). IsPlaceOf l (start * 8 + length row) row) (sym appended) made.1,
    )
