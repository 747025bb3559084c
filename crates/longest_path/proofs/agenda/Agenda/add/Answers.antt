use Rattle.std.proofs.Common.{ℕ, ◌≡◌, ◌+◌, ◌<◌, ◌≤◌, List, ◌∷◌, Bool, true, false, sym, ap, ◌∙◌, subst, arith, length}
use Rattle.std.specs.BinaryHeap.{heap_items, heap_len, heap_capacity}
use Rattle.std.specs.List.Sorted.{IsPermutation}
use Rattle.std.proofs.lemmas.List.Sorted.{length_permutation}
use Rattle.longest_path.specs.Cells.{HasCell, put, is_marked, mark_count, cell_count}
use Rattle.longest_path.specs.declared.agenda.Waiting.{Waiting}
use Rattle.longest_path.proofs.Cells.{count_put}
use Rattle.longest_path.proofs.Agendas.{Waits, waits_pushed, waits_marked, room_for_one, count_added, count_again}
use Rattle.longest_path.proofs.Outcomes.{where_ok, never_both}
use Rattle.longest_path.proofs.agenda.Agenda.add.Goals as goal

pub unreachable-requires : goal.unreachable-requires
unreachable-requires c =
    let i = c.self.invariant in
    let has : HasCell c.self.inside.marks c.args.v = subst (λ (m : List (List Bool)). HasCell m c.args.v) (sym c.self.view_is) c.requires in
    let none : is_marked c.self.inside.marks c.args.v ≡ false = sym c.if-not-has.ensures in
    let lt = room_for_one c.self.inside.marks c.args.v (heap_len c.self.inside.heap) (heap_capacity c.self.inside.heap) has none i.few i.room in
    never_both c.push.result (c.push.ensures.succeeds lt) (sym c.is_err.ensures.value ∙ c.if-is_err.true)

pub invariant_of-self : goal.invariant_of-self
invariant_of-self c =
    let i = c.self.invariant in
    let has : HasCell c.self.inside.marks c.args.v = subst (λ (m : List (List Bool)). HasCell m c.args.v) (sym c.self.view_is) c.requires in
    let marks = c.self.inside.marks in
    let v = c.args.v in
    let old = c.self.inside.heap in
    let w : Waiting = record { tick = record { 0 = c.args.tick }; visit = v } in
    let none : is_marked marks v ≡ false = sym c.if-not-has.ensures in
    let len : heap_len c.push.new.self ≡ heap_len old + 1 = where_ok (heap_len c.push.new.self ≡ heap_len old + 1) c.push.result (λ e. cc) c.push.ensures.len in
    let moved : IsPermutation (w ∷ heap_items old) (heap_items c.push.new.self) = where_ok (IsPermutation (w ∷ heap_items old) (heap_items c.push.new.self)) c.push.result (λ e. cc) c.push.ensures.permutation in
    let cells = ap (λ (m : List (List Bool)). cell_count m) c.set_in.ensures in
    let count = ap (λ (m : List (List Bool)). mark_count m) c.set_in.ensures in
    record {
      room = omega (arith, cells, count_put marks v true has, i.room, c.push.ensures.capacity);
      length = omega (arith, length_permutation (w ∷ heap_items old) (heap_items c.push.new.self) moved, len, i.length);
      few = omega (arith, count, count_added marks v has none, len, i.few);
      each = subst (λ (m : List (List Bool)). Waits (heap_items c.push.new.self) m) (sym c.set_in.ensures) (waits_pushed (heap_items old) (heap_items c.push.new.self) marks w has moved i.each);
    }
