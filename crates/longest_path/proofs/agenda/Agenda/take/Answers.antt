use Rattle.std.proofs.Common.{ℕ, ◌≡◌, ◌+◌, ◌<◌, ◌≤◌, List, ◌∷◌, Bool, true, false, sym, ap, ◌∙◌, subst, arith, length}
use Rattle.std.specs.BinaryHeap.{heap_items, heap_len, heap_capacity}
use Rattle.std.proofs.lemmas.List.Sorted.{length_permutation}
use Rattle.fleet_base.specs.declared.geometry.Visit.{Visit}
use Rattle.longest_path.specs.Cells.{put, is_marked, mark_count, cell_count}
use Rattle.longest_path.proofs.Cells.{count_put, marked_cell}
use Rattle.longest_path.proofs.Agendas.{Waits, none_waits, waits_dropped, waits_taken, count_taken}
use Rattle.longest_path.proofs.agenda.Agenda.take.Goals as goal

pub invariant_of-self : goal.invariant_of-self
invariant_of-self c =
    let i = c.loop-next.invariant.1 in
    let marks = c.loop-next.self-inside.marks in
    let old = c.loop-next.self-inside.heap in
    let w = c.in-Some.next in
    let here : is_marked marks w.visit ≡ true = sym c.if-is_marked.ensures in
    let has = marked_cell marks w.visit here in
    let cells = ap (λ (m : List (List Bool)). cell_count m) c.set_in.ensures in
    let count = ap (λ (m : List (List Bool)). mark_count m) c.set_in.ensures in
    record {
      room = omega (arith, cells, count_put marks w.visit false has, i.room, c.in-Some.ensures.capacity);
      length = omega (arith, length_permutation (heap_items old) (w ∷ heap_items c.pop.new.self) c.in-Some.ensures.permutation, c.in-Some.ensures.len, i.length);
      few = omega (arith, count, count_taken marks w.visit has here, c.in-Some.ensures.len, i.few);
      each = subst (λ (m : List (List Bool)). Waits (heap_items c.pop.new.self) m) (sym c.set_in.ensures) (waits_taken (heap_items old) (heap_items c.pop.new.self) marks w has c.in-Some.ensures.permutation i.each);
    }

pub loop-next-preserved : goal.loop-next-preserved
loop-next-preserved c =
    let i = c.loop-next.invariant.1 in
    let marks = c.loop-next.self-inside.marks in
    let old = c.loop-next.self-inside.heap in
    let w = c.in-Some.next in
    let none : is_marked marks w.visit ≡ false = sym c.if-is_marked.ensures in (
      c.loop-next.invariant.0,
      record {
        room = omega (arith, i.room, c.in-Some.ensures.capacity);
        length = omega (arith, length_permutation (heap_items old) (w ∷ heap_items c.pop.new.self) c.in-Some.ensures.permutation, c.in-Some.ensures.len, i.length);
        few = omega (arith, c.in-Some.ensures.len, i.few);
        each = waits_dropped (heap_items old) (heap_items c.pop.new.self) marks w none c.in-Some.ensures.permutation i.each;
      },
    )

pub invariant_of-self-in_default : goal.invariant_of-self-in_default
invariant_of-self-in_default c =
    let i = c.loop-next.invariant.1 in
    let same = c.in_default.ensures.unchanged in
    record {
      room = omega (arith, i.room, c.in_default.ensures.capacity);
      length = omega (arith, ap length same.0, same.1, i.length);
      few = omega (arith, same.1, i.few);
      each = subst (λ items. Waits items c.loop-next.self-inside.marks) (sym same.0) i.each;
    }

pub returns-clause-none : goal.returns-clause-none
returns-clause-none c =
    let i = c.loop-next.invariant.1 in
    let none = none_waits (heap_items c.loop-next.self-inside.heap) c.loop-next.self-inside.marks i.each (omega (arith, i.length, c.in_default.ensures.none)) in
    λ v. sym (ap (λ (m : List (List Bool)). is_marked m v) (c.loop-next.invariant.0 ∙ c.self.view_is)) ∙ none v
