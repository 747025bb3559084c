use Rattle.std.proofs.Common.{ℕ, ◌≡◌, ◌<◌, ◌+◌, ◌↔◌, Bool, true, false, IsTrue, List, [], ◌∷◌, All, length, get_or, take, ap, sym, subst, refl, arith}
use Rattle.std.proofs.lemmas.Bool.{both_ways}
use Rattle.std.proofs.lemmas.List.{take_all}
use Rattle.std.proofs.lemmas.List.Elements.{All-more}
use Rattle.archive_keep.specs.declared.ends.RobotEnd.{RobotEnd}
use Rattle.archive_keep.specs.Rows.{IsEnd, IsStorable}
use Rattle.archive_keep.proofs.ends.is_storable.Goals as goal

not_empty : {X : Type 0} (xs : List X) (empty : Bool) → (IsTrue empty ↔ (xs ≡ [])) → empty ≡ false → 0 < length xs
not_empty [] empty means isnt = absurd (both_ways empty isnt (means.1 refl))
not_empty (x ∷ xs) empty means isnt = omega arith

pub loop-ticks-preserved : goal.loop-ticks-preserved
loop-ticks-preserved c =
    let ends = c.args.ends.now in
    let i = c.loop-ticks.ticks-index in
    let items = c.as_slice-ticks-items.ensures in
    let none : RobotEnd = record { planned = 0; actual = 0 } in
    let one : IsEnd (get_or c.as_slice-ticks-items.result.now i none) = record { planned_bound = omega (arith, c.if-ticks-from.false, c.from-in-loop-ticks.ensures); actual_bound = omega (arith, c.if-ticks-gt-MOMENT.false) } in
    All-more IsEnd ends i none (omega (arith, c.loop-ticks-test.true, ap length items)) c.loop-ticks.invariant (subst (λ (l : List RobotEnd). IsEnd (get_or l i none)) items one)

pub returns-clause-storable : goal.returns-clause-storable
returns-clause-storable c = λ e.
    let ends = c.args.ends.now in
    record {
      some = not_empty ends c.is_empty.result c.is_empty.ensures c.if-is_empty.false;
      few = omega (arith, c.if-len-from.false, c.len.ensures, c.from.ensures);
      within = subst (All IsEnd) (take_all c.loop-ticks.ticks-index ends (omega (arith, c.loop-ticks-test.false, ap length c.as_slice-ticks-items.ensures))) c.loop-ticks.invariant;
    }
