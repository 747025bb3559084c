use Rattle.std.proofs.Common.{◌+◌, [], List, subst, sym, take}
use Rattle.fleet_base.specs.declared.order.PairId.{PairId}
use Rattle.fleet_base.proofs.PairNumbers.{AreNoted, none_noted, listed_at, lower_has_list, higher_has_list, next_noted}
use Rattle.fleet_base.proofs.pairs.PairTable.from_list.Goals as goal

pub loop-number-init : goal.loop-number-init
loop-number-init c = subst (λ (ns : List (List (List PairId))). AreNoted ns c.args.plan.now []) (sym c.in_ok-numbers.ensures) (none_noted c.args.plan.now)

pub note_pair-requires-clause-lower : goal.note_pair-requires-clause-lower
note_pair-requires-clause-lower c = lower_has_list c.loop-number.numbers.items c.args.plan.now (take c.loop-number.number c.args.list.now) _ c.loop-number.invariant (listed_at c.args.plan.now c.args.list.now c.loop-number.number _ c.requires.all c.loop-number-test.true)

pub note_pair-requires-clause-higher : goal.note_pair-requires-clause-higher
note_pair-requires-clause-higher c = higher_has_list c.loop-number.numbers.items c.args.plan.now (take c.loop-number.number c.args.list.now) _ c.loop-number.invariant (listed_at c.args.plan.now c.args.list.now c.loop-number.number _ c.requires.all c.loop-number-test.true)

pub loop-number-preserved : goal.loop-number-preserved
loop-number-preserved c =
    subst (λ (ns : List (List (List PairId))). AreNoted ns c.args.plan.now (take (c.loop-number.number + 1) c.args.list.now)) (sym c.in_ok-note_pair.ensures)
    (next_noted c.loop-number.numbers.items c.args.plan.now c.args.list.now c.loop-number.number _ c.requires.all c.loop-number-test.true c.loop-number.invariant)
