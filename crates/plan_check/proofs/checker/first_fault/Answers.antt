use Rattle.std.proofs.Common.{ℕ, ◌≡◌, ◌+◌, ◌-◌, Option, arith, subst}
use Rattle.std.specs.Prelude.{MatchOption, ⊤}
use Rattle.plan_check.specs.declared.fault.Unsound.{Unsound}
use Rattle.plan_check.specs.Faults.{IsFirstFault}
use Rattle.plan_check.specs.Occupants.{HasOccupants}
use Rattle.plan_check.specs.Ticks.{NoneBefore}
use Rattle.plan_check.proofs.Steps.{none_at_end}
use Rattle.plan_check.proofs.checker.first_fault.Goals as goal

pub loop-tick-preserved : goal.loop-tick-preserved
loop-tick-preserved c =
    let e : c.loop-tick.tick ≡ c.loop-tick.tick + 1 - 1 = omega arith in
    let none = subst (λ (o : Option Unsound). MatchOption o (NoneBefore c.args.grid.now c.args.raw.now (c.loop-tick.tick + 1) 1) (IsFirstFault c.args.grid.now c.args.raw.now)) c.in_default-2.is c.in_ok-fault.ensures.fault in
    let here = subst (λ (o : Option Unsound). MatchOption o (HasOccupants c.fault_at.new.occupants c.args.raw.now c.loop-tick.tick 0) (λ _. ⊤)) c.in_default-2.is c.in_ok-fault.ensures.occupants in
    record {
      none = none;
      former = λ later. subst (λ (t : ℕ). HasOccupants c.fault_at.new.occupants c.args.raw.now t 0) e here;
    }

pub returns : goal.returns
returns c =
    let end : c.loop-tick.tick ≡ c.listed_ticks-tick-end.result = omega arith in
    let none = subst (λ (t : ℕ). NoneBefore c.args.grid.now c.args.raw.now t 1) end c.loop-tick.invariant.none in
    none_at_end c.args.grid.now c.args.raw.now c.listed_ticks-tick-end.result c.listed_ticks-tick-end.ensures.some c.listed_ticks-tick-end.ensures.all none
