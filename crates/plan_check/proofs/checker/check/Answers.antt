use Rattle.std.proofs.Common.{Option, subst}
use Rattle.std.specs.Prelude.{MatchOption}
use Rattle.plan_check.specs.declared.fault.Unsound.{Unsound}
use Rattle.plan_check.specs.Faults.{IsFaultless, IsFirstFault}
use Rattle.plan_check.proofs.Accepted.{faultless_accepted}
use Rattle.plan_check.proofs.checker.check.Goals as goal

pub from_raw-requires : goal.from_raw-requires
from_raw-requires c =
    let faultless = subst (λ (o : Option Unsound). MatchOption o (IsFaultless c.args.grid.now c.args.raw.now) (IsFirstFault c.args.grid.now c.args.raw.now)) c.in-None.is c.in_ok-first_fault.ensures in
    faultless_accepted c.args.grid.now c.args.raw.now (record { robots = c.requires.robots; cells = c.requires.paths }) faultless

pub returns-in_ok-from_raw-in-None-clause-accepted : goal.returns-in_ok-from_raw-in-None-clause-accepted
returns-in_ok-from_raw-in-None-clause-accepted c =
    let faultless = subst (λ (o : Option Unsound). MatchOption o (IsFaultless c.args.grid.now c.args.raw.now) (IsFirstFault c.args.grid.now c.args.raw.now)) c.in-None.is c.in_ok-first_fault.ensures in
    faultless_accepted c.args.grid.now c.args.raw.now (record { robots = c.requires.robots; cells = c.requires.paths }) faultless
