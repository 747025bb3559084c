use Rattle.plan_check.specs.Occupants.{HasOccupants, SharesFrom}
use Rattle.plan_check.specs.Ticks.{IsFirstPair}
use Rattle.plan_check.proofs.occupants.occupants_at.Given as goal

abbrev pub invariant-loop-robot : goal.invariant-loop-robot
invariant-loop-robot l = record { occupants : HasOccupants l.occupants l.raw l.tick l.robot; share : IsFirstPair (SharesFrom l.raw l.tick l.robot) l.share }
