use Rattle.std.proofs.Common.{◌≡◌, take}
use Rattle.fleet_base.specs.Plan.{visits_of}
use Rattle.fleet_base.proofs.plan.SoundPlan.from_raw.Given as goal

abbrev pub invariant-loop-robot : goal.invariant-loop-robot
invariant-loop-robot l = l.routes ≡ visits_of (take l.robot l.raw)
