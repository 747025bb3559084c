use Rattle.std.proofs.Common.{◌≡◌, ◌++◌, take, drop}
use Rattle.std.specs.List.{AllByRecursion}
use Rattle.plan_text.specs.PlanText.{IsWritable, plan_text_from, plan_text_of}
use Rattle.plan_text.proofs.writer.write_plan.Given as goal

abbrev pub invariant-loop-robot : goal.invariant-loop-robot
invariant-loop-robot l =
    (l.text ++ plan_text_from l.robot (drop l.robot l.plan) ≡ plan_text_of l.plan) × AllByRecursion IsWritable (take l.robot l.plan)
