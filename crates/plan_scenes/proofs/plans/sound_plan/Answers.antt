use Rattle.plan_text.proofs.Robots.{read_plan_has_robots}
use Rattle.plan_scenes.proofs.plans.sound_plan.Goals as goal

pub check-requires-clause-paths : goal.check-requires-clause-paths
check-requires-clause-paths c = (read_plan_has_robots _ _ c.in_ok-raw.ensures).cells
