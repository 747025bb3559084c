use Rattle.std.proofs.Common.{◌≡◌, take}
use Rattle.plan_scenes.proofs.plans.listed.Given as goal

abbrev pub invariant-loop-number : goal.invariant-loop-number
invariant-loop-number l = l.list.items ≡ take l.number l.table
