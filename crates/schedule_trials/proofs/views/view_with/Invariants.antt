use Rattle.std.proofs.Common.{◌≡◌}
use Rattle.schedule_trials.proofs.Sides.{AreGiven}
use Rattle.schedule_trials.proofs.views.view_with.Given as goal

abbrev pub invariant-loop-number : goal.invariant-loop-number
invariant-loop-number l = (l.view.graph ≡ l.graph) × AreGiven l.graph l.fleet l.view.sides l.number
