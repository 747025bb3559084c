use Rattle.std.proofs.Common.{ℕ, ◌≡◌, ◌<◌, []}
use Rattle.std.specs.Prelude.{slice_index}
use Rattle.fleet_base.specs.Order.{last_in}
use Rattle.plan_graph.specs.declared.work.Work.{Work}
use Rattle.plan_graph.specs.Views.{OrientedGraph}
use Rattle.plan_graph.specs.Working.{IsAtWork}
use Rattle.plan_graph.proofs.work.Work.run.Given as goal

-- the visits of all robots before this one are listed, and none waits
pub record IsRunning (view : OrientedGraph) (w : Work) (robot : ℕ) : Type 0 where
  pub work : IsAtWork view w robot
  pub alone : w.waiting.items ≡ []
  pub done : (j : ℕ) → j < robot → last_in view.graph j < slice_index w.listed.items j

abbrev pub invariant-loop-robot : goal.invariant-loop-robot
invariant-loop-robot l = IsRunning l.view l.self l.robot
