use Rattle.std.proofs.Common.{ℕ, ◌≡◌, ◌<◌}
use Rattle.std.specs.Prelude.{reverse, length}
use Rattle.plan_graph.specs.declared.work.Work.{Work}
use Rattle.plan_graph.specs.Views.{OrientedGraph}
use Rattle.plan_graph.specs.Listing.{bottom}
use Rattle.plan_graph.specs.Working.{IsAtWork, ListsMore, steps_left}
use Rattle.plan_graph.proofs.work.Work.list_robot.Given as goal

-- a robot is at work, and the one that began is this one
pub record IsListingRobot (view : OrientedGraph) (old new : Work) (robot at_work : ℕ) : Type 0 where
  pub work : IsAtWork view new at_work
  pub begun : bottom (reverse new.waiting.items) at_work ≡ robot
  pub there : robot < length view.graph.lasts
  pub more : ListsMore old.listed.items new.listed.items

abbrev pub invariant-loop-self : goal.invariant-loop-self
invariant-loop-self l = IsListingRobot l.view l.fn.self l.self l.robot l.at_work

abbrev pub decreases-loop-self : goal.decreases-loop-self
decreases-loop-self l = steps_left l.view.graph l.self.listed.items l.self.waiting.items
