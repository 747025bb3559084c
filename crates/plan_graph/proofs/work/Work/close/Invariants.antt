use Rattle.std.proofs.Common.{ℕ, ◌≡◌, ◌+◌, ◌≤◌, [], ◌∷◌, ◌++◌}
use Rattle.std.specs.Prelude.{reverse, vec_len}
use Rattle.std.specs.Vec.{vec_capacity}
use Rattle.fleet_base.specs.declared.order.PairId.{PairId}
use Rattle.plan_graph.specs.declared.work.Work.{Work}
use Rattle.plan_graph.specs.Working.{KeepsRoom, pairs_back}
use Rattle.plan_graph.proofs.work.Work.close.Given as goal

-- the pairs so far, and those that are left, are those of the cycle
pub record IsClosing (old new : Work) (pair : PairId) (robot : ℕ) : Type 0 where
  pub cycle : new.cycle.items ++ pairs_back (reverse new.waiting.items) robot ≡ pair ∷ pairs_back (reverse old.waiting.items) robot
  pub no_order : new.order.items ≡ []
  pub room : KeepsRoom old new
  pub few : vec_len new.cycle + vec_len new.waiting ≤ vec_capacity new.cycle

abbrev pub invariant-loop-waiting : goal.invariant-loop-waiting
invariant-loop-waiting l = IsClosing l.fn.self l.self l.fn.pair l.robot

abbrev pub decreases-loop-waiting : goal.decreases-loop-waiting
decreases-loop-waiting l = vec_len l.self.waiting
