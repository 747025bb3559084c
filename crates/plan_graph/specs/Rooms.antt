-- A room as it is kept.
use Rattle.std.specs.Prelude.{◌≡◌, ◌≤◌, vec_len}
use Rattle.std.specs.Vec.{vec_capacity}
use Rattle.plan_graph.specs.declared.work.Work.{Work}

-- there is as much room for each purpose
pub record IsRoom (w : Work) : Type 0 where
  pub passed : vec_len w.passed ≡ vec_len w.listed
  pub place : vec_len w.place ≡ vec_len w.listed
  pub waiting : vec_len w.listed ≤ vec_capacity w.waiting
  pub cycle : vec_len w.listed ≤ vec_capacity w.cycle
