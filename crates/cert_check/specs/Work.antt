-- What the checkers work on, and what they leave as it is.
use Rattle.std.specs.Prelude.{◌≡◌, ◌+◌, ◌≤◌, length, map, vec_len}
use Rattle.std.specs.Vec.{vec_capacity}
use Rattle.fleet_base.specs.Order.{Graph}
use Rattle.fleet_base.specs.VisitRows.{KeepsRows}
use Rattle.edge_groups.specs.Mates.{AreAllMates}
use Rattle.cert_check.specs.declared.workspace.Workspace.{Workspace}

-- it was made for the graph
pub record IsWorkFor (g : Graph) (w : Workspace) : Type 0 where
  pub sides : vec_len w.way.sides ≡ length g.pairs
  pub steps : vec_len w.way.sides ≤ vec_capacity w.way.steps
  pub ticks : map length w.ticks ≡ map (λ last. last + 1) g.lasts
  pub sums : map length w.sums ≡ map (λ last. last + 1) g.lasts
  pub groups : AreAllMates g w.groups
  pub taken : vec_len w.taken ≡ length g.pairs

-- it is as large as it was, and its groups are the same
pub record KeepsWork (old new : Workspace) : Type 0 where
  pub sides : vec_len new.way.sides ≡ vec_len old.way.sides
  pub steps : vec_len new.way.sides ≤ vec_capacity new.way.steps
  pub ticks : KeepsRows old.ticks new.ticks
  pub sums : KeepsRows old.sums new.sums
  pub groups : new.groups ≡ old.groups
  pub taken : vec_len new.taken ≡ vec_len old.taken
