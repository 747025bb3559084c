-- What the checkers work on stays as large as it was.
use Rattle.std.proofs.Common.{List, sym, ◌∙◌, subst}
use Rattle.fleet_base.specs.declared.order.PairId.{PairId}
use Rattle.fleet_base.specs.Order.{Graph}
use Rattle.edge_groups.specs.Mates.{AreAllMates}
use Rattle.cert_check.specs.declared.workspace.Workspace.{Workspace}
use Rattle.cert_check.specs.Work.{IsWorkFor, KeepsWork}

pub work_kept : (g : Graph) (old new : Workspace) → IsWorkFor g old → KeepsWork old new → IsWorkFor g new
work_kept g old new w keeps = record {
  sides = keeps.sides ∙ w.sides;
  steps = keeps.steps;
  ticks = keeps.ticks ∙ w.ticks;
  sums = keeps.sums ∙ w.sums;
  groups = subst (λ (m : List (List PairId)). AreAllMates g m) (sym keeps.groups) w.groups;
  taken = keeps.taken ∙ w.taken;
}

pub keeps_on : (a b c : Workspace) → KeepsWork a b → KeepsWork b c → KeepsWork a c
keeps_on a b c first then = record {
  sides = then.sides ∙ first.sides;
  steps = then.steps;
  ticks = then.ticks ∙ first.ticks;
  sums = then.sums ∙ first.sums;
  groups = then.groups ∙ first.groups;
  taken = then.taken ∙ first.taken;
}
