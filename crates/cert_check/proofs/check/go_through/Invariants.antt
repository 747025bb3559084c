-- The nodes so far are right, and the way that is kept is the next one.
use Rattle.std.proofs.Common.{[], ◌∷◌, take, reverse}
use Rattle.cert_check.specs.Judging.{MeetsAs}
use Rattle.cert_tree.specs.Preorder.{EachListed}
use Rattle.cert_tree.specs.Preorder.{ways_at}
use Rattle.cert_check.specs.Ways.{HasWay, NextWay}
use Rattle.cert_check.specs.Sums.{AreSums}
use Rattle.cert_check.specs.Work.{KeepsWork}
use Rattle.cert_check.proofs.check.go_through.Given as goal

abbrev pub invariant-loop-number : goal.invariant-loop-number
invariant-loop-number l = record {
  right : EachListed (MeetsAs l.graph l.fleet l.cost l.kind) (take l.number l.nodes) ([] ∷ []);
  next : NextWay (ways_at l.nodes l.number) l.work.way l.goes_on;
  way : HasWay l.work.way (reverse l.work.way.steps.items);
  sums : AreSums l.graph l.fleet l.work.sums;
  keeps : KeepsWork l.fn.work l.work;
}
