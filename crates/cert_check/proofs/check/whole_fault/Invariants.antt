-- The branches and the least number of the open leaves so far.
use Rattle.std.proofs.Common.{◌≡◌, ◌≤◌, take}
use Rattle.cert_tree.specs.Preorder.{branches_in, left_in}
use Rattle.cert_check.proofs.WholeLaws.{IsLowest}
use Rattle.cert_check.proofs.check.whole_fault.Given as goal

abbrev pub invariant-loop-node : goal.invariant-loop-node
invariant-loop-node l = record {
  branches : l.branches ≡ branches_in (take l.node-index l.nodes);
  few : l.branches ≤ l.node-index;
  lowest : IsLowest (left_in (take l.node-index l.nodes)) l.lowest;
}
