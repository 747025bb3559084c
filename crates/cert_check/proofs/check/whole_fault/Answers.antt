use Rattle.std.proofs.Common.{ℕ, Some, List, ◌++◌, ◌∷◌, [], ◌∙◌, ap, take, arith}
use Rattle.std.proofs.lemmas.List.{append-nil}
use Rattle.cert_tree.specs.Preorder.{branches_in, left_in}
use Rattle.cert_check.proofs.WholeLaws.{branches_more, left_more, lowest_more, lowest_same, other_node}
use Rattle.cert_check.proofs.check.whole_fault.Goals as goal
use Rattle.cert_check.proofs.check.whole_fault.Goals.{in-Branch, in-OpenLeaf, in_default}

pub loop-node-preserved : goal.loop-node-preserved
loop-node-preserved c =
    let i = c.loop-node.invariant in
    let b = branches_more c.args.nodes.now c.loop-node.node-index c.node-item.result c.loop-node-test.true c.node-item.is in
    let l = left_more c.args.nodes.now c.loop-node.node-index c.node-item.result c.loop-node-test.true c.node-item.is in
    let front = left_in (take c.loop-node.node-index c.args.nodes.now) in
    elim c.match-node.branch [
      | in-Branch w ↦ record {
        branches = omega (arith, w.branches-is, i.branches, b, ap (λ n. branches_in (n ∷ [])) w.in-Branch.is);
        few = omega (arith, w.branches-is, i.few);
        lowest = rw w.lowest-is (lowest_same _ front _ (l ∙ ap (λ n. front ++ left_in (n ∷ [])) w.in-Branch.is ∙ append-nil front) i.lowest);
      }
      | in-OpenLeaf w ↦ record {
        branches = omega (arith, w.branches-is, i.branches, b, ap (λ n. branches_in (n ∷ [])) w.in-OpenLeaf.is);
        few = omega (arith, w.branches-is, i.few);
        lowest = rw w.lowest-is (lowest_same _ (front ++ w.in-OpenLeaf.least ∷ []) (Some w.lower_of.result) (l ∙ ap (λ n. front ++ left_in (n ∷ [])) w.in-OpenLeaf.is) (lowest_more front c.loop-node.lowest w.in-OpenLeaf.least w.lower_of.result i.lowest w.lower_of.ensures));
      }
      | in_default w ↦ let o = other_node c.node-item.result w.in_default.not-Branch w.in_default.not-OpenLeaf in record {
        branches = omega (arith, w.branches-is, i.branches, b, o.0);
        few = omega (arith, w.branches-is, i.few);
        lowest = rw w.lowest-is (lowest_same _ front _ (l ∙ ap (λ (vs : List ℕ). front ++ vs) o.1 ∙ append-nil front) i.lowest);
      }
    ]
