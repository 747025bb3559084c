use Rattle.std.proofs.Common.{Result, Ok, Err}
use Rattle.std.proofs.lemmas.Result.{err_from_is_err_and, on_ok_weaker}
use Rattle.cert_tree.specs.declared.fault.LineFault.{LineFault}
use Rattle.cert_tree.specs.Reading.{OnMalformed}
use Rattle.cert_tree.proofs.OtherLines.{malformed_weaker}
use Rattle.cert_tree.proofs.FaultLines.{node_added, path_added, nothing_added, path_not_added}
use Rattle.cert_tree.proofs.reader.add_line.Goals as goal

answer_weaker : {T P Q : Type 0} (r : Result T LineFault) → (P → Q) → OnMalformed r P → OnMalformed r Q
answer_weaker (Ok x) f h = tt
answer_weaker (Err fault) f h = malformed_weaker fault f h

pub returns-in_err-node-clause-malformed : goal.returns-in_err-node-clause-malformed
returns-in_err-node-clause-malformed c =
    let p = err_from_is_err_and c.from_residual.result c.from_residual.ensures.1 in
    rw (p.1, p.2) (malformed_weaker c.in_err-node.field-0.0 (nothing_added c.args.nodes.now.items c.args.line.now) c.in_err-node.ensures.malformed)

pub returns-in-Node-clause-read : goal.returns-in-Node-clause-read
returns-in-Node-clause-read c =
    on_ok_weaker c.add_node.result (λ e. rw e (node_added c.args.nodes.now.items c.args.line.now c.in-Node.node c.requires (rw c.in-Node.is at c.in_ok-node.ensures.read))) c.add_node.ensures.read

pub returns-in-Path-clause-read : goal.returns-in-Path-clause-read
returns-in-Path-clause-read c =
    on_ok_weaker c.add_path.result (path_added c.args.nodes.now.items c.add_path.new.nodes.items c.args.line.now c.in-Path.path c.requires (rw c.in-Path.is at c.in_ok-node.ensures.read)) c.add_path.ensures.read

pub returns-in-Path-clause-malformed : goal.returns-in-Path-clause-malformed
returns-in-Path-clause-malformed c =
    answer_weaker c.add_path.result (path_not_added c.args.nodes.now.items c.args.line.now c.in-Path.path c.requires (rw c.in-Path.is at c.in_ok-node.ensures.read)) c.add_path.ensures.malformed
