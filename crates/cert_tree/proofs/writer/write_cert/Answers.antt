use Rattle.std.proofs.Common.{◌++◌, ◌∙◌, ap, subst, take, get_or, length, arith}
use Rattle.std.proofs.lemmas.Grind.{common_steps}
use Rattle.std.specs.Prelude.{All}
use Rattle.std.proofs.lemmas.List.{take_all}
use Rattle.std.proofs.lemmas.List.Elements.{All-more}
use Rattle.cert_tree.specs.CertText.{HasNumbers}
use Rattle.cert_tree.proofs.WrittenText.{written_is_read}
use Rattle.std.proofs.lemmas.Result.{err_from_is_err_and}
use Rattle.cert_tree.specs.declared.node.Node.{Node}
use Rattle.cert_tree.specs.CertText.{node_lines}
use Rattle.fleet_base.specs.Bytes.{AppendsFront, text_of_lines}
use Rattle.fleet_base.proofs.Appending.{pieces_left}
use Rattle.cert_tree.proofs.Appending.{text_by_nodes}
use Rattle.cert_tree.proofs.writer.write_cert.Goals as goal

pub returns-in_err-push_node-clause-err : goal.returns-in_err-push_node-clause-err
returns-in_err-push_node-clause-err c =
    let p = err_from_is_err_and c.from_residual.result c.from_residual.ensures.1 in
    let nodes = c.args.cert.now in
    let i = c.loop-node.node-index in
    let items = c.as_slice-node-items.ensures in
    rw (p.1, text_by_nodes nodes)
    (pieces_left (λ (n : Node). text_of_lines (node_lines n)) c.args.out.now c.loop-node.out c.push_node.new.out nodes i c.node-item.result (omega (arith, ap length items)) (c.loop-node.invariant.0 ∙ ap (λ l. c.args.out.now ++ l) (text_by_nodes (take i nodes))) (subst (λ n. AppendsFront c.loop-node.out c.push_node.new.out (text_of_lines (node_lines n))) (c.node-item.is ∙ ap (λ l. get_or l i c.node-item.result) items) c.in_err-push_node.ensures.err))

pub loop-node-preserved : goal.loop-node-preserved
loop-node-preserved c =
    let items = c.as_slice-node-items.ensures in
    (grind (arith, common_steps), All-more HasNumbers c.args.cert.now c.loop-node.node-index c.node-item.result (omega (arith, ap length items)) c.loop-node.invariant.1 (subst HasNumbers (c.node-item.is ∙ ap (λ l. get_or l c.loop-node.node-index c.node-item.result) items) c.in_ok-push_node.ensures.numbers))

pub returns-clause-text : goal.returns-clause-text
returns-clause-text c =
    let nodes = c.args.cert.now in
    written_is_read nodes c.requires (subst (All HasNumbers) (take_all c.loop-node.node-index nodes (omega (arith, ap length c.as_slice-node-items.ensures))) c.loop-node.invariant.1)
