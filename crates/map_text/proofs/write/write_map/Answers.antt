use Rattle.std.proofs.Common.{◌++◌, ◌∙◌, sym, ap, arith}
use Rattle.map_text.specs.MapText.{row_text}
use Rattle.map_text.proofs.WrittenMap.{ended, one_more_row, header_written}
use Rattle.map_text.proofs.write.write_map.Goals as goal

pub loop-row-init : goal.loop-row-init
loop-row-init c =
    header_written c.args.grid.now _ _ _ _ _ _ c.from.result c.from-2.result (c.from.ensures ∙ c.height.ensures) (c.from-2.ensures ∙ c.width.ensures) (omega arith) (omega arith)
    c.new-text.ensures c.in_ok-push_bytes.ensures.ok c.in_ok-push_number.ensures.ok c.in_ok-push_bytes-2.ensures.ok c.in_ok-push_number-2.ensures.ok c.in_ok-push_bytes-3.ensures.ok

pub loop-row-preserved : goal.loop-row-preserved
loop-row-preserved c =
    c.in_ok-push_row.ensures ∙ ap (λ text. text ++ ended (row_text c.args.grid.now c.loop-row.row)) c.loop-row.invariant ∙ sym (one_more_row c.args.grid.now c.loop-row.row)
