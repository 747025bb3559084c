use Rattle.std.proofs.Common.{◌∙◌, arith}
use Rattle.path_planner.proofs.TableLaws.{no_rows, one_row, rows_cover}
use Rattle.path_planner.proofs.tables.new_table.Goals as goal

pub loop-row-init : goal.loop-row-init
loop-row-init c = no_rows c.args.grid.now.width _ c.new-table.ensures

pub loop-row-preserved : goal.loop-row-preserved
loop-row-preserved c = one_row c.args.grid.now.width c.loop-row._row c.loop-row.table _ _ c.loop-row.invariant (c.in_ok-zeros.ensures ∙ c.width.ensures) c.in_ok-push.ensures.ok

pub returns : goal.returns
returns c = rows_cover c.args.grid.now c.loop-row._row c.loop-row.table c.loop-row.invariant (omega (arith, c.loop-row-test.false, c.height-row-end.ensures))
