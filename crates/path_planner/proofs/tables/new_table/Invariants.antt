use Rattle.path_planner.proofs.TableLaws.{RowsOf}
use Rattle.path_planner.proofs.tables.new_table.Given as goal

abbrev pub invariant-loop-row : goal.invariant-loop-row
invariant-loop-row l = RowsOf l.grid.width l._row l.table
