use Rattle.std.proofs.Common.{arith}
use Rattle.path_planner.proofs.Around.{all_around, free_on_grid}
use Rattle.path_planner.proofs.cells.around.Goals as goal

pub returns-clause-all : goal.returns-clause-all
returns-clause-all c = λ to free near.
    let on = free_on_grid c.args.grid.now to free in
    all_around c.args.at to c.args.grid.now.height c.args.grid.now.width _ _ _ _ c.saturating_sub.ensures c.saturating_sub-2.ensures (omega (arith, c.min.ensures, c.width-last_col.ensures)) (omega (arith, c.min-2.ensures, c.height-last_row.ensures)) on.0 on.1 near
