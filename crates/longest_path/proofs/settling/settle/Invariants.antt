use Rattle.std.proofs.Common.{◌+◌, ◌*◌}
use Rattle.plan_graph.specs.Views.{order_in}
use Rattle.longest_path.specs.Cells.{mark_count}
use Rattle.longest_path.specs.Rising.{Marked}
use Rattle.longest_path.specs.Falling.{IsFalling, tick_total}
use Rattle.longest_path.proofs.settling.settle.Given as goal

abbrev pub invariant-loop-v : goal.invariant-loop-v
invariant-loop-v l = IsFalling l.view.graph l.fleet (order_in l.view) l.rows l.waiting (Marked l.waiting)

abbrev pub decreases-loop-v : goal.decreases-loop-v
decreases-loop-v l = mark_count l.waiting + 65537 * tick_total l.rows
