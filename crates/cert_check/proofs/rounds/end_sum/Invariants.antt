-- The sum over the robots so far.
use Rattle.std.proofs.Common.{◌≡◌, ◌≤◌, ◌*◌, ◌^◌}
use Rattle.std.specs.Prelude.{sum_by}
use Rattle.std.specs.List.{range_with_len}
use Rattle.fleet_base.specs.Order.{last_in}
use Rattle.fleet_base.specs.VisitRows.{tick_in}
use Rattle.cert_check.proofs.rounds.end_sum.Given as goal

abbrev pub invariant-loop-robot : goal.invariant-loop-robot
invariant-loop-robot l = (l.sum ≡ sum_by (λ i. tick_in l.ticks (record { robot = i; index = last_in l.graph i })) (range_with_len 0 l.robot)) × (l.sum ≤ l.robot * 2 ^ 62)
