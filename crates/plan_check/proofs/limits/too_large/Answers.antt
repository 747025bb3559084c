use Rattle.std.proofs.Common.{◌<◌, ◌≤◌, length, arith}
use Rattle.std.specs.Prelude.{sum_by}
use Rattle.fleet_base.specs.Plan.{visits_of}
use Rattle.plan_check.specs.Faults.{too_many_robots, too_many_visits}
use Rattle.plan_check.proofs.limits.too_large.Goals as goal

pub returns-then-robots-gt-ROBOTS : goal.returns-then-robots-gt-ROBOTS
returns-then-robots-gt-ROBOTS c =
    let many : 256 < length c.args.raw.now = omega arith in
    too_many_robots many c.robots-robots.ensures

pub returns-then-visits : goal.returns-then-visits
returns-then-visits c =
    let few : length c.args.raw.now ≤ 256 = omega arith in
    let many : 65536 < sum_by length (visits_of c.args.raw.now) = omega arith in
    too_many_visits few c.in_default.ensures many c.visits-visits.ensures
