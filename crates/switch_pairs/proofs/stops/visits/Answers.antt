use Rattle.std.proofs.Common.{◌≡◌, ◌∙◌, ◌+◌, ap, arith, length}
use Rattle.fleet_base.specs.Lists.{row_of}
use Rattle.fleet_base.proofs.PairNumbers.{visits_of_robot}
use Rattle.switch_pairs.proofs.Counting.{few_visits}
use Rattle.switch_pairs.proofs.stops.visits.Goals as goal

pub returns-clause-count : goal.returns-clause-count
returns-clause-count c = ap (λ n. n + 1) c.last.ensures ∙ visits_of_robot c.args.plan.now c.robots-robots.ensures.sound c.args.robot c.requires

pub returns-clause-few : goal.returns-clause-few
returns-clause-few c =
    let all : c.last.result + 1 ≡ length (row_of c.args.plan.now c.args.robot) = ap (λ n. n + 1) c.last.ensures ∙ visits_of_robot c.args.plan.now c.robots-robots.ensures.sound c.args.robot c.requires in
    omega (arith, all, few_visits c.args.plan.now c.robots-robots.ensures.sound c.args.robot c.requires)
