use Rattle.std.proofs.Common.{◌∙◌, rules, ap, subst, sym, leb}
use Rattle.std.specs.List.Sorted.{IsNonDecreasingBy}
use Rattle.std.specs.Prelude.{filter}
use Rattle.std.proofs.lemmas.List.Sorted.{IsPartitionPoint-from_clause, IsPartitionedBy-leb}
use Rattle.switch_pairs.specs.Stops.{is_above}
use Rattle.switch_pairs.proofs.Cells.{rest_is}
use Rattle.switch_pairs.proofs.Robots.{above_is}
use Rattle.switch_pairs.proofs.stops.higher_at.Goals as goal

pub returns : goal.returns
returns c =
    let up = subst (IsNonDecreasingBy (λ s. s.visit.robot)) (sym c.at_cell-here.ensures) (c.requires.robots c.args.stop.cell) in
    rest_is c.at_cell-here.result.now c.partition_point-start.result
    ∙ above_is c.args.stop.visit.robot c.at_cell-here.result.now c.partition_point-start.result
    (IsPartitionPoint-from_clause (λ s. leb s.visit.robot c.args.stop.visit.robot) c.at_cell-here.result.now c.partition_point-start.result c.partition_point-start.ensures.partitioned (IsPartitionedBy-leb (λ s. s.visit.robot) c.at_cell-here.result.now c.args.stop.visit.robot up) (λ a r q k. search rules))
    ∙ ap (filter (is_above c.args.stop.visit.robot)) c.at_cell-here.ensures
