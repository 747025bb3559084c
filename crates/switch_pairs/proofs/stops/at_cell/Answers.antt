use Rattle.std.proofs.Common.{rules, subst, sym}
use Rattle.std.specs.Ordering.{is_lt, is_le, ordering_index}
use Rattle.std.specs.List.Sorted.{IsNonDecreasingBy}
use Rattle.std.proofs.lemmas.List.Sorted.{IsPartitionPoint-from_clause, IsNonDecreasingBy-drop}
use Rattle.switch_pairs.proofs.Cells.{run_is, rest_is, parted_lt, parted_le, rising}
use Rattle.switch_pairs.proofs.stops.at_cell.Goals as goal
use Rattle.fleet_base.specs.Grid.{cell_order}

pub returns : goal.returns
returns c =
    let up = rising c.args.cell c.args.stops.now c.requires in
    let same = rest_is c.args.stops.now c.partition_point-start.result in
    let up_rest = subst (IsNonDecreasingBy (λ s. ordering_index (cell_order s.cell c.args.cell))) (sym same) (IsNonDecreasingBy-drop (λ s. ordering_index (cell_order s.cell c.args.cell)) c.partition_point-start.result c.args.stops.now up) in
    run_is c.args.cell c.args.stops.now _ c.partition_point-start.result c.partition_point-end.result same
    (IsPartitionPoint-from_clause (λ s. is_lt (cell_order s.cell c.args.cell)) c.args.stops.now c.partition_point-start.result c.partition_point-start.ensures.partitioned (parted_lt (λ s. cell_order s.cell c.args.cell) c.args.stops.now up) (λ a r q k. search rules))
    (IsPartitionPoint-from_clause (λ s. is_le (cell_order s.cell c.args.cell)) _ c.partition_point-end.result c.partition_point-end.ensures.partitioned (parted_le (λ s. cell_order s.cell c.args.cell) _ up_rest) (λ a r q k. search rules))
