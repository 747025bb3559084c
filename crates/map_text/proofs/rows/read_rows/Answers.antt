use Rattle.std.proofs.Common.{arith}
use Rattle.std.proofs.lemmas.Result.{err_from_is_err_and}
use Rattle.map_text.proofs.TakenRows.{one_more, rows_fault}
use Rattle.map_text.proofs.rows.read_rows.Goals as goal

pub loop-row-preserved : goal.loop-row-preserved
loop-row-preserved c = one_more c.loop-row.invariant c.in_ok-rest.ensures.row

pub returns-in_err-rest-clause-fault : goal.returns-in_err-rest-clause-fault
returns-in_err-rest-clause-fault c =
    let p = err_from_is_err_and c.from_residual.result c.from_residual.ensures.1 in
    rows_fault c.in_err-rest.field-0.0 c.read_row.result c.from_residual.result c.in_err-rest.was (cc) c.loop-row.invariant (omega arith) c.read_row.ensures.fault
