use Rattle.std.proofs.Common.{sym, ◌∙◌, subst, arith}
use Rattle.std.proofs.lemmas.Result.{err_from_is_err_and, IfOk-from_err}
use Rattle.std.proofs.lemmas.Option.{MatchOption-at_some}
use Rattle.fleet_base.specs.Bytes.{file_lines}
use Rattle.map_text.specs.MapText.{IsMapText}
use Rattle.fleet_base.proofs.FirstLine.{length-file_lines}
use Rattle.map_text.proofs.WholeMap.{whole_map, whole_grid, rows_refused, fault_in_end, line_count}
use Rattle.map_text.proofs.OneFault.{given, one_map, no_fault}
use Rattle.map_text.proofs.read.read_map.Goals as goal

pub returns-in-Err-clause-only : goal.returns-in-Err-clause-only
returns-in-Err-clause-only c = λ g means. no_fault c.args.bytes.now g _ _ means c.in-Err.ensures.err

pub returns-in_err-free-clause-fault : goal.returns-in_err-free-clause-fault
returns-in_err-free-clause-fault c =
    let p = err_from_is_err_and c.from_residual.result c.from_residual.ensures.1 in
    rows_refused _ _ _ _ c.in_err-free.field-0.0 c.read_rows.result c.from_residual.result c.in_err-free.was (cc) c.in-Ok.ensures.ok c.read_rows.ensures.fault

pub returns-in_err-free-clause-only : goal.returns-in_err-free-clause-only
returns-in_err-free-clause-only c =
    let p = err_from_is_err_and c.from_residual.result c.from_residual.ensures.1 in
    given c.args.bytes.now c.from_residual.result (IfOk-from_err _ _ c.from_residual.ensures.0)
    (rows_refused _ _ _ _ c.in_err-free.field-0.0 c.read_rows.result c.from_residual.result c.in_err-free.was (cc) c.in-Ok.ensures.ok c.read_rows.ensures.fault)

pub check_end-requires : goal.check_end-requires
check_end-requires c =
    omega (arith, length-file_lines c.args.bytes.now, line_count _ _ (file_lines c.args.bytes.now) _ _ c.in-Ok.ensures.ok c.in_ok-free.ensures.rows c.in_ok-free.ensures.rest)

pub unwrap-requires : goal.unwrap-requires
unwrap-requires c = c.new.ensures.valid.1 (whole_grid _ _ _ _ _ c.in-Ok.ensures.ok c.in_ok-free.ensures.rows c.in_ok-free.ensures.cells)

pub returns-in-Ok-check_end-clause-read : goal.returns-in-Ok-check_end-clause-read
returns-in-Ok-check_end-clause-read c =
    let is = MatchOption-at_some _ _ _ c.unwrap.ensures c.new.ensures.value in
    subst (IsMapText c.args.bytes.now) (sym is)
    (whole_map _ _ c.args.bytes.now _ _ _ c.in-Ok.ensures.ok c.in_ok-free.ensures.rows c.in_ok-free.ensures.cells c.in_ok-free.ensures.rest c.in-Ok-check_end.ensures.ok)

pub returns-in-Ok-check_end-clause-only : goal.returns-in-Ok-check_end-clause-only
returns-in-Ok-check_end-clause-only c = λ g means.
    let is = MatchOption-at_some _ _ _ c.unwrap.ensures c.new.ensures.value in
    is ∙ one_map c.args.bytes.now _ g
    (whole_map _ _ c.args.bytes.now _ _ _ c.in-Ok.ensures.ok c.in_ok-free.ensures.rows c.in_ok-free.ensures.cells c.in_ok-free.ensures.rest c.in-Ok-check_end.ensures.ok)
    means

pub returns-in-Err-check_end-clause-fault : goal.returns-in-Err-check_end-clause-fault
returns-in-Err-check_end-clause-fault c =
    fault_in_end _ _ _ _ _ _ _ c.in-Ok.ensures.ok c.in_ok-free.ensures.rows c.in_ok-free.ensures.rest c.in-Err-check_end.ensures.err

pub returns-in-Err-check_end-clause-only : goal.returns-in-Err-check_end-clause-only
returns-in-Err-check_end-clause-only c = λ g means. no_fault c.args.bytes.now g _ _ means
    (fault_in_end _ _ _ _ _ _ _ c.in-Ok.ensures.ok c.in_ok-free.ensures.rows c.in_ok-free.ensures.rest c.in-Err-check_end.ensures.err)
