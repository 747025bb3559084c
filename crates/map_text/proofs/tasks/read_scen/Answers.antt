use Rattle.std.proofs.Common.{◌+◌, ◌<◌, ◌^◌, length, Err, ap, arith, refl}
use Rattle.std.proofs.lemmas.Result.{err_from_is_err_and, IfOk-from_err}
use Rattle.fleet_base.specs.Bytes.{file_lines}
use Rattle.fleet_base.proofs.FirstLine.{length-file_lines}
use Rattle.map_text.proofs.OneScenario.{one_scenario, given_tasks}
use Rattle.map_text.proofs.TaskPlaces.{tasks_count, lines_count, no_version, refused_by, tasks_refused, whole_scen, no_task_follows, line_after_end}
use Rattle.map_text.proofs.tasks.read_scen.Goals as goal

pub returns-in_default-clause-only : goal.returns-in_default-clause-only
returns-in_default-clause-only c =
    given_tasks c.args.bytes.now (Err c.fault.result) tt (refused_by (file_lines c.args.bytes.now) c.fault.result _ c.fault.ensures (no_version (file_lines c.args.bytes.now) c.in_default.ensures.none))

pub read_tasks-requires : goal.read_tasks-requires
read_tasks-requires c = omega (arith, length-file_lines c.args.bytes.now, ap length c.in-Some.ensures.some.2)

pub returns-in_err-tasks-clause-fault : goal.returns-in_err-tasks-clause-fault
returns-in_err-tasks-clause-fault c =
    let p = err_from_is_err_and c.from_residual.result c.from_residual.ensures.1 in
    let some = c.in-Some.ensures.some in
    tasks_refused (file_lines c.args.bytes.now) _ some.0 some.1 some.2 c.in_err-tasks.field-0.0 c.read_tasks.result c.from_residual.result c.in_err-tasks.was (cc) c.read_tasks.ensures.fault

pub returns-in_err-tasks-clause-only : goal.returns-in_err-tasks-clause-only
returns-in_err-tasks-clause-only c =
    let p = err_from_is_err_and c.from_residual.result c.from_residual.ensures.1 in
    let some = c.in-Some.ensures.some in
    given_tasks c.args.bytes.now c.from_residual.result (IfOk-from_err _ _ c.from_residual.ensures.0)
    (tasks_refused (file_lines c.args.bytes.now) _ some.0 some.1 some.2 c.in_err-tasks.field-0.0 c.read_tasks.result c.from_residual.result c.in_err-tasks.was (cc) c.read_tasks.ensures.fault)

pub overflow_cast-taken : goal.overflow_cast-taken
overflow_cast-taken c =
    let short : 1 + length c.in_ok-tasks.tasks < 2 ^ 32 = omega (arith, length-file_lines c.args.bytes.now, ap length c.in-Some.ensures.some.2, tasks_count c.in_ok-tasks.ensures.taken) in
    omega (arith, ap length c.as_slice.ensures)

pub overflow_add-taken : goal.overflow_add-taken
overflow_add-taken c =
    let short : 1 + length c.in_ok-tasks.tasks < 2 ^ 32 = omega (arith, length-file_lines c.args.bytes.now, ap length c.in-Some.ensures.some.2, tasks_count c.in_ok-tasks.ensures.taken) in
    omega (arith, ap length c.as_slice.ensures)

pub check_end-requires : goal.check_end-requires
check_end-requires c =
    omega (arith, length-file_lines c.args.bytes.now, ap length c.in-Some.ensures.some.2, lines_count c.in_ok-tasks.ensures.taken, ap length c.as_slice.ensures)

pub returns-in-Ok-clause-only : goal.returns-in-Ok-clause-only
returns-in-Ok-clause-only c =
    let some = c.in-Some.ensures.some in
    given_tasks c.args.bytes.now (Err c.fault-in-Ok.result) tt
    (refused_by (file_lines c.args.bytes.now) c.fault-in-Ok.result _ c.fault-in-Ok.ensures
    (no_task_follows (file_lines c.args.bytes.now) _ some.0 some.1 some.2 _ _ c.in_ok-tasks.ensures.taken c.in-Ok.ensures.ok (omega (arith, c.if-taken-eq0.true, ap length c.as_slice.ensures))))

pub returns-in-Ok-2-clause-read : goal.returns-in-Ok-2-clause-read
returns-in-Ok-2-clause-read c =
    let some = c.in-Some.ensures.some in
    whole_scen (file_lines c.args.bytes.now) _ some.0 some.1 some.2 _ _ c.in_ok-tasks.ensures.taken c.args.bytes.now refl c.in-Ok.ensures.ok (omega (arith, c.if-taken-eq0.false, ap length c.as_slice.ensures))

pub returns-in-Ok-2-clause-only : goal.returns-in-Ok-2-clause-only
returns-in-Ok-2-clause-only c = λ tasks means.
    let some = c.in-Some.ensures.some in
    one_scenario c.args.bytes.now c.in_ok-tasks.tasks tasks
    (whole_scen (file_lines c.args.bytes.now) _ some.0 some.1 some.2 _ _ c.in_ok-tasks.ensures.taken c.args.bytes.now refl c.in-Ok.ensures.ok (omega (arith, c.if-taken-eq0.false, ap length c.as_slice.ensures)))
    means

pub returns-in-Err-clause-fault : goal.returns-in-Err-clause-fault
returns-in-Err-clause-fault c =
    let some = c.in-Some.ensures.some in
    refused_by (file_lines c.args.bytes.now) c.fault-in-Err.result _ c.fault-in-Err.ensures
    (line_after_end (file_lines c.args.bytes.now) _ some.0 some.1 some.2 _ _ c.in_ok-tasks.ensures.taken _ _ _ _ c.in_ok-tasks.ensures.left c.in-Err.ensures.err (omega (arith, ap length c.as_slice.ensures)))

pub returns-in-Err-clause-only : goal.returns-in-Err-clause-only
returns-in-Err-clause-only c =
    let some = c.in-Some.ensures.some in
    given_tasks c.args.bytes.now (Err c.fault-in-Err.result) tt
    (refused_by (file_lines c.args.bytes.now) c.fault-in-Err.result _ c.fault-in-Err.ensures
    (line_after_end (file_lines c.args.bytes.now) _ some.0 some.1 some.2 _ _ c.in_ok-tasks.ensures.taken _ _ _ _ c.in_ok-tasks.ensures.left c.in-Err.ensures.err (omega (arith, ap length c.as_slice.ensures))))
