use Rattle.fleet_cli.specs.Due.{a_refusal}
use Rattle.fleet_cli.proofs.task.task_of.Goals as goal

pub returns-in_ok-text-in-Err-Fault-clause-task : goal.returns-in_ok-text-in-Err-Fault-clause-task
returns-in_ok-text-in-Err-Fault-clause-task g c =
    a_refusal c.in-Err-Fault.fault (rw c.in-Err-Fault.field-0-is at c.in-Err-Fault.ensures.refused) c.status.ensures c.in_ok-text-in-Err-Fault.ensures
