-- Faults of a turn, as those of a session.
use Rattle.fleet_serve.specs.declared.outcome.StepFault.{StepFault}
use Rattle.fleet_serve.specs.declared.outcome.StepFault.TheVariants as step_fault
use Rattle.fleet_serve.specs.declared.outcome.ServeFault.{ServeFault}
use Rattle.fleet_serve.specs.declared.outcome.ServeFault.TheVariants as serve_fault

-- a session ends with the fault of its last turn
abbrev pub as_serve_fault : StepFault → ServeFault
as_serve_fault step_fault.Station = serve_fault.Station
as_serve_fault step_fault.Memory = serve_fault.Memory
