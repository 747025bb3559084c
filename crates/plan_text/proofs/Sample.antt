-- A letter in place of a column, by computation.
use Rattle.std.proofs.Common.{[], refl, arith}
use Rattle.std.specs.Prelude.{codes}
use Rattle.plan_text.specs.declared.fault.PlanKind.TheVariants.{Path}
use Rattle.plan_text.specs.declared.place.Place.TheVariants.{Comma}
use Rattle.plan_text.specs.PlanText.{robot_lines}
use Rattle.plan_text.specs.PlanFaults.{IsPathFault, IsLineFault, IsPlanFault}
use Rattle.plan_text.proofs.Paths.{stopped}
use Rattle.plan_text.proofs.Labels.{path_fault}

-- the text of the path is left behind its comma
sample_path : IsPathFault (codes "(1,x)") 3
sample_path = stopped (codes "(1,x)") 3 (Comma 1) [] (omega arith) refl refl

-- the line is left behind 12 bytes
sample_line : IsLineFault 0 (codes "Agent 0: (1,x)") 13 Path
sample_line = path_fault 0 (codes "Agent 0: (1,x)") (codes "(1,x)") 3 refl sample_path

-- so the text has its fault at column 13 of line 1
pub sample_fault : IsPlanFault (robot_lines (codes "Agent 0: (1,x)")) 1 13 Path
sample_fault = record { above = []; plan = []; good = tt; line = codes "Agent 0: (1,x)"; below = []; stands = refl; number = refl; fault = sample_line }
