-- When each refusal of the reader and of the writer of plans comes. Want of memory is free.
use Rattle.std.specs.Prelude.{ℕ, ◌≡◌, ◌+◌, List, ◌∷◌, ◌++◌, length, Result, Ok, Err, Vec}
use Rattle.std.specs.List.{AllByRecursion}
use Rattle.std.specs.declared.alloc.Global.{Global}
use Rattle.fleet_base.specs.declared.geometry.Cell.{Cell}
use Rattle.fleet_base.specs.declared.plan.RawPlan.{RawPlan}
use Rattle.fleet_base.specs.declared.lists.Items.{Items}
use Rattle.plan_text.specs.declared.fault.PlanError.{PlanError}
use Rattle.plan_text.specs.declared.fault.PlanError.TheVariants as plan_error
use Rattle.plan_text.specs.declared.fault.WritePlanError.{WritePlanError}
use Rattle.plan_text.specs.declared.fault.WritePlanError.TheVariants as write_error
use Rattle.plan_text.specs.declared.line.Stop.{Stop}
use Rattle.plan_text.specs.declared.line.Stop.TheVariants as stop
use Rattle.plan_text.specs.PlanText.{IsWritable}
use Rattle.plan_text.specs.PlanFaults.{IsPathFault, IsLineFault, IsPlanFault}

-- the text of a path is left behind its longest front that begins one
abbrev pub StopIs : List ℕ → Result (Vec Cell Global) Stop → Type 0
StopIs text (Ok path) = Unit {0}
StopIs text (Err (stop.At n)) = IsPathFault text n
StopIs text (Err stop.Memory) = Unit {0}

-- the fault of a robot's line is that of the line, counted from 1
abbrev pub LineFaultIs : ℕ → List ℕ → Result (Vec Cell Global) PlanError → Type 0
LineFaultIs i line (Ok path) = Unit {0}
LineFaultIs i line (Err (plan_error.Fault f)) = (f.line ≡ i + 1) × IsLineFault i line f.column f.kind
LineFaultIs i line (Err plan_error.Memory) = Unit {0}

-- the fault of a text is that of its lines
abbrev pub PlanFaultIs : List (List ℕ) → Result RawPlan PlanError → Type 0
PlanFaultIs lines (Ok plan) = Unit {0}
PlanFaultIs lines (Err (plan_error.Fault f)) = IsPlanFault lines f.line f.column f.kind
PlanFaultIs lines (Err plan_error.Memory) = Unit {0}

-- the answer is this plan, unless memory ran out
abbrev pub ReadsAs : List (List Cell) → Result RawPlan PlanError → Type 0
ReadsAs plan (Ok found) = found ≡ plan
ReadsAs plan (Err (plan_error.Fault f)) = ⊥
ReadsAs plan (Err plan_error.Memory) = Unit {0}

-- the robot is the first whose path has no text
pub record IsFirstWide (plan : List (List Cell)) (robot : ℕ) : Type 0 where
  pub above : List (List Cell)
  pub written : AllByRecursion IsWritable above
  pub path : List Cell
  pub below : List (List Cell)
  pub stands : plan ≡ above ++ path ∷ below
  pub number : robot ≡ length above
  pub wide : IsWritable path → ⊥

-- a plan is too wide with its first such robot
abbrev pub WideIs : List (List Cell) → Result (Items ℕ) WritePlanError → Type 0
WideIs plan (Ok text) = Unit {0}
WideIs plan (Err (write_error.Wide robot)) = IsFirstWide plan robot
WideIs plan (Err write_error.Memory) = Unit {0}
