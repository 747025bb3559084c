-- What a reading of a text comes to.
use Rattle.std.proofs.Common.{ℕ, ◌+◌, ◌≡◌, List, [], ◌∷◌, ◌++◌, length, Err, ◌∙◌, ap, subst}
use Rattle.std.proofs.lemmas.List.{append-nil, nil_from_length}
use Rattle.fleet_base.specs.declared.geometry.Cell.{Cell}
use Rattle.plan_text.specs.declared.fault.PlanKind.{PlanKind}
use Rattle.plan_text.specs.declared.fault.PlanKind.TheVariants.{Label, Path, Empty}
use Rattle.plan_text.specs.declared.fault.PlanError.{PlanError}
use Rattle.plan_text.specs.declared.fault.PlanError.TheVariants as plan_error
use Rattle.plan_text.specs.PlanText.{robot_lines, IsPlanText}
use Rattle.plan_text.specs.PlanFaults.{IsLineFault, IsPlanFault}
use Rattle.plan_text.specs.PlanErrors.{LineFaultIs, PlanFaultIs, ReadsAs}
use Rattle.plan_text.proofs.Reading.{IsReading, same_length, reading_stops, reading_all, one_plan, fault_refuses, empty_refuses}

-- a bad line is the fault of the text
line_faults : (text rest after : List ℕ) (plan : List (List Cell)) (line : List ℕ) (at column : ℕ) (kind : PlanKind) → robot_lines rest ≡ line ∷ robot_lines after → at ≡ length plan + 1 → IsLineFault (length plan) line column kind → IsReading text rest plan → IsPlanFault (robot_lines text) at column kind
line_faults text rest after plan line at column Label next number fault r = reading_stops text rest after plan line at column Label next number fault r
line_faults text rest after plan line at column Path next number fault r = reading_stops text rest after plan line at column Path next number fault r
line_faults text rest after plan line at column Empty next number fault r = absurd fault.called

-- a text with a fault is no plan
pub faulty : (text : List ℕ) (at column : ℕ) (kind : PlanKind) (plan : List (List Cell)) → IsPlanFault (robot_lines text) at column kind → IsPlanText text plan → ⊥
faulty text at column Label plan fault is = fault_refuses text at column Label plan fault is
faulty text at column Path plan fault is = fault_refuses text at column Path plan fault is
faulty text at column Empty plan fault is = empty_refuses text plan fault.0 is

-- the error of a line is that of the text
pub error_of_line : (text rest after : List ℕ) (plan : List (List Cell)) (line : List ℕ) (e : PlanError) (robot : ℕ) → robot ≡ length plan → robot_lines rest ≡ line ∷ robot_lines after → LineFaultIs robot line (Err e) → IsReading text rest plan → PlanFaultIs (robot_lines text) (Err e)
error_of_line text rest after plan line (plan_error.Fault f) robot same next fault r =
    line_faults text rest after plan line f.line f.column f.kind next (fault.0 ∙ ap (λ k. k + 1) same) (subst (λ k. IsLineFault k line f.column f.kind) same fault.1) r
error_of_line text rest after plan line plan_error.Memory robot same next fault r = tt

-- an error that is right refuses no plan
pub error_refuses : (text : List ℕ) (e : PlanError) (plan : List (List Cell)) → PlanFaultIs (robot_lines text) (Err e) → IsPlanText text plan → ReadsAs plan (Err e)
error_refuses text (plan_error.Fault f) plan fault is = faulty text f.line f.column f.kind plan fault is
error_refuses text plan_error.Memory plan fault is = tt

-- without a robot there is no line
pub reading_empty : (text rest : List ℕ) (plan : List (List Cell)) → length plan ≡ 0 → robot_lines rest ≡ [] → IsReading text rest plan → robot_lines text ≡ []
reading_empty text rest plan none end r =
    let above : r.above ≡ [] = nil_from_length r.above (same_length 0 r.above plan r.good ∙ none) in
    r.split ∙ ap (λ ls. r.above ++ ls) end ∙ append-nil r.above ∙ above

-- the plan that was read is the one that the text means
pub reading_only : (text rest : List ℕ) (plan other : List (List Cell)) → robot_lines rest ≡ [] → IsReading text rest plan → IsPlanText text other → plan ≡ other
reading_only text rest plan other end r is = one_plan 0 (robot_lines text) plan other (reading_all text rest plan end r) is.lines

-- a text means one plan
pub means_one : (text : List ℕ) (plan other : List (List Cell)) → IsPlanText text plan → IsPlanText text other → plan ≡ other
means_one text plan other a b = one_plan 0 (robot_lines text) plan other a.lines b.lines
