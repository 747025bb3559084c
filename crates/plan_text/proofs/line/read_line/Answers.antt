use Rattle.std.proofs.Common.{◌≡◌, length, subst, refl, arith}
use Rattle.std.proofs.lemmas.List.{take_rest}
use Rattle.std.proofs.lemmas.Grind.{common_steps}
use Rattle.plan_text.specs.PlanText.{label_of}
use Rattle.plan_text.specs.PlanFaults.{IsPathFault}
use Rattle.plan_text.proofs.Labels.{leaves_label, leaves_path}
use Rattle.plan_text.proofs.line.read_line.Goals as goal

pub returns-then-same-label_len-clause-fault : goal.returns-then-same-label_len-clause-fault
returns-then-same-label_len-clause-fault c =
    let is : c.as_slice.result.now ≡ label_of c.args.robot = grind (arith, common_steps) in
    let len : length c.as_slice-label_len.result.now ≡ length c.as_slice.result.now = grind (arith, common_steps) in
    let common = c.common_len-same.ensures in
    rw c.fault_at.ensures (refl, leaves_label c.args.robot c.args.line.now c.as_slice.result.now c.common_len-same.result is common.in_a (omega arith) common.same common.differs)

pub returns-in-Err-At-clause-fault : goal.returns-in-Err-At-clause-fault
returns-in-Err-At-clause-fault c =
    let is : c.as_slice.result.now ≡ label_of c.args.robot = grind (arith, common_steps) in
    let len : length c.as_slice-label_len.result.now ≡ length c.as_slice.result.now = grind (arith, common_steps) in
    let common = c.common_len-same.ensures in
    let stop = rw c.in-Err-At.field-0-is at c.in-Err-At.ensures.stop in
    let same = c.common_len-same.result in
    let fault = subst (λ xs. IsPathFault xs c.in-Err-At.n) (take_rest c.args.line.now same) stop in
    rw c.fault_at-in-Err-At.ensures (refl, leaves_path c.args.robot c.args.line.now c.as_slice.result.now same c.in-Err-At.n is common.in_a common.in_b (omega arith) common.same fault)
