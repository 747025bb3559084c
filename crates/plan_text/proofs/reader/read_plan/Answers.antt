use Rattle.std.proofs.Common.{◌≡◌, ◌+◌, ◌≤◌, length, sym, ◌∙◌, ap, subst, refl, arith}
use Rattle.std.proofs.lemmas.List.{length_push}
use Rattle.std.proofs.lemmas.Result.{err_from_is_err_and}
use Rattle.plan_text.proofs.Reading.{IsReading, reading_all, reading_more, empty_refuses}
use Rattle.plan_text.proofs.Outcomes.{error_of_line, error_refuses, reading_empty, reading_only}
use Rattle.plan_text.proofs.reader.read_plan.Goals as goal
use Rattle.plan_text.proofs.Robots.{read_plan_has_robots}

pub returns-in_err-path-clause-only : goal.returns-in_err-path-clause-only
returns-in_err-path-clause-only c =
    let p = err_from_is_err_and c.from_residual.result c.from_residual.ensures.1 in
    rw (p.1, p.2) (λ plan is. error_refuses c.args.bytes.now c.in_err-path.field-0.0 plan (error_of_line c.args.bytes.now c.loop-line.rest.now c.in-Some.after.now c.loop-line.plan c.in-Some.line.now c.in_err-path.field-0.0 c.loop-line.robot c.loop-line.invariant.1 c.in-Some.ensures.lines c.in_err-path.ensures.fault c.loop-line.invariant.0) is)

pub returns-in_err-path-clause-fault : goal.returns-in_err-path-clause-fault
returns-in_err-path-clause-fault c =
    let p = err_from_is_err_and c.from_residual.result c.from_residual.ensures.1 in
    rw (p.1, p.2) (error_of_line c.args.bytes.now c.loop-line.rest.now c.in-Some.after.now c.loop-line.plan c.in-Some.line.now c.in_err-path.field-0.0 c.loop-line.robot c.loop-line.invariant.1 c.in-Some.ensures.lines c.in_err-path.ensures.fault c.loop-line.invariant.0)

pub loop-line-preserved : goal.loop-line-preserved
loop-line-preserved c =
    let pushed = c.in_ok-push_path.ensures.ok in
    let more = reading_more c.args.bytes.now c.loop-line.rest.now c.in-Some.after.now c.loop-line.plan c.in-Some.line.now c.in_ok-path.path.items c.loop-line.robot c.loop-line.invariant.1 c.in-Some.ensures.lines c.in_ok-path.ensures.read c.loop-line.invariant.0 in
    let count : c.loop-line.robot + 1 ≡ length c.push_path.new.self = omega (arith, ap length pushed, length_push c.loop-line.plan c.in_ok-path.path.items, c.loop-line.invariant.1) in
    let left : c.loop-line.robot + 1 + length c.in-Some.after.now ≤ length c.args.bytes.now = omega (arith, c.in-Some.ensures.rest, c.loop-line.invariant.2) in
    (subst (λ plan. IsReading c.args.bytes.now c.in-Some.after.now plan) (sym pushed) more, count, left)

pub returns-then-robot-eq0-clause-only : goal.returns-then-robot-eq0-clause-only
returns-then-robot-eq0-clause-only c =
    let empty = reading_empty c.args.bytes.now c.loop-line.rest.now c.loop-line.plan (sym c.loop-line.invariant.1 ∙ c.if-robot-eq0.true) c.in_default.ensures.none c.loop-line.invariant.0 in
    λ plan is. empty_refuses c.args.bytes.now plan empty is

pub returns-then-robot-eq0-clause-fault : goal.returns-then-robot-eq0-clause-fault
returns-then-robot-eq0-clause-fault c =
    (reading_empty c.args.bytes.now c.loop-line.rest.now c.loop-line.plan (sym c.loop-line.invariant.1 ∙ c.if-robot-eq0.true) c.in_default.ensures.none c.loop-line.invariant.0, refl, refl)

pub returns-clause-only : goal.returns-clause-only
returns-clause-only c = λ plan is. reading_only c.args.bytes.now c.loop-line.rest.now c.loop-line.plan plan c.in_default.ensures.none c.loop-line.invariant.0 is

pub returns-clause-robots : goal.returns-clause-robots
returns-clause-robots c =
    let some : 1 ≤ length c.loop-line.plan = omega (arith, c.loop-line.invariant.1, c.if-robot-eq0.false) in
    read_plan_has_robots c.args.bytes.now c.loop-line.plan (record { some = some; lines = reading_all c.args.bytes.now c.loop-line.rest.now c.loop-line.plan c.in_default.ensures.none c.loop-line.invariant.0 })
