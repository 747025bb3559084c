use Rattle.std.proofs.Common.{ℕ, ◌≤◌, Option, arith, subst}
use Rattle.plan_check.specs.Occupants.{SharesFrom}
use Rattle.plan_check.specs.Ticks.{IsFirstPair}
use Rattle.plan_check.proofs.Order.{next_kind, first_of_all}
use Rattle.plan_check.proofs.Steps.{none_alone, none_shares, moves_apart}
use Rattle.plan_check.proofs.checker.fault_at.Goals as goal

pub returns-in-Some-jump_at-clause-fault : goal.returns-in-Some-jump_at-clause-fault
returns-in-Some-jump_at-clause-fault c =
    let before = next_kind c.args.grid.now c.args.raw.now c.args.tick 1 c.requires.none c.in_default.ensures in
    first_of_all c.args.grid.now c.args.raw.now c.args.tick 2 c.in-Some-jump_at.fault before (c.in-Some-jump_at.ensures c.args.grid.now)

pub swap_at-requires-clause-apart : goal.swap_at-requires-clause-apart
swap_at-requires-clause-apart c =
    let later : 1 ≤ c.args.tick = omega arith in
    let alone = none_alone c.args.grid.now c.args.raw.now c.args.tick c.requires.none c.in_default.ensures (c.in_default-jump_at.ensures c.args.grid.now) in
    let share = subst (λ (o : Option (ℕ × ℕ)). IsFirstPair (SharesFrom c.args.raw.now c.args.tick 0) o) c.in_default-share.is c.in_ok-present.ensures.share in
    moves_apart c.args.grid.now c.args.raw.now c.args.tick later (none_shares c.args.grid.now c.args.raw.now c.args.tick alone share)

pub rotation_at-requires-clause-apart : goal.rotation_at-requires-clause-apart
rotation_at-requires-clause-apart c =
    let later : 1 ≤ c.args.tick = omega arith in
    let alone = none_alone c.args.grid.now c.args.raw.now c.args.tick c.requires.none c.in_default.ensures (c.in_default-jump_at.ensures c.args.grid.now) in
    let share = subst (λ (o : Option (ℕ × ℕ)). IsFirstPair (SharesFrom c.args.raw.now c.args.tick 0) o) c.in_default-share.is c.in_ok-present.ensures.share in
    moves_apart c.args.grid.now c.args.raw.now c.args.tick later (none_shares c.args.grid.now c.args.raw.now c.args.tick alone share)
