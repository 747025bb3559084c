use Rattle.std.proofs.Common.{ℕ, List, true, arith, sym, subst}
use Rattle.std.proofs.Common.{set}
use Rattle.std.proofs.lemmas.List.{length-set}
use Rattle.plan_check.proofs.Walking.{Walk, walk_on, walk_ends, walk_meets, walk_closes}
use Rattle.plan_check.proofs.rotations.ring_from.Goals as goal

pub loop-marks-preserved : goal.loop-marks-preserved
loop-marks-preserved c =
    let w = walk_on c.args.raw.now c.args.tick c.args.marks.now c.loop-marks.marks c.args.head c.loop-marks.robot c.in-Some.leader c.loop-marks.walk c.loop-marks.invariant.size c.loop-marks.invariant.walk c.loop-marks-test.true c.in-Some.ensures in
    record {
      size = let h = c.loop-marks.invariant.size in omega (arith, length-set c.loop-marks.marks c.loop-marks.robot true);
      walk = subst (λ (v : List ℕ). Walk c.args.raw.now c.args.tick c.args.marks.now (set c.loop-marks.marks c.loop-marks.robot true) c.args.head c.in-Some.leader v) (sym c.in_ok-push.ensures.ok) w;
    }

pub returns-in-None-clause-ring : goal.returns-in-None-clause-ring
returns-in-None-clause-ring c =
    walk_ends c.args.raw.now c.args.tick c.requires.apart c.requires.swaps c.args.marks.now c.loop-marks.marks c.args.head c.loop-marks.robot c.loop-marks.walk c.loop-marks.invariant.size c.loop-marks.invariant.walk c.requires.out c.in-None.ensures

pub returns-then-robot-head-clause-ring : goal.returns-then-robot-head-clause-ring
returns-then-robot-head-clause-ring c =
    walk_closes c.args.raw.now c.args.tick c.requires.apart c.requires.swaps c.args.marks.now c.loop-marks.marks c.args.head c.loop-marks.robot c.loop-marks.walk c.loop-marks.invariant.walk c.requires.new c.loop-marks-test.false c.if-robot-head.true

pub returns-else-robot-head-clause-ring : goal.returns-else-robot-head-clause-ring
returns-else-robot-head-clause-ring c =
    walk_meets c.args.raw.now c.args.tick c.requires.apart c.requires.swaps c.args.marks.now c.loop-marks.marks c.args.head c.loop-marks.robot c.loop-marks.walk c.loop-marks.invariant.walk c.requires.out c.loop-marks-test.false c.if-robot-head.false
