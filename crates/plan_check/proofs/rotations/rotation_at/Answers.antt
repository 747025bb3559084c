use Rattle.std.proofs.Common.{ℕ, ◌-◌, arith, List, Option, subst}
use Rattle.plan_check.specs.Ticks.{IsRingFrom}
use Rattle.plan_check.proofs.Walking.{none_marked, first_rotation, no_rotation}
use Rattle.plan_check.proofs.rotations.rotation_at.Goals as goal

pub loop-head-init : goal.loop-head-init
loop-head-init c = record {
  size = c.requires.robots;
  out = λ i m. absurd (none_marked 256 i m);
  done = λ i lt. absurd (omega (arith, lt));
}

pub returns-in-Some : goal.returns-in-Some
returns-in-Some c =
    let ring = subst (λ (o : Option (List ℕ)). IsRingFrom c.args.raw.now (c.args.tick - 1) c.loop-head.head c.ring_from.new.marks o) c.in-Some.is c.in_ok-robots.ensures.ring in
    let i = c.loop-head.invariant in
    first_rotation c.args.raw.now (c.args.tick - 1) c.loop-head.marks c.loop-head.head i.out i.done c.in-Some.robots ring.0 ring.1

pub returns : goal.returns
returns c =
    let i = c.loop-head.invariant in
    no_rotation c.args.raw.now (c.args.tick - 1) c.loop-head.marks c.loop-head.head i.out i.done (omega arith)
