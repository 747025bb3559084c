use Rattle.std.proofs.Common.{ℕ, List, subst, sym, arith}
use Rattle.search_line.specs.Going.{LeadUp}
use Rattle.search_line.proofs.Climbing.{below_later, below_less, up_one}
use Rattle.search_line.proofs.going.path_up.Goals as goal

pub origin_of-at-requires-clause-child : goal.origin_of-at-requires-clause-child
origin_of-at-requires-clause-child c = below_later c.args.nodes.now c.requires.ways c.loop-at.at c.args.above c.loop-at.invariant.below c.loop-at-test.true

pub loop-at-preserved : goal.loop-at-preserved
loop-at-preserved c =
    let i = c.loop-at.invariant in
    let from = c.origin_of-at.ensures.origin in
    record {
      there = omega (arith, c.origin_of-at.ensures.earlier, i.there);
      up = subst (λ (z : List ℕ). LeadUp c.args.nodes.now c.args.number z c.origin_of-at.result.parent) (sym c.in-Ok.ensures.items) (up_one c.args.nodes.now c.args.number c.loop-at.path.items c.loop-at.at c.origin_of-at.result i.up from);
      below = below_less c.args.nodes.now c.loop-at.at c.args.above c.origin_of-at.result i.below c.loop-at-test.true from;
    }
