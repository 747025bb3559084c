use Rattle.std.proofs.lemmas.Option.{slice_get_within}
use Rattle.search_line.proofs.Climbing.{below_later, below_less}
use Rattle.search_line.proofs.Deciding.{best_then}
use Rattle.search_line.proofs.going.climb.Goals as goal

pub leave-requires-clause-child : goal.leave-requires-clause-child
leave-requires-clause-child c = below_later c.args.nodes.now c.requires.ways c.loop-at.at c.args.above c.loop-at.invariant.below c.loop-at-test.true

pub origin_of-at-requires-clause-there : goal.origin_of-at-requires-clause-there
origin_of-at-requires-clause-there c = let t = c.loop-at.invariant.those in slice_get_within c.args.nodes.now c.loop-at.at t.kept t.there

pub origin_of-at-requires-clause-child : goal.origin_of-at-requires-clause-child
origin_of-at-requires-clause-child c = below_later c.args.nodes.now c.requires.ways c.loop-at.at c.args.above c.loop-at.invariant.below c.loop-at-test.true

pub loop-at-preserved : goal.loop-at-preserved
loop-at-preserved c =
    let i = c.loop-at.invariant in
    record {
      those = c.leave.ensures.parent c.origin_of-at.result c.origin_of-at.ensures.origin;
      below = below_less c.args.nodes.now c.loop-at.at c.args.above c.origin_of-at.result i.below c.loop-at-test.true c.origin_of-at.ensures.origin;
      best = best_then c.args.maker.now c.loop-at.maker c.leave.new.maker i.best c.leave.ensures.best;
    }
