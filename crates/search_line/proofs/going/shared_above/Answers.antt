use Rattle.std.proofs.Common.{arith}
use Rattle.search_line.proofs.Climbing.{below_more}
use Rattle.search_line.proofs.going.shared_above.Goals as goal

pub loop-low-preserved-then-low-high : goal.loop-low-preserved-then-low-high
loop-low-preserved-then-low-high c =
    let i = c.loop-low.invariant in
    record {
      low = i.low;
      high = omega (arith, c.origin_of-high.ensures.earlier, i.high);
      one = i.one;
      other = below_more c.args.nodes.now c.args.other c.loop-low.high c.origin_of-high.result i.other c.origin_of-high.ensures.origin;
    }

pub loop-low-preserved : goal.loop-low-preserved
loop-low-preserved c =
    let i = c.loop-low.invariant in
    record {
      low = omega (arith, c.origin_of-low.ensures.earlier, i.low);
      high = i.high;
      one = below_more c.args.nodes.now c.args.one c.loop-low.low c.origin_of-low.result i.one c.origin_of-low.ensures.origin;
      other = i.other;
    }
