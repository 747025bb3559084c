use Rattle.std.proofs.Common.{sym, ap, ◌∙◌, arith}
use Rattle.fleet_base.specs.Open.{is_open}
use Rattle.fleet_serve.proofs.Counting.{counted, count_more}
use Rattle.fleet_serve.proofs.room.open_count.Goals.{then-is_open, else-is_open}
use Rattle.fleet_serve.proofs.room.open_count.Goals as goal

pub loop-number-preserved : goal.loop-number-preserved
loop-number-preserved c =
    let more = count_more (is_open c.args.graph.now c.args.fleet.now) c.loop-number.number in
    elim c.if-is_open.branch [
      | then-is_open w ↦
          let yes = ap counted (sym c.is_open.ensures ∙ w.if-is_open.true) in
          record { counted = omega (arith, more, yes, w.count-is, c.loop-number.invariant.counted); small = omega (arith, w.count-is, c.loop-number.invariant.small) }
      | else-is_open w ↦
          let no = ap counted (sym c.is_open.ensures ∙ w.if-is_open.false) in
          record { counted = omega (arith, more, no, w.count-is, c.loop-number.invariant.counted); small = omega (arith, w.count-is, c.loop-number.invariant.small) }
    ]
