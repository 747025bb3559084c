use Rattle.std.proofs.Common.{List, subst, get_or}
use Rattle.std.specs.Prelude.{Contains}
use Rattle.fleet_base.specs.declared.order.PairId.{PairId}
use Rattle.fleet_base.proofs.Sorting.{here_in}
use Rattle.cert_trials.proofs.mates.cycle_of.Goals as goal

pub mate_cycle-requires : goal.mate_cycle-requires
mate_cycle-requires c =
    let mates : List PairId = c.mates-mate-items.result.now in
    let none : PairId = record { 0 = 0 } in
    let mate : PairId = get_or mates c.loop-mate.mate-index none in
    (c.requires.mates.lists c.args.a.0 c.requires.there).mates mate (subst (λ (list : List PairId). Contains list mate) c.mates-mate-items.ensures (here_in mates c.loop-mate.mate-index none c.loop-mate-test.true))
