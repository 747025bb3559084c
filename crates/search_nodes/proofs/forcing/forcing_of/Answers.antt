use Rattle.std.proofs.Common.{◌≡◌, None, sym, ◌∙◌, arith, get_or}
use Rattle.longest_path.specs.Deciding.{order_in_force}
use Rattle.search_nodes.proofs.Sides.{mate_there, no_side}
use Rattle.search_nodes.proofs.Suspects.{read_mate, read_more, all_read}
use Rattle.search_nodes.proofs.forcing.forcing_of.Goals as goal
use Rattle.fleet_base.proofs.Mates.{mates_turned}

pub side-requires-in-loop-mate : goal.side-requires-in-loop-mate
side-requires-in-loop-mate c =
    let g = c.args.live.now.graph in
    let k = c.loop-mate.mate-index in
    mate_there g c.args.pair.0 (get_or c.mates-mate-items.result.now k (record { 0 = 0 })).0 (read_mate g c.args.groups.now c.args.pair.0 c.mates-mate-items.result.now c.requires.mates c.requires.there c.mates-mate-items.ensures k c.loop-mate-test.true)

pub returns-in-Some-clause-some : goal.returns-in-Some-clause-some
returns-in-Some-clause-some c =
    let g = c.args.live.now.graph in
    let k = c.loop-mate.mate-index in
    let r = get_or c.mates-mate-items.result.now k (record { 0 = 0 }) in
    record {
      mates = mates_turned g c.args.pair.0 r.0 (read_mate g c.args.groups.now c.args.pair.0 c.mates-mate-items.result.now c.requires.mates c.requires.there c.mates-mate-items.ensures k c.loop-mate-test.true);
      none = sym c.side.ensures ∙ no_side c.side.result c.if-is_some.ensures;
      side = sym c.in-Some.ensures;
    }

pub loop-mate-preserved : goal.loop-mate-preserved
loop-mate-preserved c = read_more c.mates-mate-items.result.now (λ r. order_in_force c.args.live.now r ≡ None) c.loop-mate.mate-index c.loop-mate.invariant (sym c.side-in-loop-mate.ensures ∙ c.in_default.is)

pub returns-clause-none : goal.returns-clause-none
returns-clause-none c =
    λ r m none.
    all_read c.args.live.now.graph c.args.groups.now c.args.pair.0 c.mates-mate-items.result.now c.requires.mates c.requires.there c.mates-mate-items.ensures (λ r. order_in_force c.args.live.now r ≡ None)
    (λ k s less at. c.loop-mate.invariant k s (omega (arith, less, c.loop-mate-test.false)) at) r m
