use Rattle.std.proofs.Common.{◌⊎◌, List, sym, subst}
use Rattle.std.specs.Prelude.{Contains}
use Rattle.fleet_base.specs.declared.order.PairId.{PairId}
use Rattle.search_nodes.proofs.Suspects.{none_suspected, more_suspected, only_suspected, all_suspected}
use Rattle.search_nodes.proofs.forcing.suspect_mates.Goals as goal

pub loop-mate-init : goal.loop-mate-init
loop-mate-init c = none_suspected c.mates-mate-items.result.now c.args.suspects.now.keys

pub loop-mate-preserved : goal.loop-mate-preserved
loop-mate-preserved c = more_suspected c.mates-mate-items.result.now c.loop-mate.mate-index c.args.suspects.now.keys c.loop-mate.suspects.keys c.suspect.new.suspects.keys c.loop-mate-test.true c.loop-mate.invariant c.in_ok-suspect.ensures.has c.suspect.ensures.stay c.suspect.ensures.only

pub returns-in_err-suspect-clause-only : goal.returns-in_err-suspect-clause-only
returns-in_err-suspect-clause-only c =
    let old = c.args.suspects.now.keys in
    λ q h.
    subst (λ (mates : List PairId). Contains mates (record { 0 = q }) ⊎ Contains old q) c.mates-mate-items.ensures
    (only_suspected c.mates-mate-items.result.now c.loop-mate.mate-index old c.loop-mate.suspects.keys c.suspect.new.suspects.keys c.loop-mate-test.true c.loop-mate.invariant c.suspect.ensures.only q h)

pub returns-clause-has : goal.returns-clause-has
returns-clause-has c =
    let mates = c.mates-mate-items.result.now in
    λ r h.
    all_suspected mates c.loop-mate.mate-index c.args.suspects.now.keys c.loop-mate.suspects.keys c.loop-mate-test.false c.loop-mate.invariant r (subst (λ (l : List PairId). Contains l r) (sym c.mates-mate-items.ensures) h)

pub returns-clause-only : goal.returns-clause-only
returns-clause-only c =
    let old = c.args.suspects.now.keys in
    λ q h. subst (λ (mates : List PairId). Contains mates (record { 0 = q }) ⊎ Contains old q) c.mates-mate-items.ensures (c.loop-mate.invariant.only q h)
