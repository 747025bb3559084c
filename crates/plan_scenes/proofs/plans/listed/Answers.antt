use Rattle.std.proofs.Common.{◌++◌, ◌∷◌, [], List, ap, sym, ◌∙◌, take}
use Rattle.std.proofs.lemmas.List.{take_more}
use Rattle.fleet_base.specs.declared.order.Pair.{Pair}
use Rattle.std.proofs.lemmas.Option.{get_or_from_slice_get, slice_get_within}
use Rattle.plan_scenes.proofs.plans.listed.Goals as goal

pub loop-number-preserved : goal.loop-number-preserved
loop-number-preserved c =
    let table : List Pair = c.args.table.now in
    let k = c.loop-number.number in
    let p : Pair = c.pair.result in
    c.in_ok-push.ensures.items
    ∙ ap (λ (list : List Pair). list ++ p ∷ []) c.loop-number.invariant
    ∙ sym (take_more table k p (slice_get_within table k p c.pair.ensures) ∙ ap (λ (q : Pair). take k table ++ q ∷ []) (get_or_from_slice_get table k p p c.pair.ensures))
