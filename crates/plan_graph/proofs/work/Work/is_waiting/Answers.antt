use Rattle.std.proofs.Common.{List, length, refl, sym, subst, arith, ap, ◌≡◌, ◌<◌, ◌≤◌}
use Rattle.std.specs.Prelude.{slice_get, Some}
use Rattle.std.proofs.lemmas.Bool.{ltb-true, ltb-false, false≢true}
use Rattle.std.proofs.lemmas.List.{get_or_read}
use Rattle.std.proofs.lemmas.Option.{slice_get_read}
use Rattle.plan_graph.specs.declared.work.Waiting.{Waiting}
use Rattle.plan_graph.proofs.Places.{standing, not_standing}
use Rattle.plan_graph.proofs.work.Work.is_waiting.Goals as goal

pub returns-in-Some : goal.returns-in-Some
returns-in-Some c =
    let k = c.index.result.now in
    let at = get_or_read c.args.self.now.place.items c.args.robot k (omega (arith, c.requires.there)) c.index.ensures 0 in
    let within : k < length c.deref.result.now = ltb-true _ _ (sym c.in-Some.ensures.lookup.0) in
    let here : slice_get c.args.self.now.waiting.items k ≡ Some c.in-Some.waiting.now =
    subst (λ (ws : List Waiting). slice_get ws k ≡ Some c.in-Some.waiting.now) c.deref.ensures.value (slice_get_read c.deref.result.now (length c.deref.result.now) k c.in-Some.waiting.now refl within c.in-Some.ensures.lookup.1)
    in
    standing c.args.self.now.waiting.items c.args.self.now.place.items c.args.robot k c.in-Some.waiting.now c.requires.places here (sym at)

pub returns-in-None : goal.returns-in-None
returns-in-None c =
    let k = c.index.result.now in
    let at = get_or_read c.args.self.now.place.items c.args.robot k (omega (arith, c.requires.there)) c.index.ensures 0 in
    let past : length c.deref.result.now ≤ k = ltb-false _ _ (sym c.in-None.ensures.lookup.0) in
    (λ h. absurd (false≢true h), λ h. absurd (not_standing c.args.self.now.waiting.items c.args.self.now.place.items c.args.robot c.requires.places (omega (arith, past, at, ap (λ (ws : List Waiting). length ws) c.deref.ensures.value)) h))
