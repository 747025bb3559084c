use Rattle.std.proofs.Common.{ℕ, List, sym, ap, ◌∙◌, subst, length, ◌<◌}
use Rattle.std.specs.Prelude.{All}
use Rattle.fleet_base.specs.declared.geometry.Visit.{Visit}
use Rattle.fleet_base.specs.declared.order.PairId.{PairId}
use Rattle.fleet_base.specs.State.{FleetState}
use Rattle.fleet_base.specs.Order.{turned}
use Rattle.fleet_core.specs.Pushing.{pushed, HaveRoom}
use Rattle.fleet_core.proofs.Applied.{there_after, heard_sides, turned_state, room_after, step_after}
use Rattle.fleet_core.proofs.applying.apply.Goals as goal

pub turn-requires : goal.turn-requires
turn-requires c =
    let x = c.args.fleet.now in
    let entry = c.args.entry.now in
    subst (λ (qs : List PairId). All (λ q. q.0 < length c.hear.new.fleet.sides) qs) (sym c.as_slice.ensures)
    (there_after c.requires.0 x c.hear.new.fleet entry.switched c.requires.1.fleet (ap (λ (y : FleetState). y.sides) c.hear.ensures ∙ heard_sides x entry.report) c.requires.3.proposal.there)

pub release-requires : goal.release-requires
release-requires c =
    let x = c.args.fleet.now in
    let entry = c.args.entry.now in
    let y = c.turn.new.fleet in
    let state = c.turn.ensures ∙ ap (λ (qs : List PairId). record c.hear.new.fleet { sides = turned c.hear.new.fleet.sides qs }) c.as_slice.ensures ∙ turned_state x c.hear.new.fleet entry.report entry.switched c.hear.ensures in
    let room = room_after c.requires.0 x entry.report entry.switched entry.releases c.requires.2 c.requires.1 c.requires.3 y state in
    subst (λ (vs : List Visit). HaveRoom y.lasts y.releases vs c.now-tick.result) (sym c.as_slice-2.ensures)
    (subst (λ (t : ℕ). HaveRoom y.lasts y.releases entry.releases t) (sym c.now-tick.ensures) room)

pub returns : goal.returns
returns c g x' s step =
    let x = c.args.fleet.now in
    let entry = c.args.entry.now in
    let y = c.turn.new.fleet in
    let state = c.turn.ensures ∙ ap (λ (qs : List PairId). record c.hear.new.fleet { sides = turned c.hear.new.fleet.sides qs }) c.as_slice.ensures ∙ turned_state x c.hear.new.fleet entry.report entry.switched c.hear.ensures in
    c.release.ensures ∙ ap (λ (vs : List Visit). record y { releases = pushed y.releases vs c.now-tick.result }) c.as_slice-2.ensures
    ∙ ap (λ (t : ℕ). record y { releases = pushed y.releases entry.releases t }) c.now-tick.ensures ∙ step_after g x entry.report entry.switched entry.releases x' s step y state
