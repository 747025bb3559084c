use Rattle.std.proofs.Common.{◌≡◌, ◌∙◌, ◌∷◌, List, length, refl, sym, ap, subst}
use Rattle.std.specs.Prelude.{slice_get, Some}
use Rattle.std.proofs.lemmas.Option.{slice_get_read, slice_get_within}
use Rattle.longest_path.specs.declared.decision.Decision.{Decision as Given}
use Rattle.order_choice.specs.declared.made.Forcing.{Forcing}
use Rattle.search_line.specs.declared.kept.Kept.{Kept}
use Rattle.search_line.specs.Going.{AreThoseOf}
use Rattle.search_line.proofs.Deciding.{can_enter, can_force_at}
use Rattle.search_nodes.specs.Forcing.{given_to, given_after}
use Rattle.search_line.proofs.going.enter.Goals as goal

pub descend-requires-clause-free : goal.descend-requires-clause-free
descend-requires-clause-free c =
    let m = c.args.maker.now in
    let s = c.requires.stand in
    let o = c.origin_of-origin in
    (can_enter m.graph m.state c.args.nodes.now c.args.number o.result m.decisions s.kept c.requires.state c.requires.ways c.requires.right c.requires.child s s.there o.ensures.origin (c.requires.parent o.result o.ensures.origin)).descend.free

pub descend-requires-clause-acyclic : goal.descend-requires-clause-acyclic
descend-requires-clause-acyclic c =
    let m = c.args.maker.now in
    let s = c.requires.stand in
    let o = c.origin_of-origin in
    (can_enter m.graph m.state c.args.nodes.now c.args.number o.result m.decisions s.kept c.requires.state c.requires.ways c.requires.right c.requires.child s s.there o.ensures.origin (c.requires.parent o.result o.ensures.origin)).descend.acyclic

pub bounds-nodes-number : goal.bounds-nodes-number
bounds-nodes-number c = let s = c.requires.stand in slice_get_within c.args.nodes.now c.args.number s.kept s.there

pub force-requires : goal.force-requires
force-requires c =
    let m = c.args.maker.now in
    let n = c.descend.new.self in
    let nodes = c.args.nodes.now in
    let s = c.requires.stand in
    let o = c.origin_of-origin in
    let kept = c.index-nodes-number.result in
    let there : slice_get nodes c.args.number ≡ Some kept = slice_get_read nodes (length nodes) c.args.number kept refl (slice_get_within nodes c.args.number s.kept s.there) c.index-nodes-number.is in
    let can = can_enter m.graph m.state nodes c.args.number o.result m.decisions kept c.requires.state c.requires.ways c.requires.right c.requires.child s there o.ensures.origin (c.requires.parent o.result o.ensures.origin) in
    can_force_at m.graph n.graph m.state n.state (given_to o.result.pair o.result.side ∷ m.decisions) n.decisions kept.node.forced c.as_slice.result.now c.descend.ensures.graph c.descend.ensures.state c.descend.ensures.decisions (c.as_slice.ensures ∙ ap (λ (z : Kept). z.node.forced) (sym c.index-nodes-number.is)) can.force

pub returns-clause-there : goal.returns-clause-there
returns-clause-there c =
    let m = c.args.maker.now in
    let n = c.descend.new.self in
    let nodes = c.args.nodes.now in
    let s = c.requires.stand in
    let o = c.origin_of-origin in
    let kept = c.index-nodes-number.result in
    let there : slice_get nodes c.args.number ≡ Some kept = slice_get_read nodes (length nodes) c.args.number kept refl (slice_get_within nodes c.args.number s.kept s.there) c.index-nodes-number.is in
    let can = can_enter m.graph m.state nodes c.args.number o.result m.decisions kept c.requires.state c.requires.ways c.requires.right c.requires.child s there o.ensures.origin (c.requires.parent o.result o.ensures.origin) in
    let e : c.force.new.maker.decisions ≡ given_after kept.node.forced (given_to o.result.pair o.result.side ∷ m.decisions) = c.force.ensures.decisions ∙ ap (λ (z : List Forcing). given_after z n.decisions) (c.as_slice.ensures ∙ ap (λ (z : Kept). z.node.forced) (sym c.index-nodes-number.is)) ∙ ap (λ (z : List Given). given_after kept.node.forced z) c.descend.ensures.decisions in
    subst (λ (z : List Given). AreThoseOf nodes c.args.number z) (sym e) can.there
