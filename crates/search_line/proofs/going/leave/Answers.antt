use Rattle.std.proofs.Common.{◌≡◌, ◌∙◌, List, length, drop, refl, sym, ap, subst, arith, length-drop}
use Rattle.std.proofs.lemmas.Option.{slice_get_read, slice_get_within}
use Rattle.longest_path.specs.declared.decision.Decision.{Decision as Given}
use Rattle.order_choice.specs.declared.made.Forcing.{Forcing}
use Rattle.search_nodes.specs.Making.{Making}
use Rattle.search_line.specs.declared.kept.Kept.{Kept}
use Rattle.search_line.specs.Going.{AreThoseOf}
use Rattle.search_line.proofs.Deciding.{can_leave}
use Rattle.search_line.proofs.going.leave.Goals as goal

pub take_back-requires : goal.take_back-requires
take_back-requires c =
    let nodes = c.args.nodes.now in
    let f = c.requires.force in
    let l = can_leave nodes c.args.number c.args.maker.now.decisions c.index-nodes-number.result c.requires.ways c.requires.child (slice_get_read nodes (length nodes) c.args.number c.index-nodes-number.result refl (slice_get_within nodes c.args.number f.kept f.there) c.index-nodes-number.is) f in
    omega (arith, l.many, ap length (c.as_slice-forced.ensures ∙ ap (λ (z : Kept). z.node.forced) (sym c.index-nodes-number.is)))

pub ascend-requires : goal.ascend-requires
ascend-requires c =
    let nodes = c.args.nodes.now in
    let f = c.requires.force in
    let l = can_leave nodes c.args.number c.args.maker.now.decisions c.index-nodes-number.result c.requires.ways c.requires.child (slice_get_read nodes (length nodes) c.args.number c.index-nodes-number.result refl (slice_get_within nodes c.args.number f.kept f.there) c.index-nodes-number.is) f in
    omega (arith, l.many, ap length (c.as_slice-forced.ensures ∙ ap (λ (z : Kept). z.node.forced) (sym c.index-nodes-number.is)), ap (λ (m : Making). length m.decisions) c.take_back.ensures, length-drop {A = Given})

pub returns-clause-parent : goal.returns-clause-parent
returns-clause-parent c origin from =
    let nodes = c.args.nodes.now in
    let f = c.requires.force in
    let ds = c.args.maker.now.decisions in
    let l = can_leave nodes c.args.number ds c.index-nodes-number.result c.requires.ways c.requires.child (slice_get_read nodes (length nodes) c.args.number c.index-nodes-number.result refl (slice_get_within nodes c.args.number f.kept f.there) c.index-nodes-number.is) f in
    let up : c.take_back.new.maker.decisions ≡ drop (length c.index-nodes-number.result.node.forced) ds = ap (λ (m : Making). m.decisions) c.take_back.ensures ∙ ap (λ (z : List Forcing). drop (length z) ds) (c.as_slice-forced.ensures ∙ ap (λ (z : Kept). z.node.forced) (sym c.index-nodes-number.is)) in
    let e : c.ascend.new.self.decisions ≡ drop 1 (drop (length c.index-nodes-number.result.node.forced) ds) = ap (λ (m : Making). m.decisions) c.ascend.ensures ∙ ap (λ (z : List Given). drop 1 z) up in
    subst (λ (z : List Given). AreThoseOf nodes origin.parent z) (sym e) (l.there origin from)
