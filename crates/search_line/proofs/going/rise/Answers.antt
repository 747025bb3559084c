use Rattle.std.proofs.Common.{ℕ, ◌≡◌, ◌<◌, ◌∙◌, [], List, length, refl, sym, ap, subst, arith}
use Rattle.std.specs.Prelude.{slice_get, Option, Some}
use Rattle.std.proofs.lemmas.Option.{slice_get_read}
use Rattle.longest_path.specs.declared.decision.Decision.{Decision as Given}
use Rattle.order_choice.specs.declared.made.Forcing.{Forcing}
use Rattle.search_line.specs.declared.kept.Kept.{Kept}
use Rattle.search_line.specs.Going.{AreThoseOf, BeginsAt, CanForce, HasNoCycle}
use Rattle.search_line.proofs.Deciding.{can_begin}
use Rattle.search_nodes.specs.Forcing.{given_after}
use Rattle.search_line.proofs.going.rise.Goals as goal

pub force-requires : goal.force-requires
force-requires c =
    let m = c.args.maker.now in
    let nodes = c.args.nodes.now in
    let kept = c.index-nodes-0.result in
    let top : c.args.above ≡ 0 = c.requires.root c.in-None.is in
    let inside : 0 < length nodes = omega (arith, c.requires.there) in
    let there : slice_get nodes 0 ≡ Some kept = slice_get_read nodes (length nodes) 0 kept refl inside c.index-nodes-0.is in
    let none : m.decisions ≡ [] = subst (λ (o : Option ℕ). BeginsAt nodes o m.decisions) c.in-None.is c.requires.begins in
    let stand : HasNoCycle nodes 0 = subst (λ (k : ℕ). HasNoCycle nodes k) top c.requires.stand in
    subst (λ (z : List Forcing). CanForce m.graph m.state m.decisions z) (sym (c.as_slice.ensures ∙ ap (λ (z : Kept). z.node.forced) (sym c.index-nodes-0.is))) (can_begin m.graph m.state nodes m.decisions kept c.requires.state c.requires.ways c.requires.right stand there none).0

pub returns-in-None-clause-there : goal.returns-in-None-clause-there
returns-in-None-clause-there c =
    let m = c.args.maker.now in
    let nodes = c.args.nodes.now in
    let kept = c.index-nodes-0.result in
    let top : c.args.above ≡ 0 = c.requires.root c.in-None.is in
    let inside : 0 < length nodes = omega (arith, c.requires.there) in
    let there : slice_get nodes 0 ≡ Some kept = slice_get_read nodes (length nodes) 0 kept refl inside c.index-nodes-0.is in
    let none : m.decisions ≡ [] = subst (λ (o : Option ℕ). BeginsAt nodes o m.decisions) c.in-None.is c.requires.begins in
    let stand : HasNoCycle nodes 0 = subst (λ (k : ℕ). HasNoCycle nodes k) top c.requires.stand in
    let e : c.force.new.maker.decisions ≡ given_after kept.node.forced m.decisions = c.force.ensures.decisions ∙ ap (λ (z : List Forcing). given_after z m.decisions) (c.as_slice.ensures ∙ ap (λ (z : Kept). z.node.forced) (sym c.index-nodes-0.is)) in
    subst (λ (k : ℕ). AreThoseOf nodes k c.force.new.maker.decisions) (sym top) (subst (λ (z : List Given). AreThoseOf nodes 0 z) (sym e) (can_begin m.graph m.state nodes m.decisions kept c.requires.state c.requires.ways c.requires.right stand there none).1)
