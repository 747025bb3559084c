use Rattle.std.proofs.Common.{ℕ, ◌≡◌, ◌∷◌, [], ◌++◌, List, sym, subst}
use Rattle.search_line.specs.declared.kept.Origin.{Origin}
use Rattle.search_line.specs.Going.{AreThoseOf, LeadUp}
use Rattle.search_line.proofs.Climbing.{down_one, one_from, from_later, stands_up}
use Rattle.search_line.proofs.Deciding.{best_then}
use Rattle.search_line.proofs.Reaching.{right_kept}
use Rattle.search_line.proofs.going.go_down.Goals as goal

pub enter-requires-clause-right : goal.enter-requires-clause-right
enter-requires-clause-right c = right_kept c.args.maker.now c.loop-number.maker c.args.nodes.now c.loop-number.invariant.best c.requires.right

pub enter-requires-clause-child : goal.enter-requires-clause-child
enter-requires-clause-child c =
    let d = c.requires.down in
    let nodes = c.args.nodes.now in
    let i = c.loop-number.invariant.there d.below d.above d.path_up d.force in
    let items : c.loop-number.path.items ≡ c.pop.new.self.items ++ c.in-Some.number ∷ [] = c.in-Some.ensures.items in
    let e = down_one nodes d.below c.pop.new.self.items c.in-Some.number i.0 (subst (λ (z : List ℕ). LeadUp nodes d.below z i.0) items i.2) in
    from_later nodes c.requires.ways c.in-Some.number e.origin e.from

pub enter-requires-clause-stand : goal.enter-requires-clause-stand
enter-requires-clause-stand c =
    let d = c.requires.down in
    let nodes = c.args.nodes.now in
    let i = c.loop-number.invariant.there d.below d.above d.path_up d.force in
    let items : c.loop-number.path.items ≡ c.pop.new.self.items ++ c.in-Some.number ∷ [] = c.in-Some.ensures.items in
    let e = down_one nodes d.below c.pop.new.self.items c.in-Some.number i.0 (subst (λ (z : List ℕ). LeadUp nodes d.below z i.0) items i.2) in
    stands_up nodes c.requires.ways d.below c.pop.new.self.items c.in-Some.number e.rest d.stand

pub enter-requires-clause-parent : goal.enter-requires-clause-parent
enter-requires-clause-parent c origin from =
    let d = c.requires.down in
    let nodes = c.args.nodes.now in
    let i = c.loop-number.invariant.there d.below d.above d.path_up d.force in
    let items : c.loop-number.path.items ≡ c.pop.new.self.items ++ c.in-Some.number ∷ [] = c.in-Some.ensures.items in
    let e = down_one nodes d.below c.pop.new.self.items c.in-Some.number i.0 (subst (λ (z : List ℕ). LeadUp nodes d.below z i.0) items i.2) in
    let here : AreThoseOf nodes e.origin.parent c.loop-number.maker.decisions = subst (λ (k : ℕ). AreThoseOf nodes k c.loop-number.maker.decisions) (sym e.parent) i.1 in
    subst (λ (o : Origin). AreThoseOf nodes o.parent c.loop-number.maker.decisions) (one_from nodes c.in-Some.number e.origin origin e.from from) here

pub loop-number-preserved : goal.loop-number-preserved
loop-number-preserved c =
    let nodes = c.args.nodes.now in
    let items : c.loop-number.path.items ≡ c.pop.new.self.items ++ c.in-Some.number ∷ [] = c.in-Some.ensures.items in
    record {
      there = λ below above up force.
          let i = c.loop-number.invariant.there below above up force in
          let e = down_one nodes below c.pop.new.self.items c.in-Some.number i.0 (subst (λ (z : List ℕ). LeadUp nodes below z i.0) items i.2) in
          (c.in-Some.number, c.enter.ensures.there, e.rest);
      best = best_then c.args.maker.now c.loop-number.maker c.enter.new.maker c.loop-number.invariant.best c.enter.ensures.best;
    }
