use Rattle.std.proofs.Common.{ℕ, ◌≡◌, ◌∷◌, List, sym, subst, ap}
use Rattle.fleet_base.specs.declared.order.PairId.{PairId}
use Rattle.longest_path.specs.Deciding.{order_in_force}
use Rattle.search_nodes.specs.Forcing.{HasForced}
use Rattle.search_nodes.proofs.Suspects.{none_forced, not_forced, popped_there}
use Rattle.search_nodes.proofs.forcing.next_forcing.Goals as goal

pub forcing_of-requires-clause-there : goal.forcing_of-requires-clause-there
forcing_of-requires-clause-there c = (popped_there c.args.live.now.graph c.loop-number.suspects.keys c.pop_first.new.self.keys c.in-Some.number c.in-Some.ensures.removal c.loop-number.invariant.0).0

pub returns-in-Some-forcing_of-clause-left : goal.returns-in-Some-forcing_of-clause-left
returns-in-Some-forcing_of-clause-left c =
    let g = c.args.live.now.graph in
    let order = order_in_force c.args.live.now in
    let same : c.in-Some.number ≡ c.in-Some-forcing_of.forcing.pair.0 = sym (ap (λ (q : PairId). q.0) c.in-Some-forcing_of.ensures.pair) in
    λ h. subst (λ (k : ℕ). HasForced g order (k ∷ c.pop_first.new.self.keys)) same (subst (λ (ks : List ℕ). HasForced g order ks) c.in-Some.ensures.removal (c.loop-number.invariant.1 h))

pub returns-in-Some-forcing_of-clause-there : goal.returns-in-Some-forcing_of-clause-there
returns-in-Some-forcing_of-clause-there c = (popped_there c.args.live.now.graph c.loop-number.suspects.keys c.pop_first.new.self.keys c.in-Some.number c.in-Some.ensures.removal c.loop-number.invariant.0).1

pub loop-number-preserved : goal.loop-number-preserved
loop-number-preserved c =
    let g = c.args.live.now.graph in
    let order = order_in_force c.args.live.now in (
      (popped_there g c.loop-number.suspects.keys c.pop_first.new.self.keys c.in-Some.number c.in-Some.ensures.removal c.loop-number.invariant.0).1,
      λ h. not_forced g order c.in-Some.number c.pop_first.new.self.keys c.in_default-forcing_of.ensures.none (subst (λ (ks : List ℕ). HasForced g order ks) c.in-Some.ensures.removal (c.loop-number.invariant.1 h)),
    )

pub returns-clause-none : goal.returns-clause-none
returns-clause-none c =
    λ h.
    none_forced c.args.live.now.graph (order_in_force c.args.live.now) c.loop-number.suspects.keys (λ lt. absurd (let z = c.in_default.ensures.variant.1 lt in cc)) (c.loop-number.invariant.1 h)
