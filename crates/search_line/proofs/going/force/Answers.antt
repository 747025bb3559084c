use Rattle.std.proofs.Common.{◌≡◌, ◌+◌, ◌∙◌, ◌∷◌, List, drop, get_or, refl, sym, ap, subst}
use Rattle.std.proofs.lemmas.List.{drop_more}
use Rattle.fleet_base.specs.declared.order.Side.TheVariants.{Lower}
use Rattle.longest_path.specs.declared.decision.Decision.{Decision as Given}
use Rattle.order_choice.specs.declared.made.Forcing.{Forcing}
use Rattle.search_line.specs.Going.{CanForce}
use Rattle.search_line.proofs.Deciding.{force_first, force_rest, can_force_at, best_then}
use Rattle.search_nodes.specs.Forcing.{given_after}
use Rattle.search_line.proofs.going.force.Goals as goal

abbrev none : Forcing
none = record { pair = record { 0 = 0 }; side = Lower; mate = record { 0 = 0 } }

pub descend-requires-clause-free : goal.descend-requires-clause-free
descend-requires-clause-free c =
    let m = c.loop-forcing.maker in
    let fs = c.args.forced.now in
    let k = c.loop-forcing.forcing-index in
    (force_first m.graph m.state m.decisions (get_or fs k none) (drop (k + 1) fs) (subst (λ (z : List Forcing). CanForce m.graph m.state m.decisions z) (drop_more fs k none c.loop-forcing-test.true) c.loop-forcing.invariant.can)).free

pub descend-requires-clause-acyclic : goal.descend-requires-clause-acyclic
descend-requires-clause-acyclic c =
    let m = c.loop-forcing.maker in
    let fs = c.args.forced.now in
    let k = c.loop-forcing.forcing-index in
    (force_first m.graph m.state m.decisions (get_or fs k none) (drop (k + 1) fs) (subst (λ (z : List Forcing). CanForce m.graph m.state m.decisions z) (drop_more fs k none c.loop-forcing-test.true) c.loop-forcing.invariant.can)).acyclic

pub loop-forcing-preserved : goal.loop-forcing-preserved
loop-forcing-preserved c =
    let m = c.loop-forcing.maker in
    let n = c.descend.new.self in
    let fs = c.args.forced.now in
    let k = c.loop-forcing.forcing-index in
    let more : drop k fs ≡ get_or fs k none ∷ drop (k + 1) fs = drop_more fs k none c.loop-forcing-test.true in
    let e = c.descend.ensures in
    record {
      can = can_force_at m.graph n.graph m.state n.state (record { pair = (get_or fs k none).pair; side = (get_or fs k none).side } ∷ m.decisions) n.decisions (drop (k + 1) fs) (drop (k + 1) fs) e.graph e.state e.decisions refl (force_rest m.graph m.state m.decisions (get_or fs k none) (drop (k + 1) fs) (subst (λ (z : List Forcing). CanForce m.graph m.state m.decisions z) more c.loop-forcing.invariant.can));
      same = ap (λ (z : List Given). given_after (drop (k + 1) fs) z) e.decisions ∙ sym (ap (λ (z : List Forcing). given_after z m.decisions) more) ∙ c.loop-forcing.invariant.same;
      best = best_then c.args.maker.now m n c.loop-forcing.invariant.best (record { graph = e.graph; state = e.state; best = e.best; cost = e.cost; asked = e.asked });
    }
