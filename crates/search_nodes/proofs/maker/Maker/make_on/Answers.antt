use Rattle.std.proofs.Common.{ℕ, ◌≡◌, ◌-◌, List, sym, subst, ap, ◌∙◌, arith, length, drop}
use Rattle.std.specs.Prelude.{IfOk}
use Rattle.longest_path.specs.Decisions.{order_on}
use Rattle.cert_tree.specs.Decisions.{Decision}
use Rattle.order_choice.specs.Searching.{IsMade}
use Rattle.search_nodes.specs.Making.{Making, given_on}
use Rattle.search_nodes.specs.Forcing.{HasForced}
use Rattle.search_nodes.proofs.Undoing.{back_again, no_fewer}
use Rattle.search_nodes.proofs.maker.Maker.make_on.Goals as goal

pub ascend_to-requires : goal.ascend_to-requires
ascend_to-requires c = let h = no_fewer c.args.self.now.decisions c.make_forced-made.new.self.decisions c.make_forced-made.ensures.after in omega (arith, h, c.depth-depth.ensures)

pub returns-clause-made : goal.returns-clause-made
returns-clause-made c =
    let old = c.args.self.now in
    subst (λ (m : Making). IfOk c.make_forced-made.result (λ node. (way : List Decision) → old.decisions ≡ given_on way → HasForced old.graph (order_on old.graph old.state old.decisions) c.args.suspects.now.keys → IsMade m.graph m.state m.cost way node))
    (sym c.ascend_to.ensures) c.make_forced-made.ensures.made

pub returns-clause-back : goal.returns-clause-back
returns-clause-back c =
    let old = c.args.self.now in
    let made = c.make_forced-made.new.self in
    let e = c.ascend_to.ensures in
    let cost = ap (λ (m : Making). m.cost) e in
    let asked = ap (λ (m : Making). m.asked) e in
    record {
      graph = ap (λ (m : Making). m.graph) e ∙ c.make_forced-made.ensures.graph;
      state = ap (λ (m : Making). m.state) e ∙ c.make_forced-made.ensures.state;
      decisions = ap (λ (m : Making). m.decisions) e ∙ ap (λ (n : ℕ). drop (length made.decisions - n) made.decisions) c.depth-depth.ensures ∙ back_again old.decisions made.decisions c.make_forced-made.ensures.after;
      no_dearer = omega (arith, cost, c.make_forced-made.ensures.no_dearer);
      asked = omega (arith, asked, c.make_forced-made.ensures.asked);
    }
