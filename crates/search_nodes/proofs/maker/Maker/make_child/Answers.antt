use Rattle.std.proofs.Common.{◌≡◌, ◌<◌, ◌∷◌, List, sym, subst, ap, ◌∙◌, length}
use Rattle.fleet_base.specs.Order.{IsCyclic}
use Rattle.longest_path.specs.declared.decision.Decision.{Decision as Given}
use Rattle.longest_path.specs.Decisions.{order_on}
use Rattle.longest_path.proofs.LiveLaws.{open_within}
use Rattle.cert_tree.specs.Decisions.{Decision}
use Rattle.cert_tree.specs.Trees.{branch_to}
use Rattle.order_choice.specs.Searching.{IsMade, IsForcedOut}
use Rattle.search_nodes.specs.Making.{Making, given_on}
use Rattle.search_nodes.specs.Forcing.{HasNoForcing, IsForcedBy, given_to}
use Rattle.search_nodes.specs.Weighing.{IsRound}
use Rattle.search_nodes.proofs.Forcings.{no_forcing}
use Rattle.search_nodes.proofs.Suspects.{forced_by}
use Rattle.search_nodes.proofs.Nodes.{made_refused, ok_map}
use Rattle.search_nodes.proofs.maker.Maker.make_child.Goals as goal

pub round-requires-clause-cyclic : goal.round-requires-clause-cyclic
round-requires-clause-cyclic c =
    subst (λ (m : Making). IsCyclic m.graph (order_on m.graph m.state (given_to c.args.q c.args.side ∷ m.decisions))) (sym (c.decide.ensures.refused c.if-not-decide.true)) (c.decide.ensures.cyclic.0 c.if-not-decide.true)

pub returns-then-not-decide-clause-made : goal.returns-then-not-decide-clause-made
returns-then-not-decide-clause-made c =
    let old = c.args.self.now in
    let q = c.args.q in
    let side = c.args.side in
    let stand = c.in_ok-stand.stand in
    let refused = c.decide.ensures.refused c.if-not-decide.true in
    let round : IsRound old.graph (order_on old.graph old.state (given_to q side ∷ old.decisions)) stand = subst (λ (m : Making). IsRound m.graph (order_on m.graph m.state (given_to q side ∷ m.decisions)) stand) refused c.in_ok-stand.ensures.round in
    λ way on out.
    subst (λ (m : Making). IsMade m.graph m.state m.cost (branch_to q side ∷ way) (record { forced = c.new-forced.result; stand = stand })) (sym (c.round.ensures.same ∙ refused))
    (made_refused old.graph old.state old.decisions way on q side c.new-forced.result stand old.cost c.new-forced.ensures round)

pub make_branched-made-requires-clause-there : goal.make_branched-made-requires-clause-there
make_branched-made-requires-clause-there c =
    subst (λ (m : Making). c.args.q.0 < length m.graph.pairs) (sym (c.decide.ensures.kept c.if-not-decide.false)) (open_within c.args.self.now.graph c.args.self.now.state c.args.q.0 c.requires.free.0)

pub returns-clause-made : goal.returns-clause-made
returns-clause-made c =
    let old = c.args.self.now in
    let mid = c.decide.new.self in
    let made = c.make_branched-made.new.self in
    let fin = c.ascend.new.self in
    let q = c.args.q in
    let side = c.args.side in
    let kept = c.decide.ensures.kept c.if-not-decide.false in
    ok_map (λ node. (way : List Decision) → mid.decisions ≡ given_on way → IsForcedBy mid.graph (order_on mid.graph mid.state mid.decisions) q.0 → IsMade made.graph made.state made.cost way node)
    (λ node. (way : List Decision) → old.decisions ≡ given_on way → IsForcedOut old.graph old.state way → IsMade fin.graph fin.state fin.cost (branch_to q side ∷ way) node)
    (λ node is way on out.
    let given : mid.decisions ≡ given_on (branch_to q side ∷ way) = ap (λ (m : Making). m.decisions) kept ∙ ap (λ (ds : List Given). given_to q side ∷ ds) on in
    let calm : HasNoForcing old.graph (order_on old.graph old.state old.decisions) = subst (λ (ds : List Given). HasNoForcing old.graph (order_on old.graph old.state ds)) (sym on) (no_forcing old.graph old.state c.decide.ensures.rules way out) in
    let by : IsForcedBy mid.graph (order_on mid.graph mid.state mid.decisions) q.0 = subst (λ (m : Making). IsForcedBy m.graph (order_on m.graph m.state m.decisions) q.0) (sym kept) (forced_by old.graph old.state old.decisions q side c.requires.free calm) in
    subst (λ (m : Making). IsMade m.graph m.state m.cost (branch_to q side ∷ way) node) (sym c.ascend.ensures) (is (branch_to q side ∷ way) given by))
    c.make_branched-made.result c.make_branched-made.ensures.made
