use Rattle.std.proofs.Common.{ℕ, List, Option, sym, subst, ap, ◌∙◌, arith}
use Rattle.fleet_base.specs.declared.geometry.Visit.{Visit}
use Rattle.fleet_base.specs.declared.order.Side.{Side}
use Rattle.fleet_base.specs.Order.{Graph, IsVisit}
use Rattle.longest_path.specs.declared.decision.Decision.{Decision as Given}
use Rattle.longest_path.specs.Deciding.{order_in_force}
use Rattle.longest_path.specs.Decisions.{order_on}
use Rattle.search_nodes.specs.Making.{Making}
use Rattle.search_nodes.specs.Weighing.{IsLeastSum}
use Rattle.search_nodes.proofs.Ways.{same_order}
use Rattle.search_nodes.proofs.Inside.{from_live}
use Rattle.search_nodes.proofs.Makers.{least_sum}
use Rattle.search_nodes.proofs.Candidates.{relaxed_weighs}
use Rattle.search_nodes.proofs.maker.Maker.weigh.Goals as goal

pub at-least-requires : goal.at-least-requires
at-least-requires c =
    let origin : Visit = record { robot = 0; index = 0 } in
    let there : IsVisit c.self.inside.graph.now origin = record { robot = omega (arith, c.robots-some.ensures.limits.robots.0); index = omega arith } in
    subst (λ (g : Graph). IsVisit g origin) (sym c.self.invariant.live_graph) there

pub returns-then-self-relaxed-clause-relaxed : goal.returns-then-self-relaxed-clause-relaxed
returns-then-self-relaxed-clause-relaxed c =
    let live = c.self.inside.live in
    from_live c.self.inside c.self.invariant c.args.self.now c.self.view_is (λ g x ds. IsLeastSum g x (order_on g x ds) c.end_sum-relaxed.result)
    (least_sum live.graph live.state (order_in_force live) (record { robot = 0; index = 0 }) c.at-least.result c.end_sum-relaxed.result c.at-least.ensures.least c.end_sum-relaxed.ensures.cost)

pub returns-then-self-relaxed-clause-weighed : goal.returns-then-self-relaxed-clause-weighed
returns-then-self-relaxed-clause-weighed c =
    let live = c.self.inside.live in
    let now = c.args.self.now in
    let sum : IsLeastSum now.graph now.state (order_on now.graph now.state now.decisions) c.end_sum-relaxed.result = from_live c.self.inside c.self.invariant now c.self.view_is (λ g x ds. IsLeastSum g x (order_on g x ds) c.end_sum-relaxed.result)
    (least_sum live.graph live.state (order_in_force live) (record { robot = 0; index = 0 }) c.at-least.result c.end_sum-relaxed.result c.at-least.ensures.least c.end_sum-relaxed.ensures.cost) in
    λ way on.
    relaxed_weighs now.graph now.state way c.end_sum-relaxed.result now.cost
    (subst (λ (o : ℕ → Option Side). IsLeastSum now.graph now.state o c.end_sum-relaxed.result) (ap (λ (es : List Given). order_on now.graph now.state es) on ∙ same_order now.graph now.state way) sum)
    (let cost = ap (λ (n : Making). n.cost) c.self.view_is in omega (arith, cost, c.if-self-relaxed.true))

pub returns-clause-relaxed : goal.returns-clause-relaxed
returns-clause-relaxed c =
    let live = c.self.inside.live in
    from_live c.self.inside c.self.invariant c.args.self.now c.self.view_is (λ g x ds. IsLeastSum g x (order_on g x ds) c.end_sum-relaxed.result)
    (least_sum live.graph live.state (order_in_force live) (record { robot = 0; index = 0 }) c.at-least.result c.end_sum-relaxed.result c.at-least.ensures.least c.end_sum-relaxed.ensures.cost)
