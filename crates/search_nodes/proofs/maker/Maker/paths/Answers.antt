use Rattle.std.proofs.Common.{ℕ, ◌≡◌, ◌+◌, ◌<◌, ◌≤◌, List, sym, subst, ap, arith, length}
use Rattle.fleet_base.specs.Order.{Graph}
use Rattle.cert_tree.specs.declared.node.CertPath.{CertPath}
use Rattle.cert_tree.specs.declared.node.Node.TheVariants.{Bound}
use Rattle.cert_tree.specs.CertText.{IsWritten}
use Rattle.longest_path.specs.Decisions.{order_on}
use Rattle.longest_path.specs.Deciding.{IsLeastPath}
use Rattle.order_choice.proofs.Bounds.{bound_written}
use Rattle.search_nodes.specs.Making.{Making}
use Rattle.search_nodes.proofs.Inside.{from_live}
use Rattle.search_nodes.proofs.Bounds.{ArePathsTo, no_paths, path_more, are_bound}
use Rattle.search_nodes.proofs.maker.Maker.paths.Goals as goal

pub tight_path-requires : goal.tight_path-requires
tight_path-requires c = subst (λ (g : Graph). c.loop-robot.robot < length g.lasts) (sym c.self.invariant.live_graph) (omega (arith, c.loop-robot-test.true, c.robots-robot-end.ensures.count))

pub loop-robot-init : goal.loop-robot-init
loop-robot-init c =
    let now = c.args.self.now in
    let order = order_on now.graph now.state now.decisions in
    subst (λ (paths : List CertPath). ArePathsTo now.graph now.state order 0 paths) (sym c.new-paths.ensures) (no_paths now.graph now.state order)

pub loop-robot-preserved : goal.loop-robot-preserved
loop-robot-preserved c =
    let now = c.args.self.now in
    let order = order_on now.graph now.state now.decisions in
    let n = c.loop-robot.robot in
    let pairs = c.in_ok-pairs.pairs in
    let least = from_live c.self.inside c.self.invariant now c.self.view_is (λ g x ds. IsLeastPath g x (order_on g x ds) n pairs) c.in_ok-pairs.ensures in
    subst (λ (paths : List CertPath). ArePathsTo now.graph now.state order (n + 1) paths) (sym c.in_ok-add_path.ensures) (path_more now.graph now.state order n c.loop-robot.paths pairs least c.loop-robot.invariant)

pub returns-clause-bound : goal.returns-clause-bound
returns-clause-bound c =
    let now = c.args.self.now in
    let graph : c.self.inside.graph.now ≡ now.graph = ap (λ (n : Making). n.graph) c.self.view_is in
    let count = ap (λ (g : Graph). length g.lasts) graph in
    let all : c.loop-robot.robot ≡ length now.graph.lasts = omega (arith, c.loop-robot-test.false, c.robots-robot-end.ensures.count, c.loop-robot.auto.robot-end, count) in
    let some : 1 ≤ length now.graph.lasts = omega (arith, c.robots-robot-end.ensures.limits.robots.0, count) in
    λ way relaxed cost on k le.
    are_bound now.graph now.state now.decisions way c.loop-robot.paths relaxed cost some (subst (λ (n : ℕ). ArePathsTo now.graph now.state (order_on now.graph now.state now.decisions) n c.loop-robot.paths) all c.loop-robot.invariant) on k le

pub returns-clause-written : goal.returns-clause-written
returns-clause-written c = subst (λ (paths : List CertPath). IsWritten (Bound paths)) (sym c.loop-robot.invariant.are) (bound_written c.loop-robot.robot c.loop-robot.invariant.pairs_for)
