use Rattle.std.proofs.Common.{ℕ, subst}
use Rattle.order_choice.specs.Searching.{IsBest}
use Rattle.search_nodes.specs.Making.{best_order}
use Rattle.bound_search.proofs.Steps.{begun}
use Rattle.bound_search.proofs.under_way.Search.begin.Goals as goal

pub returns-clause-begun : goal.returns-clause-begun
returns-clause-begun c =
    let m = c.in_ok-maker.maker in
    let n = c.make_root.new.self in
    let best = subst (λ (k : ℕ). IsBest n.graph n.state (best_order n) k) c.cost-best.ensures.cost c.cost-best.ensures.best in
    begun c.args.graph.now c.args.fleet.now m n c.in_ok-line.line c.in_ok-root.root c.requires.state c.in_ok-maker.ensures.graph c.in_ok-maker.ensures.state c.in_ok-maker.ensures.none c.in_ok-root.ensures.back c.in_ok-root.ensures.made best c.in_ok-line.ensures
