use Rattle.std.proofs.Common.{ℕ, List, sym, subst, arith}
use Rattle.order_choice.specs.Searching.{AreAbove, IsBest}
use Rattle.search_nodes.specs.Making.{best_order}
use Rattle.search_line.specs.Lines.{Numbered, nodes_on, IsWaiting}
use Rattle.bound_search.proofs.Steps.{expanded_on, ready, still_ready}
use Rattle.bound_search.proofs.under_way.Search.expand.Goals as goal

pub expand-requires-clause-lower : goal.expand-requires-clause-lower
expand-requires-clause-lower c =
    let s = c.go_to.new.self in
    let e = c.in_ok-go_to.ensures in
    let waits = subst (λ (l : List Numbered). IsWaiting l c.args.next.number c.args.next.cost) (sym e.line) c.requires.next.waits in
    let r = ready s.maker s.line s.place s.expanded c.args.next.number c.args.next.cost e.under_way waits e.decisions in
    (c.in_ok-lower.ensures.made r.0 r.1 r.2).fresh

pub expand-requires-clause-higher : goal.expand-requires-clause-higher
expand-requires-clause-higher c =
    let s = c.go_to.new.self in
    let e = c.in_ok-go_to.ensures in
    let waits = subst (λ (l : List Numbered). IsWaiting l c.args.next.number c.args.next.cost) (sym e.line) c.requires.next.waits in
    let r = still_ready s.maker c.make_child.new.self _ c.in_ok-lower.ensures.back (ready s.maker s.line s.place s.expanded c.args.next.number c.args.next.cost e.under_way waits e.decisions) in
    (c.in_ok-higher.ensures.made r.0 r.1 r.2).fresh

pub returns-clause-under_way : goal.returns-clause-under_way
returns-clause-under_way c =
    let s = c.go_to.new.self in
    let o = c.make_child-2.new.self in
    let e = c.in_ok-go_to.ensures in
    let waits = subst (λ (l : List Numbered). IsWaiting l c.args.next.number c.args.next.cost) (sym e.line) c.requires.next.waits in
    let above = subst (λ (l : List Numbered). AreAbove c.args.next.cost (nodes_on l)) (sym e.line) c.requires.next.least in
    let best = subst (λ (k : ℕ). IsBest o.graph o.state (best_order o) k) c.cost-best.ensures.cost c.cost-best.ensures.best in
    expanded_on s.maker c.make_child.new.self o s.line c.expand.new.self s.place c.args.next.number c.args.next.cost s.expanded c.pair_of-q.result c.in_ok-lower.lower c.in_ok-higher.higher e.under_way e.place waits above e.decisions c.pair_of-q.ensures.conflict
    c.in_ok-lower.ensures.made c.in_ok-lower.ensures.back c.in_ok-higher.ensures.made c.in_ok-higher.ensures.back best c.in_ok-expand.ensures.expanded (omega (arith, c.count-few.ensures, c.count-few.type_inv))
