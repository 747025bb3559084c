use Rattle.std.proofs.Common.{List, refl, sym, subst, arith}
use Rattle.order_choice.specs.Searching.{forced_on, IsMadeRight}
use Rattle.search_line.specs.Lines.{Numbered, IsAt}
use Rattle.bound_search.specs.Walking.{IsBoundAt}
use Rattle.bound_search.specs.Walking.IsWrittenAs.{round, left_open, branched}
use Rattle.bound_search.proofs.Standing.{stand_is, has_cost_at, written_same, as_bound_at, as_cut_at}
use Rattle.bound_search.proofs.under_way.Search.written.Goals as goal

pub bound-requires-clause-there : goal.bound-requires-clause-there
bound-requires-clause-there c =
    let s = c.args.self.now in
    has_cost_at (IsMadeRight s.maker.graph s.maker.state) s.line c.args.number c.node.result.now _ c.requires.there c.requires.under_way.searched.right c.node.ensures c.in-Waiting-2.is tt

pub bound-requires-in-Expanded-2-clause-there : goal.bound-requires-in-Expanded-2-clause-there
bound-requires-in-Expanded-2-clause-there c =
    let s = c.args.self.now in
    has_cost_at (IsMadeRight s.maker.graph s.maker.state) s.line c.args.number c.node.result.now _ c.requires.there c.requires.under_way.searched.right c.node.ensures c.in-Expanded-2.is tt

pub returns-in_ok-cyclic-in-Round-clause-written : goal.returns-in_ok-cyclic-in-Round-clause-written
returns-in_ok-cyclic-in-Round-clause-written c = λ node way at.
    let s = c.args.self.now in
    written_same s.maker.graph s.maker.state s.maker.cost (forced_on node.forced way) _ node.stand _ _ _ _ (stand_is s.line c.args.number c.node.result.now node way _ c.node.ensures c.in-Round.is at) c.in_ok-cyclic-in-Round.ensures refl (round c.in-Round.cycle)

pub returns-in-Waiting-clause-written : goal.returns-in-Waiting-clause-written
returns-in-Waiting-clause-written c = λ node way at.
    let s = c.args.self.now in
    written_same s.maker.graph s.maker.state s.maker.cost (forced_on node.forced way) _ node.stand _ _ _ _ (stand_is s.line c.args.number c.node.result.now node way _ c.node.ensures c.in-Waiting.is at) refl refl
    (left_open c.in-Waiting.cost (omega (arith, c.if-cost-best.true, c.cost-best.ensures.cost)))

pub returns-in_ok-bound-in-Waiting-2-clause-written : goal.returns-in_ok-bound-in-Waiting-2-clause-written
returns-in_ok-bound-in-Waiting-2-clause-written c = λ node way at.
    let n = c.bound.new.self in
    let e = c.in_ok-bound-in-Waiting-2.ensures in
    let there = subst (λ (l : List Numbered). IsAt l c.args.number node way) (sym e.line) at in
    let bound = subst (λ (l : List Numbered). IsBoundAt n.maker l c.args.number c.in_ok-bound-in-Waiting-2.field-0) (sym e.line) e.bound in
    as_bound_at n.maker n.line n.place n.expanded c.args.number node way e.under_way there c.in_ok-bound-in-Waiting-2.field-0 bound c.in-Waiting.cost 0 (stand_is c.args.self.now.line c.args.number c.node.result.now node way _ c.node.ensures c.in-Waiting.is at)
    (omega (arith, c.if-cost-best.false, c.cost-best.ensures.cost, e.best.cost)) refl

pub returns-in-Expanded-clause-written : goal.returns-in-Expanded-clause-written
returns-in-Expanded-clause-written c = λ node way at.
    let s = c.args.self.now in
    written_same s.maker.graph s.maker.state s.maker.cost (forced_on node.forced way) _ node.stand _ _ _ _ (stand_is s.line c.args.number c.node.result.now node way _ c.node.ensures c.in-Expanded.is at) refl refl
    (branched c.in-Expanded.cost c.in-Expanded.pair (omega (arith, c.if-cost-best-2.true, c.cost-best.ensures.cost)))

pub returns-in_ok-bound-in-Expanded-2-clause-written : goal.returns-in_ok-bound-in-Expanded-2-clause-written
returns-in_ok-bound-in-Expanded-2-clause-written c = λ node way at.
    let n = c.bound-in-Expanded-2.new.self in
    let e = c.in_ok-bound-in-Expanded-2.ensures in
    let there = subst (λ (l : List Numbered). IsAt l c.args.number node way) (sym e.line) at in
    let bound = subst (λ (l : List Numbered). IsBoundAt n.maker l c.args.number c.in_ok-bound-in-Expanded-2.field-0) (sym e.line) e.bound in
    as_cut_at n.maker n.line n.place n.expanded c.args.number node way e.under_way there c.in_ok-bound-in-Expanded-2.field-0 bound c.in-Expanded.cost 2 c.in-Expanded.pair (stand_is c.args.self.now.line c.args.number c.node.result.now node way _ c.node.ensures c.in-Expanded.is at)
    (omega (arith, c.if-cost-best-2.false, c.cost-best.ensures.cost, e.best.cost)) refl
