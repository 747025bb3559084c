use Rattle.std.proofs.Common.{arith}
use Rattle.search_line.specs.Lines.{nodes_on}
use Rattle.bound_search.proofs.Refining.{all_above_less}
use Rattle.bound_search.proofs.under_way.Search.next.Goals as goal

pub returns-in_err-next-clause-none : goal.returns-in_err-next-clause-none
returns-in_err-next-clause-none c = rw c.from_residual.ensures (c.in_err-next.ensures.none c.args.self.now.maker.cost)

pub returns-else-next-cost-clause-none : goal.returns-else-next-cost-clause-none
returns-else-next-cost-clause-none c =
    let s = c.args.self.now in
    all_above_less s.maker.cost c.in_ok-next.next.cost (nodes_on s.line) (omega (arith, c.if-next-cost.false, c.cost.ensures.cost)) c.in_ok-next.ensures.least
