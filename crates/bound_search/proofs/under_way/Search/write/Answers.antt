use Rattle.order_choice.specs.Searching.{IsMadeRight}
use Rattle.bound_search.proofs.Walks.{walked_all}
use Rattle.bound_search.proofs.under_way.Search.write.Goals as goal

pub returns-clause-cert : goal.returns-clause-cert
returns-clause-cert c =
    let s = c.loop-walk.self in
    walked_all s.maker s.line c.loop-walk.walk (IsMadeRight s.maker.graph s.maker.state) c.loop-walk.invariant.under_way.searched.right c.loop-walk.invariant.walked c.in_default.is
