use Rattle.bound_search.proofs.Steps.{has_conflict}
use Rattle.bound_search.proofs.under_way.Search.pair_of.Goals as goal

pub unreachable-requires : goal.unreachable-requires
unreachable-requires c =
    let s = c.args.self.now in
    has_conflict s.maker s.line s.place s.expanded c.args.next.number c.args.next.cost c.requires.under_way c.requires.next c.requires.decisions c.in-None.ensures.none
