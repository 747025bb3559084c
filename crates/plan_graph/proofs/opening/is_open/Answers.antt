use Rattle.plan_graph.proofs.opening.is_open.Goals as goal

pub is_settled-requires-clause-there : goal.is_settled-requires-clause-there
is_settled-requires-clause-there c = c.requires.fleet.graph.lower _ _ c.pair-pair.ensures

pub is_settled-requires-then-not-is_settled-clause-there : goal.is_settled-requires-then-not-is_settled-clause-there
is_settled-requires-then-not-is_settled-clause-there c = c.requires.fleet.graph.higher _ _ c.pair-pair.ensures
