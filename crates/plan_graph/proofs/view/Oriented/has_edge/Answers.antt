use Rattle.std.proofs.lemmas.Bool.{false≢true}
use Rattle.plan_graph.proofs.view.Oriented.has_edge.Goals as goal

pub returns-in-None : goal.returns-in-None
returns-in-None c = (λ h. absurd (false≢true h), λ e. absurd (c.in-None.ensures.none c.args.u e))
