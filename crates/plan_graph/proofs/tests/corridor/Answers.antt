use Rattle.std.proofs.Common.{refl, sym, subst, lit≤}
use Rattle.fleet_base.specs.Grid.{OccupancyGrid}
use Rattle.fleet_base.specs.Plan.{IsAccepted}
use Rattle.fleet_base.specs.Pairs.{pairs_of, pairs_between, pairs_with, pair_of}
use Rattle.plan_graph.proofs.Accepting.{accepted}
use Rattle.plan_graph.proofs.tests.corridor.Goals as goal

pub graph_of-requires-clause-accepted : goal.graph_of-requires-clause-accepted
graph_of-requires-clause-accepted c =
    subst (λ (g : OccupancyGrid). IsAccepted g _) (sym c.in_ok-grid.ensures) (accepted _ _ 13 refl refl (lit≤ tt) (lit≤ tt) (lit≤ tt) (lit≤ tt))

pub graph_of-requires-clause-pairs : goal.graph_of-requires-clause-pairs
unfolding pairs_of pairs_between pairs_with pair_of
graph_of-requires-clause-pairs c = refl
