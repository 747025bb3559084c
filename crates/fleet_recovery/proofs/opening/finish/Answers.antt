use Rattle.std.proofs.Common.{subst}
use Rattle.fleet_journal.specs.Standing.{Standing}
use Rattle.fleet_journal.specs.Journal.{Stands}
use Rattle.fleet_recovery.proofs.opening.finish.Goals as goal

pub returns-clause-keeps : goal.returns-clause-keeps
returns-clause-keeps g c told header entries stands =
    subst (λ (j : Standing). Stands j header entries (g.T.Station.clock c.finish.new.station).seen) c.finish.ensures.stays (c.in_ok-finish.ensures.keeps told header entries stands)
