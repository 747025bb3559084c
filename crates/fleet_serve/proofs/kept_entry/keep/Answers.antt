use Rattle.std.proofs.Common.{ap}
use Rattle.station_api.proofs.Moments.{leaves_also}
use Rattle.fleet_journal.specs.Standing.{Standing}
use Rattle.fleet_recovery.proofs.Following.{adds_one}
use Rattle.fleet_serve.proofs.StepMoments.{stands_behind, rests_behind}
use Rattle.fleet_serve.proofs.kept_entry.keep.Goals as goal

pub returns-in_err-append-clause-any_moment : goal.returns-in_err-append-clause-any_moment
returns-in_err-append-clause-any_moment g c told routes papers payload x' framed enters rest =
    leaves_also _ _ _ _ (c.append.ensures.any_moment told rest.header rest.entries payload framed rest.stands rest.kept)
    (λ scene keeps. adds_one routes papers c.args.journal.now.side rest.header rest.entries payload c.args.fleet.now x' rest.means enters scene keeps)

pub returns-clause-stands : goal.returns-clause-stands
returns-clause-stands g c told routes papers payload x' framed enters h =
    stands_behind routes papers payload c.args.fleet.now x' enters c.args.journal.now c.append.new.self _ _ h (c.in_ok-append.ensures.adds told h.header h.entries payload framed h.stands)

pub returns-clause-rests : goal.returns-clause-rests
returns-clause-rests g c told routes papers payload x' framed enters rest =
    rests_behind routes papers payload c.args.fleet.now x' enters c.args.journal.now c.append.new.self _ _ rest (c.in_ok-append.ensures.adds told rest.header rest.entries payload framed rest.stands) (c.in_ok-append.ensures.kept told rest.kept)
    (ap (λ (j : Standing). j.side) c.in_ok-append.ensures.moves) (c.append.ensures.beside told)

pub returns-clause-any_moment : goal.returns-clause-any_moment
returns-clause-any_moment g c told routes papers payload x' framed enters rest =
    leaves_also _ _ _ _ (c.append.ensures.any_moment told rest.header rest.entries payload framed rest.stands rest.kept)
    (λ scene keeps. adds_one routes papers c.args.journal.now.side rest.header rest.entries payload c.args.fleet.now x' rest.means enters scene keeps)
