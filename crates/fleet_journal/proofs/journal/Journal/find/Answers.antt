use Rattle.std.proofs.Common.{subst}
use Rattle.station_api.specs.Scene.{Scene}
use Rattle.fleet_journal.specs.Reading.{IsFoundOn}
use Rattle.fleet_journal.proofs.Refusals.{none_refused}
use Rattle.fleet_journal.proofs.journal.Journal.find.Goals as goal

pub returns-clause-found : goal.returns-clause-found
returns-clause-found g c told =
    c.choose.ensures.found _ (c.in_ok-a.ensures.found told) (subst (λ (s : Scene). IsFoundOn s.b c.in_ok-b.b) (c.look_at.ensures.quiet told).seen (c.in_ok-b.ensures.found told))

pub returns-clause-refused : goal.returns-clause-refused
returns-clause-refused g c =
    none_refused _ _ _ c.choose.ensures.only
    (λ told. c.choose.ensures.none _ (c.in_ok-a.ensures.found told) (subst (λ (s : Scene). IsFoundOn s.b c.in_ok-b.b) (c.look_at.ensures.quiet told).seen (c.in_ok-b.ensures.found told)))
