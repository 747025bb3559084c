use Rattle.fleet_journal.proofs.tests.make.Goals.{in-Blank, in-Live}
use Rattle.fleet_journal.proofs.tests.make.Goals as goal

pub returns-clause-stands : goal.returns-clause-stands
returns-clause-stands g c told = elim c.match-branch-2.branch [
  | in-Blank w ↦ rw (w.result-is, w.station-is) (w.create.ensures.creates told)
  | in-Live w ↦ rw w.result-is tt
]
