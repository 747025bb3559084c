use Rattle.fleet_journal.proofs.Bytes.{ends_there}
use Rattle.fleet_recovery.proofs.opening.make.Goals as goal

pub returns-in_err-create-clause-any_moment : goal.returns-in_err-create-clause-any_moment
returns-in_err-create-clause-any_moment g c told kept = c.create.ensures.any_moment told _ c.in_ok-header.ensures.header kept

pub returns-clause-creates : goal.returns-clause-creates
returns-clause-creates g c told = c.in_ok-create.ensures.creates told _ c.in_ok-header.ensures.header

pub returns-clause-any_moment : goal.returns-clause-any_moment
returns-clause-any_moment g c told kept = c.create.ensures.any_moment told _ c.in_ok-header.ensures.header kept

pub returns-clause-ends : goal.returns-clause-ends
returns-clause-ends g c told = ends_there _ _ (c.in_ok-create.ensures.ends told)
