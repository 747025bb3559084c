use Rattle.fleet_base.proofs.Crossing.{lower_goes, higher_waits, higher_goes}
use Rattle.fleet_base.proofs.examples.the_crossing_releases_one_after_the_other.Goals as goal

pub returns-clause-first : goal.returns-clause-first
returns-clause-first c = lower_goes

pub returns-clause-waits : goal.returns-clause-waits
returns-clause-waits c = higher_waits

pub returns-clause-follows : goal.returns-clause-follows
returns-clause-follows c = higher_goes
