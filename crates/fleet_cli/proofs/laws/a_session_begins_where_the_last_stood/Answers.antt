use Rattle.fleet_cli.proofs.LivesHeld.{begins_where}
use Rattle.fleet_cli.proofs.laws.a_session_begins_where_the_last_stood.Goals as goal

pub returns : goal.returns
returns c = λ routes s before earlier life. begins_where routes before earlier s.start.state s.held life.0.begins
