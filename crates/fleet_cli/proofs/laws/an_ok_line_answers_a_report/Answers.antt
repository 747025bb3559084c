use Rattle.fleet_cli.proofs.LivesHeld.{ok_is_answer}
use Rattle.fleet_cli.proofs.laws.an_ok_line_answers_a_report.Goals as goal

pub returns : goal.returns
returns c = ok_is_answer
