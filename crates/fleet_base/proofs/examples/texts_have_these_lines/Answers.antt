use Rattle.fleet_base.proofs.Crossing.{some_lines, a_file, a_release}
use Rattle.fleet_base.proofs.examples.texts_have_these_lines.Goals as goal

pub returns-clause-stream : goal.returns-clause-stream
returns-clause-stream c = some_lines

pub returns-clause-file : goal.returns-clause-file
returns-clause-file c = a_file

pub returns-clause-release : goal.returns-clause-release
returns-clause-release c = a_release
