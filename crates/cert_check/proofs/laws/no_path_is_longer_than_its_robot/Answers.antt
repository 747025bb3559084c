use Rattle.cert_tree.proofs.PathBound.{path_below}
use Rattle.cert_check.proofs.laws.no_path_is_longer_than_its_robot.Goals as goal

pub returns : goal.returns
returns c = λ g x order s pairs i end state keeps lawful obeys there e. path_below g x state order keeps s lawful.schedule lawful.along obeys pairs i end there e
