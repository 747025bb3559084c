use Rattle.fleet_recovery.proofs.OneImage.{stands_one}
use Rattle.fleet_recovery.proofs.laws.sides_stand_for_one_state.Goals as goal

pub returns : goal.returns
returns c = λ routes r papers scene. stands_one routes r papers scene
