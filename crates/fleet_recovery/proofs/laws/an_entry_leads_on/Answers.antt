use Rattle.fleet_recovery.proofs.Following.{adds_one}
use Rattle.fleet_recovery.proofs.laws.an_entry_leads_on.Goals as goal

pub returns : goal.returns
returns c = adds_one
