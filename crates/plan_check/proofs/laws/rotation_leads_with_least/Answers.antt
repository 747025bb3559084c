use Rattle.plan_check.proofs.Listing.{leads_with_least}
use Rattle.plan_check.proofs.laws.rotation_leads_with_least.Goals as goal

pub returns : goal.returns
returns c = leads_with_least
