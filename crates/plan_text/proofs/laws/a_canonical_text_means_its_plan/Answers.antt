use Rattle.plan_text.proofs.Canonical.{canonical_means}
use Rattle.plan_text.proofs.laws.a_canonical_text_means_its_plan.Goals as goal

pub returns : goal.returns
returns c = canonical_means
