use Rattle.plan_text.proofs.Sample.{sample_fault}
use Rattle.plan_text.proofs.laws.a_letter_stands_at_column_13.Goals as goal

pub returns : goal.returns
returns c = sample_fault
