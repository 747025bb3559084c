use Rattle.report_text.proofs.OneAnswer.{one_answer}
use Rattle.report_text.proofs.laws.one_answer_a_line.Goals as goal

pub returns : goal.returns
returns c = one_answer
