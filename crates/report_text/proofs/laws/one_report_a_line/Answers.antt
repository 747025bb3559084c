use Rattle.report_text.proofs.ReportLines.{one_report}
use Rattle.report_text.proofs.laws.one_report_a_line.Goals as goal

pub returns : goal.returns
returns c = one_report
