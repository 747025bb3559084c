use Rattle.report_text.proofs.ReportLines.{report_line-short}
use Rattle.report_text.proofs.laws.report_lines_are_short.Goals as goal

pub returns : goal.returns
returns c = report_line-short
