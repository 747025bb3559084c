use Rattle.report_text.specs.AnswerLine.{answer_line}
use Rattle.report_text.specs.ReportLine.{report_line}
use Rattle.report_text.proofs.PlainLines.{report_line-at_least, answer_line-at_least, plain}
use Rattle.report_text.proofs.laws.lines_are_plain.Goals as goal

pub returns-clause-reports : goal.returns-clause-reports
returns-clause-reports c = λ report. plain (report_line report) (report_line-at_least report)

pub returns-clause-answers : goal.returns-clause-answers
returns-clause-answers c = λ answer. plain (answer_line answer) (answer_line-at_least answer)
