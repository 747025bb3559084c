-- What is left behind the longest front tells its length, which is that of a short line at most.
use Rattle.std.proofs.Common.{◌-◌, length, arith}
use Rattle.report_text.proofs.ReportLines.{longest_front, longest_front-short, report_line-short}
use Rattle.report_text.proofs.report.read_report.Goals as goal

pub returns-in-Ok-clause-within : goal.returns-in-Ok-clause-within
returns-in-Ok-clause-within c = omega (arith, report_line-short c.args.line.now c.in-Ok.report c.in-Ok.ensures.ok)

pub returns-in-Err-clause-at : goal.returns-in-Err-clause-at
returns-in-Err-clause-at c = longest_front c.args.line.now c.in-Err.left.now c.in-Err.ensures.err

pub returns-in-Err-clause-at_within : goal.returns-in-Err-clause-at_within
returns-in-Err-clause-at_within c =
    let line = c.args.line.now in
    let left = c.in-Err.left.now in
    let short = longest_front-short line (length line - length left) (longest_front line left c.in-Err.ensures.err) in
    omega (arith, short)
