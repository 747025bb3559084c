-- Where each kind of answer is ruled out, no answer is left.
use Rattle.report_text.proofs.AnswerLines.{no_answer, either_found, both_none, if_none, none_there}
use Rattle.report_text.specs.AnswerLine.{IsAnswerLine}
use Rattle.report_text.proofs.answer.read_answer.Goals as goal

pub returns-clause-none : goal.returns-clause-none
returns-clause-none c = if_none c.or-7.result _ (λ none.
    let refused = both_none c.or-6.result c.read_refused.result c.or-7.result c.or-7.ensures none in
    let known = both_none c.or-5.result c.read_known.result c.or-6.result c.or-6.ensures refused.0 in
    let done = both_none c.or-4.result c.read_done.result c.or-5.result c.or-5.ensures known.0 in
    let switch = both_none c.or-3.result c.read_switch.result c.or-4.result c.or-4.ensures done.0 in
    let spent = both_none c.or-2.result c.read_spent.result c.or-3.result c.or-3.ensures switch.0 in
    let optimal = both_none c.or.result c.read_optimal.result c.or-2.result c.or-2.ensures spent.0 in
    let release = both_none c.read_ready.result c.read_release.result c.or.result c.or.ensures optimal.0 in
    no_answer c.args.line.now
    (none_there c.read_ready.result _ release.0 c.read_ready.ensures.none)
    (none_there c.read_release.result _ release.1 c.read_release.ensures.none)
    (none_there c.read_optimal.result _ optimal.1 c.read_optimal.ensures.none)
    (none_there c.read_spent.result _ spent.1 c.read_spent.ensures.none)
    (none_there c.read_switch.result _ switch.1 c.read_switch.ensures.none)
    (none_there c.read_done.result _ done.1 c.read_done.ensures.none)
    (none_there c.read_known.result _ known.1 c.read_known.ensures.none)
    (none_there c.read_refused.result _ refused.1 c.read_refused.ensures.none))

pub returns-clause-found : goal.returns-clause-found
returns-clause-found c =
    let found = IsAnswerLine c.args.line.now in
    let release = either_found found c.read_ready.result c.read_release.result c.or.result c.or.ensures c.read_ready.ensures.found c.read_release.ensures.found in
    let optimal = either_found found c.or.result c.read_optimal.result c.or-2.result c.or-2.ensures release c.read_optimal.ensures.found in
    let spent = either_found found c.or-2.result c.read_spent.result c.or-3.result c.or-3.ensures optimal c.read_spent.ensures.found in
    let switch = either_found found c.or-3.result c.read_switch.result c.or-4.result c.or-4.ensures spent c.read_switch.ensures.found in
    let done = either_found found c.or-4.result c.read_done.result c.or-5.result c.or-5.ensures switch c.read_done.ensures.found in
    let known = either_found found c.or-5.result c.read_known.result c.or-6.result c.or-6.ensures done c.read_known.ensures.found in
    either_found found c.or-6.result c.read_refused.result c.or-7.result c.or-7.ensures known c.read_refused.ensures.found
