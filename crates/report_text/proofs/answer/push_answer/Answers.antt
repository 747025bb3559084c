-- The costs in an order line are written as numbers behind words.
use Rattle.std.proofs.Common.{ℕ, List, [], ◌∷◌, ◌++◌, sym, ap, ◌∙◌}
use Rattle.std.proofs.lemmas.Result.{on_ok_weaker}
use Rattle.report_text.specs.AnswerLine.{answer_line}
use Rattle.report_text.proofs.AnswerLines.{optimal_is, spent_is}
use Rattle.report_text.proofs.answer.push_answer.Goals as goal

pub returns-in-Optimal-clause-ok : goal.returns-in-Optimal-clause-ok
returns-in-Optimal-clause-ok c =
    let line = sym (optimal_is c.in-Optimal.cost) ∙ ap answer_line (sym c.in-Optimal.is) in
    on_ok_weaker c.push_line-in-Optimal.result (λ e. e ∙ ap (λ (l : List ℕ). c.args.out.now ++ (l ++ 10 ∷ [])) line) c.push_line-in-Optimal.ensures.ok

pub returns-in-Spent-clause-ok : goal.returns-in-Spent-clause-ok
returns-in-Spent-clause-ok c =
    let line = sym (spent_is c.in-Spent.cost c.in-Spent.least) ∙ ap answer_line (sym c.in-Spent.is) in
    on_ok_weaker c.push_line-in-Spent.result (λ e. e ∙ ap (λ (l : List ℕ). c.args.out.now ++ (l ++ 10 ∷ [])) line) c.push_line-in-Spent.ensures.ok
