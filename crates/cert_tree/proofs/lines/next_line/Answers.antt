use Rattle.std.proofs.Common.{◌+◌, drop, sym, ◌∙◌, ap, ◌∷◌}
use Rattle.std.proofs.lemmas.List.{take_rest}
use Rattle.fleet_base.specs.Bytes.{pieces_of, whole_lines, last_piece}
use Rattle.cert_tree.proofs.LineEnds.{lines_at, last_at, no_line_end}
use Rattle.cert_tree.proofs.lines.next_line.Goals as goal

pub returns-in-Some-clause-lines : goal.returns-in-Some-clause-lines
returns-in-Some-clause-lines c =
    let xs = c.args.text.now in
    lines_at xs c.in-Some.end (sym c.line_end.ensures ∙ c.in-Some.is) ∙ ap (λ line. line ∷ whole_lines (drop (c.in-Some.end + 1) xs)) (sym c.without_return.ensures) ∙ ap (λ rest. c.without_return.result.now ∷ whole_lines rest) (sym (take_rest xs (c.in-Some.end + 1)))

pub returns-in-Some-clause-last : goal.returns-in-Some-clause-last
returns-in-Some-clause-last c =
    let xs = c.args.text.now in
    last_at xs c.in-Some.end (sym c.line_end.ensures ∙ c.in-Some.is) ∙ ap (λ rest. last_piece (pieces_of rest)) (sym (take_rest xs (c.in-Some.end + 1)))

pub returns-in-None-clause-none : goal.returns-in-None-clause-none
returns-in-None-clause-none c = no_line_end c.args.text.now (sym c.line_end.ensures ∙ c.in-None.is)
