use Rattle.std.proofs.lemmas.Result.{err_from_is_err_and}
use Rattle.cert_tree.proofs.OtherLines.{no_side, no_cycle, malformed_weaker}
use Rattle.cert_tree.proofs.line.read_force.Goals as goal

pub returns-in_default-read_side-clause-malformed :
    goal.returns-in_default-read_side-clause-malformed
returns-in_default-read_side-clause-malformed c = no_side c.args.text.now c.in-Some.behind_pair.now c.in-Some.pair c.in-Some.ensures.some c.in_default-read_side.ensures.none

pub returns-in_err-cycle-clause-malformed : goal.returns-in_err-cycle-clause-malformed
returns-in_err-cycle-clause-malformed c =
    let p = err_from_is_err_and c.from_residual.result c.from_residual.ensures.1 in
    rw (p.1, p.2)
    (malformed_weaker c.in_err-cycle.field-0.0 (no_cycle c.args.text.now c.in-Some.behind_pair.now c.in-Some-read_side.behind_side.now c.in-Some.pair c.in-Some-read_side.side c.in-Some.ensures.some c.in-Some-read_side.ensures.some) c.in_err-cycle.ensures.malformed)
