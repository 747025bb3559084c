-- Where the text leaves the word, it ends or has another byte.
use Rattle.std.proofs.Common.{get_or, arith}
use Rattle.std.proofs.lemmas.List.{take_rest}
use Rattle.report_text.proofs.Stopping.{breaks_off, ended, other_byte}
use Rattle.report_text.proofs.reading.word.Goals as goal
use Rattle.report_text.proofs.reading.word.Goals.{then-at-text-via-then-at-text, then-at-text-via-else-at-text+then-text-at}

pub returns-then-at-text-clause-err : goal.returns-then-at-text-clause-err
returns-then-at-text-clause-err c =
    let text = c.args.text.now in
    let word = c.args.word.now in
    let i = c.loop-at.at in
    elim c.then-at-text.branch [
      | then-at-text-via-then-at-text w ↦ rw take_rest (breaks_off word text i (omega arith) c.loop-at.invariant.1 (ended text i (get_or word i 0) w.if-at-text.true))
      | then-at-text-via-else-at-text+then-text-at w ↦ rw take_rest (breaks_off word text i (omega arith) c.loop-at.invariant.1 (other_byte text i (get_or word i 0) (omega arith) w.if-text-at.true))
    ]
