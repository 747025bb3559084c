use Rattle.std.proofs.Common.{◌≡◌, length, ap, ◌∙◌, arith}
use Rattle.std.proofs.lemmas.Bool.Decides.{nat_tests}
use Rattle.cert_tree.proofs.PairFields.{read_more, no_count, no_pair, not_all_read}
use Rattle.cert_tree.proofs.fields.pairs.Goals as goal
use Rattle.cert_tree.proofs.fields.pairs.Goals.{else-found-count-via-then-found-count+else-found-least, else-found-count-via-else-found-count}

pub returns-in_default-clause-malformed : goal.returns-in_default-clause-malformed
returns-in_default-clause-malformed c = no_count c.args.least c.args.text.now c.in_default.ensures.none

pub returns-in_default-small_number-clause-malformed :
    goal.returns-in_default-small_number-clause-malformed
returns-in_default-small_number-clause-malformed c =
    no_pair c.args.least c.args.text.now c.loop-rest.rest.now c.in-Some.count c.loop-rest.pairs c.loop-rest.invariant (grind (arith, nat_tests)) c.in_default-small_number.ensures.none

pub loop-rest-preserved : goal.loop-rest-preserved
loop-rest-preserved c =
    rw c.in_ok-push.ensures.ok
    (read_more c.args.text.now c.loop-rest.rest.now c.in-Some-small_number.after.now c.in-Some.count c.in-Some-small_number.pair c.loop-rest.pairs c.loop-rest.invariant c.in-Some-small_number.ensures.some)

pub returns-else-found-count-clause-malformed : goal.returns-else-found-count-clause-malformed
returns-else-found-count-clause-malformed c =
    let none : length c.loop-rest.rest.now ≡ 0 = grind (arith, nat_tests) in
    let found = c.as_slice-found.ensures in
    not_all_read c.args.least c.args.text.now c.loop-rest.rest.now c.in-Some.count c.loop-rest.pairs c.loop-rest.invariant none (elim c.else-found-count.branch [
      | else-found-count-via-then-found-count+else-found-least w ↦ λ h. omega (arith, h.1, w.if-found-least.false, ap length found)
      | else-found-count-via-else-found-count w ↦ λ h. w.if-found-count.false (ap length found ∙ h.0)
    ])
