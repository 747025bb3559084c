use Rattle.std.proofs.Common.{◌+◌, ◌-◌, ◌++◌, ◌∙◌, List, ℕ, ap, arith, take, drop, length}
use Rattle.std.proofs.lemmas.List.{append_assoc, length-drop}
use Rattle.std.proofs.lemmas.Result.{err_from_is_err_and}
use Rattle.fleet_serve.proofs.Fronts.{front_of_rest, rest_lent}
use Rattle.fleet_recovery.proofs.Passing.{counted_on}
use Rattle.fleet_serve.proofs.Moments.{sending_on}
use Rattle.fleet_serve.proofs.whole_text.send_all.Goals as goal

pub returns-in_err-sent-clause-part : goal.returns-in_err-sent-clause-part
returns-in_err-sent-clause-part g c tells =
    let p = err_from_is_err_and c.from_residual.result c.from_residual.ensures.1 in
    let part = c.in_err-sent.ensures.part tells in
    rw p.1 (
      c.loop-sent.sent + part.0,
      part.2 ∙ ap (λ (t : List ℕ). t ++ take part.0 (take (length c.args.bytes.now - c.loop-sent.sent) (drop c.loop-sent.sent c.args.bytes.now))) (c.loop-sent.invariant.text tells)
          ∙ append_assoc (g.T.Station.clock c.args.station.now).seen.sent (take c.loop-sent.sent c.args.bytes.now) (take part.0 (take (length c.args.bytes.now - c.loop-sent.sent) (drop c.loop-sent.sent c.args.bytes.now)))
          ∙ ap (λ (t : List ℕ). (g.T.Station.clock c.args.station.now).seen.sent ++ t) (front_of_rest c.args.bytes.now c.loop-sent.sent part.0),
    )

pub loop-sent-preserved : goal.loop-sent-preserved
loop-sent-preserved g c = record {
  within = omega (arith, c.in_ok-sent.ensures.bound, ap (λ (t : List ℕ). length t) (rest_lent c.args.bytes.now c.loop-sent.sent), length-drop c.loop-sent.sent c.args.bytes.now, c.loop-sent-test.true);
  text = λ tells. c.in_ok-sent.ensures.sent tells ∙ ap (λ (t : List ℕ). t ++ take c.in_ok-sent.field-0 (take (length c.args.bytes.now - c.loop-sent.sent) (drop c.loop-sent.sent c.args.bytes.now))) (c.loop-sent.invariant.text tells)
      ∙ append_assoc (g.T.Station.clock c.args.station.now).seen.sent (take c.loop-sent.sent c.args.bytes.now) (take c.in_ok-sent.field-0 (take (length c.args.bytes.now - c.loop-sent.sent) (drop c.loop-sent.sent c.args.bytes.now)))
      ∙ ap (λ (t : List ℕ). (g.T.Station.clock c.args.station.now).seen.sent ++ t) (front_of_rest c.args.bytes.now c.loop-sent.sent c.in_ok-sent.field-0);
  sides = λ tells. sending_on _ _ _ (c.loop-sent.invariant.sides tells) (c.send.ensures.sending tells);
  counted = counted_on _ _ _ c.loop-sent.invariant.counted c.send.ensures.cause.counted;
}

pub returns-in_err-sent-clause-sides : goal.returns-in_err-sent-clause-sides
returns-in_err-sent-clause-sides g c tells = sending_on _ _ _ (c.loop-sent.invariant.sides tells) (c.send.ensures.sending tells)
