use Rattle.std.proofs.Common.{◌+◌, ◌<◌, ◌++◌, ◌∷◌, [], length, take, drop, sym, ◌∙◌, ap, arith}
use Rattle.std.proofs.lemmas.Bool.{false≢true}
use Rattle.std.proofs.lemmas.List.{take-append-drop, drop_more, length-take-le}
use Rattle.plan_text.proofs.writer.write_plan.Goals as goal

pub returns-then-not-is_writable-clause-wide : goal.returns-then-not-is_writable-clause-wide
returns-then-not-is_writable-clause-wide c =
    let plan = c.args.plan.now in
    let robot = c.loop-robot.robot in
    let within : robot < length plan = omega (arith, c.robots-robot-end.ensures, c.loop-robot-test.true) in
    record {
      above = take robot plan;
      written = c.loop-robot.invariant.1;
      path = c.cells-path.result.now;
      below = drop (robot + 1) plan;
      stands = sym (take-append-drop robot plan) ∙ ap (λ ps. take robot plan ++ ps) (drop_more plan robot [] within ∙ ap (λ path. path ∷ drop (robot + 1) plan) (sym c.cells-path.ensures));
      number = sym (length-take-le robot plan (omega arith));
      wide = λ written. false≢true (c.if-not-is_writable.ensures.1 written);
    }
