use Rattle.std.proofs.Common.{map, get_or, length, set, sym, ◌∙◌, ap, arith}
use Rattle.std.proofs.lemmas.Bool.{false≢true}
use Rattle.std.proofs.lemmas.List.{length-set}
use Rattle.fleet_base.specs.Lists.{row_of}
use Rattle.fleet_base.specs.VisitRows.{tick_in}
use Rattle.cert_check.proofs.RoundLaws.{set_same, set_other, lengths_set}
use Rattle.cert_check.proofs.rounds.raise.Goals as goal

pub returns-clause-raises : goal.returns-clause-raises
returns-clause-raises c =
    let rows = c.args.ticks.now in
    let v = c.args.v in
    let at = set_same rows v c.asked_of-tick.result (omega (arith, c.requires.ticks.robots, c.requires.there.robot)) (omega (arith, c.requires.ticks.visits v.robot c.requires.there.robot, c.requires.there.index)) in
    let here = ap (λ r. tick_in r v) c.set_in.ensures ∙ at in
    let was = ap (λ r. get_or r v.index 0) c.row.ensures in
    record {
      here = omega (arith, here, was, c.if-tick-row.false, c.asked_of-tick.ensures);
      there = λ u ne. ap (λ r. tick_in r u) c.set_in.ensures ∙ set_other rows v c.asked_of-tick.result u (omega (arith, c.requires.ticks.robots, c.requires.there.robot)) ne;
      was_below = λ e. omega (arith, was, c.if-tick-row.false, c.asked_of-tick.ensures);
      was_not = λ e. absurd (false≢true (sym e));
    }

pub returns-clause-rows : goal.returns-clause-rows
returns-clause-rows c = ap (λ r. map length r) c.set_in.ensures ∙ lengths_set c.args.ticks.now c.args.v.robot (set (row_of c.args.ticks.now c.args.v.robot) c.args.v.index c.asked_of-tick.result) (length-set (row_of c.args.ticks.now c.args.v.robot) c.args.v.index c.asked_of-tick.result)
