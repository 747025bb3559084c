use Rattle.std.proofs.Common.{refl, sym}
use Rattle.fleet_base.specs.declared.report.Why.TheVariants.{Line, Full}
use Rattle.report_text.specs.declared.answer.Answer.TheVariants.{Known, Refused}
use Rattle.fleet_recovery.proofs.Entering.{untrue}
use Rattle.fleet_serve.specs.Turns.{Point, malformed, known, refused, full}
use Rattle.fleet_serve.specs.Room.{HasRoom}
use Rattle.fleet_serve.specs.Serving.{point_of}
use Rattle.fleet_serve.specs.declared.outcome.Turn.TheVariants as turn
use Rattle.fleet_serve.proofs.TurnLaws.{one_answer}
use Rattle.fleet_serve.proofs.Decided.{answer_said, entry_decided}
use Rattle.fleet_serve.proofs.decision.decide.Goals as goal

pub returns-in_default-clause-decided : goal.returns-in_default-clause-decided
returns-in_default-clause-decided c =
    let from : Point = point_of c.args.fleet.now c.args.journal.now in
    answer_said c.args.session.now.plan.now c.args.session.now.settings.now from c.args.line.now (turn.Refused Line) (Refused Line) c.refuse.result (malformed c.in_default.ensures.malformed (one_answer from c.args.line.now (Refused Line))) refl c.refuse.ensures

pub returns-in-Known-clause-decided : goal.returns-in-Known-clause-decided
returns-in-Known-clause-decided c =
    let from : Point = point_of c.args.fleet.now c.args.journal.now in
    answer_said c.args.session.now.plan.now c.args.session.now.settings.now from c.args.line.now turn.Known Known c.say.result (known c.in-Ok.report c.in-Ok.ensures.read (sym c.in-Known.ensures) (one_answer from c.args.line.now Known)) refl c.say.ensures

pub returns-in-Refused-clause-decided : goal.returns-in-Refused-clause-decided
returns-in-Refused-clause-decided c =
    let from : Point = point_of c.args.fleet.now c.args.journal.now in
    let why = c.in-Refused.why in
    answer_said c.args.session.now.plan.now c.args.session.now.settings.now from c.args.line.now (turn.Refused why) (Refused why) c.refuse-in-Refused.result (refused c.in-Ok.report why c.in-Ok.ensures.read (sym c.in-Refused.ensures) (one_answer from c.args.line.now (Refused why))) refl
    c.refuse-in-Refused.ensures

pub returns-in-Accept-clause-decided : goal.returns-in-Accept-clause-decided
returns-in-Accept-clause-decided c =
    let from : Point = point_of c.args.fleet.now c.args.journal.now in
    let room : HasRoom _ c.args.session.now.settings.now.side_limit c.args.journal.now.place c.args.fleet.now c.in-Ok.report = rw c.requires.graph at (c.has_room.ensures.room.0 c.if-has_room.true) in
    entry_decided c.args.session.now.plan.now c.args.session.now.settings.now from c.args.line.now c.in-Ok.report c.enter.result c.in-Ok.ensures.read room c.has_room.ensures.bound (c.enter.ensures.entering c.args.journal.now.place)

pub returns-in-Accept-2-clause-decided : goal.returns-in-Accept-2-clause-decided
returns-in-Accept-2-clause-decided c =
    let from : Point = point_of c.args.fleet.now c.args.journal.now in
    let none = untrue _ _ c.if-has_room.false c.has_room.ensures.room in
    answer_said c.args.session.now.plan.now c.args.session.now.settings.now from c.args.line.now (turn.Refused Full) (Refused Full) c.refuse-in-Accept-2.result
    (full c.in-Ok.report c.in-Ok.ensures.read (sym c.in-Accept-2.ensures) (rw c.requires.graph at none) (one_answer from c.args.line.now (Refused Full))) refl c.refuse-in-Accept-2.ensures
