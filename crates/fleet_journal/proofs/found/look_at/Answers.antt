use Rattle.std.proofs.Common.{◌∙◌, subst, arith}
use Rattle.station_api.specs.Scene.{Scene, side_of}
use Rattle.fleet_journal.specs.Reading.{IsFrameAt}
use Rattle.fleet_journal.proofs.Sorts.{no_frame_foreign, no_header_foreign}
use Rattle.station_api.proofs.Moments.{quiet_on}
use Rattle.fleet_journal.proofs.found.look_at.Goals as goal

pub returns-in_default-clause-found : goal.returns-in_default-clause-found
returns-in_default-clause-found g c told =
    let read = subst (λ (s : Scene). IsFrameAt (side_of c.args.side s) 0 c.in_ok-payload.field-0) ((c.begins_with_header.ensures.quiet told).seen ∙ (c.front_at.ensures.quiet told).seen) (c.in_ok-payload.ensures.frame told) in
    no_frame_foreign _ _ (c.in_ok-front.ensures.front told) (omega (arith, c.if-front-le1.false)) c.if-front-eq0.false (subst (IsFrameAt _ 0) c.in_default.is read)

pub returns-in-Err-NotInGrammar-clause-found : goal.returns-in-Err-NotInGrammar-clause-found
returns-in-Err-NotInGrammar-clause-found g c told =
    let read = subst (λ (s : Scene). IsFrameAt (side_of c.args.side s) 0 c.in_ok-payload.field-0) ((c.begins_with_header.ensures.quiet told).seen ∙ (c.front_at.ensures.quiet told).seen) (c.in_ok-payload.ensures.frame told) in
    no_header_foreign _ _ _ _ (c.in_ok-front.ensures.front told) (omega (arith, c.if-front-le1.false)) c.if-front-eq0.false (subst (IsFrameAt _ 0) c.in-Some.is read)
    (λ grammar. let memory = c.in-Err-NotInGrammar.ensures.only grammar.0 (rw c.deref.ensures.value grammar.1) in let is = c.in-Err-NotInGrammar.field-0-is in cc)

pub returns-in-Ok-clause-quiet : goal.returns-in-Ok-clause-quiet
returns-in-Ok-clause-quiet g c told = quiet_on _ _ _ (quiet_on _ _ _ (c.front_at.ensures.quiet told) (c.begins_with_header.ensures.quiet told)) (c.payload_at.ensures.quiet told)

pub returns-in-Err-NotInGrammar-clause-quiet : goal.returns-in-Err-NotInGrammar-clause-quiet
returns-in-Err-NotInGrammar-clause-quiet g c told = quiet_on _ _ _ (quiet_on _ _ _ (c.front_at.ensures.quiet told) (c.begins_with_header.ensures.quiet told)) (c.payload_at.ensures.quiet told)

pub returns-clause-quiet : goal.returns-clause-quiet
returns-clause-quiet g c told = quiet_on _ _ _ (quiet_on _ _ _ (c.front_at.ensures.quiet told) (c.begins_with_header.ensures.quiet told)) (c.payload_at.ensures.quiet told)
