use Rattle.std.proofs.Common.{arith, ap, length}
use Rattle.fleet_journal.proofs.Pieces.{no_frame, frame_is, filled_is}
use Rattle.fleet_journal.proofs.reading.payload_at.Goals as goal

pub returns-then-saturating_sub-needed-clause-frame : goal.returns-then-saturating_sub-needed-clause-frame
returns-then-saturating_sub-needed-clause-frame g c told gate payload = no_frame _ payload _ gate _ (c.requires told) (omega (arith, c.saturating_sub.ensures, c.from-needed.ensures, c.if-saturating_sub-needed.true))

pub returns-clause-frame : goal.returns-clause-frame
returns-clause-frame g c told =
    frame_is _ _ _ _ (c.requires told) (omega (arith, c.saturating_sub.ensures, c.from-needed.ensures, c.if-saturating_sub-needed.false))
    (filled_is _ c.deref_mut.result.now c.read.new.room _ _ c.in_ok-count.count _ _ (c.in_ok-count.ensures.bytes told)
    (omega (arith, ap length c.deref_mut.ensures.value, c.in_ok-payload.ensures.length)) (omega (arith, c.in_ok-payload.ensures.length, c.in_ok-payload.payload.ok)) (omega (arith, c.len.ensures, c.if-count-len.false)))
