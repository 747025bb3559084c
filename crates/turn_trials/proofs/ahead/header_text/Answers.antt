use Rattle.std.proofs.Common.{ap, arith, length}
use Rattle.fleet_journal.proofs.Frames.{length-frame_text}
use Rattle.fleet_recovery.proofs.Opens.{payload_length}
use Rattle.turn_trials.proofs.ahead.header_text.Goals as goal

pub framed-requires : goal.framed-requires
framed-requires c = omega (arith, c.requires, payload_length _ c.args.papers.now.map.now c.args.papers.now.plan.now c.in_ok-payload.ensures)

pub returns-clause-length : goal.returns-clause-length
returns-clause-length c = omega (arith, ap length c.in_ok-framed.ensures, length-frame_text c.in_ok-payload.payload, payload_length _ c.args.papers.now.map.now c.args.papers.now.plan.now c.in_ok-payload.ensures)
