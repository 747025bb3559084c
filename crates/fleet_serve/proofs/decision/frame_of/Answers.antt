use Rattle.std.proofs.Common.{arith}
use Rattle.fleet_serve.proofs.Decided.{accepted_numbers, payload_length, frame_made}
use Rattle.fleet_serve.proofs.decision.frame_of.Goals as goal

pub entry_bytes-requires-clause-numbers : goal.entry_bytes-requires-clause-numbers
entry_bytes-requires-clause-numbers c = accepted_numbers c.args.fleet.now c.args.report.now c.requires.accepted c.robots-robots.ensures.plan (omega (arith, c.robots-robots.ensures.count))

pub framed-requires : goal.framed-requires
framed-requires c = omega (arith, payload_length c.in_ok-payload.payload c.args.report.now c.args.switched.now c.in_ok-payload.ensures, c.requires.few)

pub returns : goal.returns
returns c = frame_made c.args.report.now c.args.switched.now c.in_ok-payload.payload c.framed.result (omega (arith, payload_length c.in_ok-payload.payload c.args.report.now c.args.switched.now c.in_ok-payload.ensures, c.requires.few)) c.in_ok-payload.ensures c.framed.ensures
