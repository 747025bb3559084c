use Rattle.std.proofs.Common.{ℕ, ◌≡◌, ◌+◌, List, length, ap, arith, Result, Ok, Err, IfOk}
use Rattle.journal_frame.specs.Frames.{frame_text}
use Rattle.fleet_journal.proofs.Frames.{length-frame_text}
use Rattle.fleet_recovery.proofs.Opens.{payload_length}
use Rattle.fleet_recovery.proofs.opening.header_text.Goals as goal

pub framed-requires : goal.framed-requires
framed-requires c = omega (arith, c.requires, payload_length _ c.args.map.now c.args.text.now c.in_ok-payload.ensures)

-- the text is longer than the payload
long : (A : Type 0) (r : Result (List ℕ) A) (payload : List ℕ) (n : ℕ) → length payload ≡ n + 22 → IfOk r (λ text. text ≡ frame_text payload) → IfOk r (λ text. length text ≡ n + 27)
long A (Ok text) payload n short is = omega (arith, ap length is, length-frame_text payload, short)
long A (Err e) payload n short is = tt

pub returns-clause-length : goal.returns-clause-length
returns-clause-length c = long _ c.framed.result c.in_ok-payload.payload _ (payload_length _ c.args.map.now c.args.text.now c.in_ok-payload.ensures) c.framed.ensures
