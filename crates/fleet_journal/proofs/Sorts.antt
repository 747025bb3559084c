-- Which sort a side is, by what was read of it.
use Rattle.std.proofs.Common.{◌≢◌, ℕ, ◌<◌, List, [], ◌∷◌, None, ◌∙◌, subst, arith}
use Rattle.journal_frame.specs.Headers.{IsHeaderPayload}
use Rattle.journal_frame.specs.Frames.{HasFrame, IsBlank, IsForeign}
use Rattle.journal_frame.proofs.FrameLaws.{frame_one}
use Rattle.fleet_journal.specs.Reading.{IsFront, IsFrameAt}
use Rattle.fleet_journal.specs.declared.reading.Front.{Front}

-- two bytes or more behind an open gate
pub not_blank : (bytes : List ℕ) (front : Front) → IsFront bytes 0 front → 1 < front.end → front.gate ≢ 0 → ¬ IsBlank bytes
not_blank [] front is long is_open blank = omega (arith, is.end, long)
not_blank (x ∷ []) front is long is_open blank = omega (arith, is.end, long)
not_blank (x ∷ y ∷ bytes) front is long is_open blank = is_open (is.gate ∙ blank)

-- no whole frame
pub no_frame_foreign : (bytes : List ℕ) (front : Front) → IsFront bytes 0 front → 1 < front.end → front.gate ≢ 0 → IsFrameAt bytes 0 None → IsForeign bytes
no_frame_foreign bytes front is long is_open none = (not_blank bytes front is long is_open, λ live. none live.1.gate live.0 live.1.frame)

-- a whole frame that is no header
pub no_header_foreign : (bytes payload : List ℕ) (gate : ℕ) (front : Front) → IsFront bytes 0 front → 1 < front.end → front.gate ≢ 0 → HasFrame bytes gate payload → ¬ IsHeaderPayload payload → IsForeign bytes
no_header_foreign bytes payload gate front is long is_open frame none =
    (not_blank bytes front is long is_open, λ live. none (subst IsHeaderPayload (frame_one bytes live.1.gate gate live.0 payload live.1.frame frame) live.1.grammar))
