-- Calls that are no session.
use Rattle.std.proofs.Common.{ℕ, ◌≡◌, List, [], ◌++◌, take, drop, length, refl, sym, ap, ◌∙◌, arith, append_assoc}
use Rattle.std.proofs.lemmas.List.{take-append-drop, append_cancel_left, take_all}
use Rattle.fleet_base.specs.declared.status.Status.{Status}
use Rattle.fleet_base.specs.declared.status.Status.TheVariants.{Done, Usage, Input, Journal, ReadFault, StationFault, Memory, Limit}
use Rattle.station_api.specs.Scene.{Scene}
use Rattle.station_api.specs.Clock.{Clock}
use Rattle.station_api.specs.Disk.{IsSending}
use Rattle.fleet_cli.specs.Ends.{Call, SaysText, TextEnds, IsTextCall}
use Rattle.fleet_cli.specs.Sessions.{IsAnotherCommand}
use Rattle.fleet_cli.proofs.LivesMoments.{sending_keeps}
use Rattle.fleet_cli.proofs.NoRelease.{IsOfLines, front_tells_none, due_of_lines}

-- some front was sent of lines that tell no robot to move
abbrev pub SendsNone : Clock → Clock → Type 0
SendsNone old new = (text : List ℕ) × (n : ℕ) × IsOfLines text × (new.seen.sent ≡ old.seen.sent ++ take n text)

pub sends_nothing : (old new : Clock) → new.seen.sent ≡ old.seen.sent ++ [] → SendsNone old new
sends_nothing old new same = ([], 0, ([], tt, refl), same)

pub sends_whole : (old new : Clock) (text : List ℕ) → IsOfLines text → new.seen.sent ≡ old.seen.sent ++ text → SendsNone old new
sends_whole old new text lines same = (text, length text, lines, same ∙ ap (λ (t : List ℕ). old.seen.sent ++ t) (sym (take_all (length text) text (omega arith))))

-- a call that sends no more is one of another command
pub another : (old new : Clock) → IsSending old new → SendsNone old new → IsAnotherCommand old new
another old new sending (text, n, (lines, all, is), sends) = record { keeps = sending_keeps old new sending; tells_none = none }
  where
    none : (c : Scene) (sent : List ℕ) → new.left_since old.moment c → c.sent ≡ old.seen.sent ++ sent → Rattle.fleet_cli.specs.Lives.ReleasesNone sent
    none c sent left e =
        let g = sending.passes.grows c left in
        let rest = g.1.0 in
        let whole : old.seen.sent ++ take n text ≡ old.seen.sent ++ (sent ++ rest) = sym sends ∙ g.1.1 ∙ ap (λ (t : List ℕ). t ++ rest) e ∙ append_assoc old.seen.sent sent rest in
        let part : sent ++ rest ≡ take n text = sym (append_cancel_left old.seen.sent (take n text) (sent ++ rest) whole) in
        front_tells_none lines all sent (rest ++ drop n text) (sym (append_assoc sent rest (drop n text)) ∙ ap (λ (t : List ℕ). t ++ drop n text) part ∙ take-append-drop n text ∙ is)

-- ---- a call that says one text

says_none : (call : Call) (end : Status) → call.talk.station.tells → SaysText call end → SendsNone call.talk.station.old call.talk.station.new
says_none call end told (text, due, sends) = sends_whole call.talk.station.old call.talk.station.new text (due_of_lines call.files call.shelf_failed call.words end text due) (sends told)

text_sends_none : (call : Call) (end : Status) → call.talk.station.tells → TextEnds call end → SendsNone call.talk.station.old call.talk.station.new
text_sends_none call Done told e = says_none call Done told e
text_sends_none call Usage told e = says_none call Usage told e
text_sends_none call Input told e = says_none call Input told e
text_sends_none call Journal told e = absurd e
text_sends_none call ReadFault told e = says_none call ReadFault told e
text_sends_none call StationFault told e = let p = e.1.3 told in (e.1.1, p.0, due_of_lines call.files call.shelf_failed call.words e.1.0 e.1.1 e.1.2, p.1)
text_sends_none call Memory told e = sends_nothing call.talk.station.old call.talk.station.new (e told)
text_sends_none call Limit told e = absurd e

pub text_is_another : (call : Call) (end : Status) → call.talk.station.tells → IsTextCall call end → IsAnotherCommand call.talk.station.old call.talk.station.new
text_is_another call end told is = another call.talk.station.old call.talk.station.new (is.stay told) (text_sends_none call end told is.ends)
