-- How a run ends, from what its calls leave.
use Rattle.std.proofs.Common.{ℕ, ◌≡◌, List, [], ◌∷◌, ◌++◌, take, Ok, Err, refl, sym, ap, ◌∙◌, subst, inl, inr, append_assoc, append-nil}
use Rattle.std.specs.Prelude.{codes}
use Rattle.fleet_base.specs.declared.geometry.PlannedVisit.{PlannedVisit}
use Rattle.fleet_base.specs.declared.status.Status.{Status}
use Rattle.fleet_base.specs.declared.status.Status.TheVariants.{Done, Usage, Input, Journal, ReadFault, StationFault, Memory, Limit}
use Rattle.fleet_base.specs.Order.{graph_of}
use Rattle.fleet_base.specs.Bytes.{whole_lines, text_of_lines}
use Rattle.fleet_base.specs.State.{FleetState}
use Rattle.fleet_base.specs.Rules.{IsFleetState}
use Rattle.fleet_base.specs.Plan.{AreRoutes}
use Rattle.station_api.specs.Clock.{Clock, LeavesOnly}
use Rattle.station_api.specs.Disk.{IsSending}
use Rattle.fleet_journal.specs.Standing.{Standing}
use Rattle.fleet_recovery.specs.Papers.{Papers}
use Rattle.fleet_recovery.specs.Opening.{IsOpening, Opens, IsAtRest}
use Rattle.fleet_recovery.proofs.Sending.{rests_sending}
use Rattle.fleet_serve.specs.declared.session.Settings.{Settings}
use Rattle.fleet_serve.specs.Spans.{span}
use Rattle.fleet_serve.specs.Told.{Told, SendsPart, Takes}
use Rattle.fleet_serve.specs.Lines.{greeting_of}
use Rattle.fleet_serve.specs.Turns.{Point, TurnMade, AreTurns, state_after, answers_of, lines_of}
use Rattle.fleet_serve.specs.declared.outcome.ServeFault.TheVariants as serve_fault
use Rattle.fleet_serve.specs.Serving.{Course, point_of, Moments, Serves, ServeLeaves}
use Rattle.fleet_serve.proofs.Courses.{course_on}
use Rattle.fleet_serve.proofs.Texts.{text-append}
use Rattle.fleet_serve.proofs.TurnLaws.{turns_keep, turns_window, turns-take}
use Rattle.fleet_cli.specs.Runs.{Talk, unread, past_limit, breaks_early, starves_early, no_greeting, the_greeting, an_answer, the_last_line, a_turn, OpenEnds, RunEnds, input_limit, unread_line, past_limit_line}
use Rattle.fleet_cli.specs.Tasks.{EndsWith}
use Rattle.fleet_cli.specs.Lives.{IsFaultLine}
use Rattle.fleet_cli.specs.Sessions.{IsMoment, IsSession}
use Rattle.fleet_cli.proofs.LivesMoments.{SendsFront, sends_all, sends_some}
use Rattle.fleet_cli.proofs.LivesCalls.{opens_stand, one_window, greeted_moments, served_moments, failed_moments}
use Rattle.fleet_cli.proofs.GoingOn.{goes_on}
use Rattle.fleet_cli.proofs.RunSessions.{unread_is_fault, limit_is_fault}

-- a run whose journal was not opened
pub opening_ends : (routes : List (List PlannedVisit)) (papers : Papers) (settings : Settings) (talk : Talk) (end : Status) → Takes talk.input [] → OpenEnds routes papers talk.station talk.station_failed end → RunEnds routes papers settings talk end
opening_ends routes papers settings talk Done takes o = absurd o
opening_ends routes papers settings talk Usage takes o = o
opening_ends routes papers settings talk Input takes o = o
opening_ends routes papers settings talk Journal takes o = (takes, o)
opening_ends routes papers settings talk ReadFault takes o = absurd o
opening_ends routes papers settings talk StationFault takes o = (o.0, breaks_early takes o.1)
opening_ends routes papers settings talk Memory takes o = starves_early takes o
opening_ends routes papers settings talk Limit takes o = absurd o

-- what is said of a line says what is sent of it
said_front : (tells : Type 0) (mid new : Clock) (status end : Status) (failed : Type 0) (text : List ℕ) → tells → EndsWith status text (record { tells = tells; before = mid.seen.sent; now = new.seen.sent }) failed end → SendsFront mid new text
said_front tells mid new status end failed text told (inl (e, sends)) = sends_all mid new text (sends told)
said_front tells mid new status end failed text told (inr (e, broke, part)) = let p = part told in sends_some mid new text p.0 p.1

module _ (routes : List (List PlannedVisit)) (r : AreRoutes routes) (papers : Papers) (settings : Settings) (x y : FleetState) (journal later : Standing) (tells : Type 0) (old opened greeted served : Clock) (rules : IsFleetState (graph_of routes) x)
    (opens : tells → Opens routes papers old.seen x journal.place) (opening : tells → LeavesOnly (IsOpening routes papers old) old opened) (unsent : tells → opened.seen.sent ≡ old.seen.sent) (rest : tells → IsAtRest routes papers journal x opened)
    (greeting : tells → IsSending opened greeted) (input : Told) (last_read : ℕ) (source_failed failed : Type 0) where
  abbrev start : Point
  start = point_of x journal

  -- the service after the greeting
  abbrev s : Course
  s = course_on routes papers settings x journal y later tells greeted served

  -- the talk of a run that ends at this clock
  abbrev talk_to : Clock → Talk
  talk_to last = record { input = input; last_read = last_read; source_failed = source_failed; station = span tells old last; station_failed = failed }

  talked : (bytes : List ℕ) (turns : List TurnMade) (left : List (List ℕ)) → lines_of turns ++ left ≡ whole_lines bytes → AreTurns (graph_of routes) routes settings start turns → (last : Clock) → (tells → LeavesOnly (IsMoment routes papers old start turns) old last)
      → IsSession routes papers settings (talk_to last).station bytes
  talked bytes turns left lines follow last moments = record {
    start = start;
    opens = opens;
    turns = turns;
    left = left;
    lines_are = lines;
    follow = follow;
    goes_on = λ k. goes_on routes (state_after start (take k turns)) (turns_keep (graph_of routes) routes settings start (take k turns) rules (turns-take (graph_of routes) routes settings start turns k follow));
    moments = moments;
  }

  stood : (told : tells) → Rattle.fleet_recovery.specs.Image.StandsFor routes papers old.seen x
  stood told = opens_stand routes papers old.seen x journal.place (opens told)

  -- the robots of each of its states hold one release at most
  opens_one : tells → x.window ≡ 1
  opens_one told = one_window routes papers old.seen x journal.place (opens told)

  all_one : tells → (turns : List TurnMade) → AreTurns (graph_of routes) routes settings start turns → (state_after start turns).window ≡ 1
  all_one told turns follow = turns_window (graph_of routes) routes settings start turns follow ∙ opens_one told

  turns_one : tells → (turns : List TurnMade) → AreTurns (graph_of routes) routes settings start turns → (k : ℕ) → (state_after start (take k turns)).window ≡ 1
  turns_one told turns follow k = all_one told (take k turns) (turns-take (graph_of routes) routes settings start turns k follow)

  -- no line is taken yet
  greeting_talk : (tells → SendsFront opened greeted (text_of_lines (greeting_of routes x))) → IsSession routes papers settings (talk_to greeted).station []
  greeting_talk sends = talked [] [] [] refl tt greeted (λ told. greeted_moments routes r papers start old opened (stood told) (opening told) (opens_one told) (unsent told) greeted journal (rest told) (greeting told) [] (sends told))

  -- a send failed in the greeting
  pub greeting_breaks : Takes input [] → failed → SendsPart (record { tells = tells; before = opened.seen.sent; now = greeted.seen.sent }) [] (text_of_lines (greeting_of routes x)) → RunEnds routes papers settings (talk_to greeted) StationFault
  unfolding greeting_talk talked
  greeting_breaks takes broke part = (
    broke,
    the_greeting (greeting_talk (λ told. let p = part told in sends_some opened greeted (text_of_lines (greeting_of routes x)) p.0 p.1)) takes
        (λ told. let p = part told in (p.0, p.1 ∙ ap (λ (t : List ℕ). t ++ take p.0 (text_of_lines (greeting_of routes x))) (unsent told))),
  )

  -- memory was wanting for it
  pub greeting_starves : Takes input [] → (tells → greeted.seen.sent ≡ opened.seen.sent) → RunEnds routes papers settings (talk_to greeted) Memory
  greeting_starves takes same =
      no_greeting (greeting_talk (λ told. ([], same told ∙ sym (append-nil opened.seen.sent), (text_of_lines (greeting_of routes x), refl)))) takes (λ told. same told ∙ unsent told ∙ sym (append-nil old.seen.sent))

  module _ (whole : tells → greeted.seen.sent ≡ opened.seen.sent ++ text_of_lines (greeting_of routes x)) where
    greeted_is : tells → greeted.seen.sent ≡ old.seen.sent ++ text_of_lines (greeting_of routes x)
    greeted_is told = whole told ∙ ap (λ (t : List ℕ). t ++ text_of_lines (greeting_of routes x)) (unsent told)

    rested : tells → IsAtRest routes papers journal x greeted
    rested told = rests_sending routes papers journal x opened greeted (greeting told) (rest told)

    -- what is sent behind the greeting
    behind : (turns : List TurnMade) (more : List ℕ) (now : List ℕ) → now ≡ greeted.seen.sent ++ (text_of_lines (answers_of turns) ++ more) → tells → now ≡ old.seen.sent ++ (text_of_lines (greeting_of routes x ++ answers_of turns) ++ more)
    behind turns more now is told =
        is ∙ ap (λ (t : List ℕ). t ++ (text_of_lines (answers_of turns) ++ more)) (greeted_is told) ∙ append_assoc old.seen.sent (text_of_lines (greeting_of routes x)) (text_of_lines (answers_of turns) ++ more)
        ∙ ap (λ (t : List ℕ). old.seen.sent ++ t) (sym (append_assoc (text_of_lines (greeting_of routes x)) (text_of_lines (answers_of turns)) more) ∙ ap (λ (t : List ℕ). t ++ more) (sym (text-append (greeting_of routes x) (answers_of turns))))

    -- the moments of a run that ends with its turns
    turned : (turns : List TurnMade) → AreTurns (graph_of routes) routes settings start turns → Moments s turns → tells → LeavesOnly (IsMoment routes papers old start turns) old served
    turned turns follow moments told = served_moments routes r papers start old opened (stood told) (opening told) (opens_one told) (unsent told) greeted journal (rest told) (greeting told) (whole told) served turns (turns_one told turns follow) (moments told (rested told))

    -- all lines of these bytes are answered
    served_talk : (bytes : List ℕ) (h : Serves s bytes) (last : Clock) → (tells → LeavesOnly (IsMoment routes papers old start h.turns) old last) → IsSession routes papers settings (talk_to last).station bytes
    served_talk bytes h last moments = talked bytes h.turns [] (append-nil (lines_of h.turns) ∙ h.made.lines_are) h.made.follow last moments

    sent_then : (bytes : List ℕ) (h : Serves s bytes) (more now : List ℕ) → tells → now ≡ served.seen.sent ++ more → now ≡ old.seen.sent ++ (text_of_lines (greeting_of routes x ++ answers_of h.turns) ++ more)
    sent_then bytes h more now told is =
        behind h.turns more now (is ∙ ap (λ (t : List ℕ). t ++ more) (h.sends told) ∙ append_assoc greeted.seen.sent (text_of_lines (answers_of h.turns)) more) told

    -- all input was answered
    pub done_ends : (taken : List ℕ) × Takes input taken × ServeLeaves s input_limit taken last_read input (Ok (record {})) → RunEnds routes papers settings (talk_to served) Done
    unfolding served_talk talked
    done_ends (taken, takes, (few, end, h)) = (taken, takes, few, end, (served_talk taken h served (turned h.turns h.made.follow h.moments), refl, λ told. sent_then taken h [] served.seen.sent told (sym (append-nil served.seen.sent))))

    -- the station failed in a turn
    pub breaks_ends : failed → (taken : List ℕ) × Takes input taken × ServeLeaves s input_limit taken last_read input (Err serve_fault.Station) → RunEnds routes papers settings (talk_to served) StationFault
    unfolding talked
    breaks_ends broke (taken, takes, (few, b)) = (
      broke,
      an_answer taken takes few (talked taken (b.turns ++ b.torn ∷ []) b.begins.left b.begins.lines_are b.begins.follow served (turned (b.turns ++ b.torn ∷ []) b.begins.follow b.begins.moments)) b.turns b.torn refl b.prompt
          (λ told. let p = b.sends told in (p.0, behind b.turns (take p.0 (text_of_lines b.torn.answer)) served.seen.sent p.1 told)),
    )

    -- memory was wanting in a turn
    pub starves_ends : (taken : List ℕ) × Takes input taken × ServeLeaves s input_limit taken last_read input (Err serve_fault.Memory) → RunEnds routes papers settings (talk_to served) Memory
    unfolding talked
    starves_ends (taken, takes, (few, b)) =
        a_turn taken takes few (talked taken b.turns b.begins.left b.begins.lines_are b.begins.follow served (turned b.turns b.begins.follow b.begins.moments)) b.prompt
        (λ told. behind b.turns [] served.seen.sent (b.sends told ∙ ap (λ (t : List ℕ). greeted.seen.sent ++ t) (sym (append-nil (text_of_lines (answers_of b.turns))))) told ∙ ap (λ (t : List ℕ). old.seen.sent ++ t) (append-nil (text_of_lines (greeting_of routes x ++ answers_of b.turns))))

    -- and then a last line
    module _ (rest_then : tells → IsAtRest routes papers journal x greeted → IsAtRest routes papers later y served) (last : Clock) (sending : tells → IsSending served last) (late : Type 0) (end : Status) (so : late → failed) where
      -- its moments
      lined : (line : List ℕ) → IsFaultLine line → (bytes : List ℕ) (h : Serves s bytes) → (tells → SendsFront served last (text_of_lines (line ∷ []))) → tells → LeavesOnly (IsMoment routes papers old start h.turns) old last
      lined line is bytes h sends told =
          failed_moments routes r papers start old opened (stood told) (opening told) (opens_one told) (unsent told) greeted journal (rest told) (greeting told) (whole told) served h.turns (turns_one told h.turns h.made.follow) (h.moments told (rested told)) (all_one told h.turns h.made.follow) (h.sends told) last later line is
          (subst (λ (z : FleetState). IsAtRest routes papers later z served) (ap (λ (p : Point). p.state) h.leads) (rest_then told (rested told))) (sending told) (sends told)

      unread_talk : (taken : List ℕ) (h : Serves s taken) → EndsWith ReadFault unread_line (record { tells = tells; before = served.seen.sent; now = last.seen.sent }) late end → IsSession routes papers settings (talk_to last).station taken
      unread_talk taken h ends = served_talk taken h last (lined (codes "fault read reports") unread_is_fault taken h (λ told. said_front tells served last ReadFault end late (text_of_lines (codes "fault read reports" ∷ [])) told ends))

      limit_talk : (bytes : List ℕ) (h : Serves s bytes) → EndsWith Limit past_limit_line (record { tells = tells; before = served.seen.sent; now = last.seen.sent }) late end → IsSession routes papers settings (talk_to last).station bytes
      limit_talk bytes h ends = served_talk bytes h last (lined (codes "fault limit") limit_is_fault bytes h (λ told. said_front tells served last Limit end late (text_of_lines (codes "fault limit" ∷ [])) told ends))

      -- a read failed, and its line was sent
      pub unread_ends : source_failed → (taken : List ℕ) × Takes input taken × ServeLeaves s input_limit taken last_read input (Err serve_fault.Read) → EndsWith ReadFault unread_line (record { tells = tells; before = served.seen.sent; now = last.seen.sent }) late end
          → RunEnds routes papers settings (talk_to last) end
      unfolding unread_talk served_talk talked
      unread_ends unreadable (taken, takes, (few, h)) (inl (e, sends)) =
          subst (RunEnds routes papers settings (talk_to last)) (sym e) (unreadable, (taken, takes, few, (unread_talk taken h (inl (e, sends)), refl, λ told. sent_then taken h unread_line last.seen.sent told (sends told))))
      unread_ends unreadable (taken, takes, (few, h)) (inr (e, broke, part)) =
          subst (RunEnds routes papers settings (talk_to last)) (sym e)
          (so broke, the_last_line taken taken unread_line (unread unreadable few refl refl) takes (unread_talk taken h (inr (e, broke, part))) refl (λ told. let p = part told in (p.0, sent_then taken h (take p.0 unread_line) last.seen.sent told p.1)))

      -- there was more input, and the line that says so was sent
      pub limit_ends : (taken : List ℕ) × Takes input taken × ServeLeaves s input_limit taken last_read input (Err serve_fault.Limit) → EndsWith Limit past_limit_line (record { tells = tells; before = served.seen.sent; now = last.seen.sent }) late end
          → RunEnds routes papers settings (talk_to last) end
      unfolding limit_talk served_talk talked
      limit_ends (taken, takes, (full, alone, h)) (inl (e, sends)) =
          subst (RunEnds routes papers settings (talk_to last)) (sym e) (taken, takes, full, alone, (limit_talk (take input_limit taken) h (inl (e, sends)), refl, λ told. sent_then (take input_limit taken) h past_limit_line last.seen.sent told (sends told)))
      limit_ends (taken, takes, (full, alone, h)) (inr (e, broke, part)) =
          subst (RunEnds routes papers settings (talk_to last)) (sym e) (
            so broke,
            the_last_line taken (take input_limit taken) past_limit_line (past_limit full alone refl refl) takes (limit_talk (take input_limit taken) h (inr (e, broke, part))) refl
                (λ told. let p = part told in (p.0, sent_then (take input_limit taken) h (take p.0 past_limit_line) last.seen.sent told p.1)),
          )
