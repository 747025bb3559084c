-- A run over sides that stand for a state is a session, whatever its status.
use Rattle.std.proofs.Common.{ℕ, ◌≡◌, ◌⊎◌, List, [], ◌++◌, take, drop, inl, inr, Err, refl, sym, ap, ◌∙◌, subst, arith, append-nil, zero, suc}
use Rattle.std.specs.Prelude.{codes, IsErrOf, Result}
use Rattle.std.proofs.lemmas.List.{take-append-drop}
use Rattle.fleet_base.specs.declared.geometry.PlannedVisit.{PlannedVisit}
use Rattle.fleet_base.specs.declared.status.Status.{Status}
use Rattle.fleet_base.specs.declared.status.Status.TheVariants.{Done, Usage, Input, Journal, ReadFault, StationFault, Memory, Limit}
use Rattle.fleet_base.specs.Plan.{AreRoutes}
use Rattle.fleet_base.specs.State.{FleetState}
use Rattle.fleet_base.specs.Bytes.{whole_lines}
use Rattle.station_api.proofs.Moments.{quiet_self}
use Rattle.fleet_recovery.specs.Papers.{Papers}
use Rattle.station_api.specs.Disk.{IsSending}
use Rattle.fleet_recovery.specs.Image.{Image, IsImage, StandsFor}
use Rattle.fleet_serve.specs.declared.outcome.ServeFault.{ServeFault}
use Rattle.fleet_serve.specs.declared.outcome.ServeFault.TheVariants as serve_fault
use Rattle.fleet_serve.specs.declared.session.Settings.{Settings}
use Rattle.fleet_serve.specs.Told.{Takes}
use Rattle.fleet_serve.specs.Reading.{unfinished}
use Rattle.fleet_serve.specs.Turns.{Point, lines_of, TurnMade, state_after}
use Rattle.fleet_serve.proofs.Pieces.{whole_lines_join}
use Rattle.fleet_cli.specs.Lives.{IsFaultLine}
use Rattle.fleet_cli.specs.Runs.{Talk, IsCutShort, IsLastLine, unread, past_limit, IsRefusal, HasMeaning, IsNotOpened, cut_short, refusing, BreaksOffEarly, breaks_early, the_greeting, an_answer, the_last_line, BreaksOffIn, starves_early, no_greeting, a_turn, StarvesIn, RunEnds, input_limit, run_settings}
use Rattle.fleet_cli.specs.Sessions.{IsSession, IsAnotherCommand, GoesOn}
use Rattle.fleet_cli.proofs.LivesMoments.{opens_there, opening_part}
use Rattle.fleet_cli.proofs.LivesCalls.{opens_stand}
use Rattle.fleet_cli.proofs.GoingOn.{goes_on, stands_rules}
use Rattle.fleet_cli.proofs.NoRelease.{refusal_line}
use Rattle.fleet_cli.proofs.Others.{SendsNone, sends_nothing, sends_whole, another, text_is_another}
use Rattle.fleet_cli.proofs.Exclusion.{routes_are}
use Rattle.fleet_cli.specs.Due.{IsAsked}
use Rattle.fleet_cli.specs.Ends.{Call, EndsAs}
use Rattle.command_words.specs.declared.command.Command.{Command}
use Rattle.fleet_cli.proofs.Opening.{not_refused, stands_not}

-- the two lines that end a run after all answers
pub unread_is_fault : IsFaultLine (codes "fault read reports")
unread_is_fault = record {
  rest = codes "read reports";
  line_is = refl;
  plain = (omega arith, (omega arith, (omega arith, (omega arith, (omega arith, (omega arith, (omega arith, (omega arith, (omega arith, (omega arith, (omega arith, (omega arith, tt))))))))))));
}

pub limit_is_fault : IsFaultLine (codes "fault limit")
limit_is_fault = record { rest = codes "limit"; line_is = refl; plain = (omega arith, (omega arith, (omega arith, (omega arith, (omega arith, tt))))) }

-- these faults are none of the station
pub read_is_other : (r : Result (Unit {0}) ServeFault) → r ≡ Err serve_fault.Read → IsErrOf r serve_fault.Station → ⊥
read_is_other r e is = let f : Err serve_fault.Station ≡ Err serve_fault.Read = sym is ∙ e in cc

pub limit_is_other : (r : Result (Unit {0}) ServeFault) → r ≡ Err serve_fault.Limit → IsErrOf r serve_fault.Station → ⊥
limit_is_other r e is = let f : Err serve_fault.Station ≡ Err serve_fault.Limit = sym is ∙ e in cc

-- ---- a run is a session

module _ (routes : List (List PlannedVisit)) (r : AreRoutes routes) (papers : Papers) (settings : Settings) (talk : Talk) (told : talk.station.tells) (x : FleetState) (stands : StandsFor routes papers talk.station.old.seen x) where
  -- it is one over the lines of what it has taken
  abbrev IsOne : Type 0
  IsOne = (taken : List ℕ) × Takes talk.input taken × IsSession routes papers settings talk.station taken

  whole : (taken : List ℕ) → Takes talk.input taken → IsSession routes papers settings talk.station taken → IsOne
  whole taken takes s = (taken, takes, s)

  -- the lines that end within a limit are the first ones
  within : (taken bytes : List ℕ) (n : ℕ) → Takes talk.input taken → bytes ≡ take n taken → (s : IsSession routes papers settings talk.station bytes) → s.left ≡ [] → IsOne
  within taken bytes n takes same s none =
      let all : lines_of s.turns ≡ whole_lines bytes = sym (append-nil (lines_of s.turns)) ∙ ap (λ (l : List (List ℕ)). lines_of s.turns ++ l) (sym none) ∙ s.lines_are in
      let more = whole_lines (unfinished (take n taken) ++ drop n taken) in
      let front : lines_of s.turns ++ more ≡ whole_lines taken = ap (λ (l : List (List ℕ)). l ++ more) (all ∙ ap whole_lines same) ∙ sym (whole_lines_join (take n taken) (drop n taken)) ∙ ap whole_lines (take-append-drop n taken) in
      (taken, takes, record { start = s.start; opens = s.opens; turns = s.turns; left = more; lines_are = front; follow = s.follow; goes_on = s.goes_on; moments = s.moments })

  none_taken : (k : ℕ) → take {A = TurnMade} k [] ≡ []
  none_taken zero = refl
  none_taken (suc k) = refl

  -- a run that ends before its greeting has no turn
  early : Takes talk.input [] → IsCutShort routes papers talk.station → IsOne
  early takes cut =
      let opens = opens_there routes papers talk.station.old.seen x stands in
      let start : Point = record { state = x; place = opens.0 } in (
        [],
        takes,
        record {
          start = start;
          opens = λ told. opens.1;
          turns = [];
          left = [];
          lines_are = refl;
          follow = tt;
          goes_on = λ k. subst (λ (turns : List TurnMade). GoesOn routes (state_after start turns)) (sym (none_taken k)) (goes_on routes x (stands_rules routes r papers talk.station.old.seen x stands));
          moments = λ told. opening_part routes papers talk.station.old start [] r stands talk.station.old talk.station.new (quiet_self talk.station.old) (cut.moments told) (cut.silent told ∙ append-nil talk.station.old.seen.sent);
        },
      )

  refused : (text : List ℕ) → IsNotOpened routes papers talk.station text → IsOne
  refused text shut = absurd (not_refused routes r papers talk.station.old.seen shut.image text (shut.means told) shut.text_is x stands)

  broke_early : Takes talk.input [] → BreaksOffEarly routes papers talk.station → IsOne
  broke_early takes (cut_short cut) = early takes cut
  broke_early takes (refusing text shut part) = refused text shut

  last : (taken bytes line : List ℕ) → Takes talk.input taken → IsLastLine talk taken bytes line → (s : IsSession routes papers settings talk.station bytes) → s.left ≡ [] → IsOne
  last taken bytes line takes (unread failed few same is) s none = whole taken takes (subst (λ (b : List ℕ). IsSession routes papers settings talk.station b) same s)
  last taken bytes line takes (past_limit full alone same is) s none = within taken bytes input_limit takes same s none

  broke : BreaksOffIn routes papers settings talk → IsOne
  broke (breaks_early takes b) = broke_early takes b
  broke (the_greeting s takes part) = whole [] takes s
  broke (an_answer taken takes few s turns torn is prompt part) = whole taken takes s
  broke (the_last_line taken bytes line is takes s none part) = last taken bytes line takes is s none

  starved : StarvesIn routes papers settings talk → IsOne
  starved (starves_early takes cut) = early takes cut
  starved (no_greeting s takes silent) = whole [] takes s
  starved (a_turn taken takes few s prompt sends) = whole taken takes s

  pub run_is_session : (end : Status) → RunEnds routes papers settings talk end → IsOne
  run_is_session Done e = whole e.0 e.1 e.4.0
  run_is_session Usage e = absurd e
  run_is_session Input e = absurd e
  run_is_session Journal e = refused e.1.0 e.1.1
  run_is_session ReadFault e = whole e.1.0 e.1.1 e.1.3.0
  run_is_session StationFault e = broke e.1
  run_is_session Memory e = starved e
  run_is_session Limit e = within e.0 (take input_limit e.0) input_limit e.1 refl e.4.0 e.4.1

-- ---- a run over sides that mean a refusal is a call of another command

module _ (routes : List (List PlannedVisit)) (r : AreRoutes routes) (papers : Papers) (settings : Settings) (talk : Talk) (told : talk.station.tells) (image : Image) (is : IsRefusal image) (means : IsImage routes papers talk.station.old.seen image) where
  -- the sides stay as they are, and at most a line is sent that tells no robot to move
  abbrev Refuses : Type 0
  Refuses = IsSending talk.station.old talk.station.new × SendsNone talk.station.old talk.station.new

  -- no journal of theirs is opened
  opened_not : (bytes : List ℕ) → IsSession routes papers settings talk.station bytes → ⊥
  opened_not bytes s = stands_not routes r papers talk.station.old.seen image is means s.start.state (opens_stand routes papers talk.station.old.seen s.start.state s.start.place (s.opens told))

  cut_refuses : IsCutShort routes papers talk.station → Refuses
  cut_refuses cut = (cut.stay image is told means, sends_nothing talk.station.old talk.station.new (cut.silent told))

  broke_refuses : BreaksOffIn routes papers settings talk → Refuses
  broke_refuses (breaks_early takes (cut_short cut)) = cut_refuses cut
  broke_refuses (breaks_early takes (refusing text shut part)) = (shut.stay told, let p = part told in (text, p.0, refusal_line shut.image text shut.text_is, p.1))
  broke_refuses (the_greeting s takes part) = absurd (opened_not [] s)
  broke_refuses (an_answer taken takes few s turns torn same prompt part) = absurd (opened_not taken s)
  broke_refuses (the_last_line taken bytes line last takes s none part) = absurd (opened_not bytes s)

  starved_refuses : StarvesIn routes papers settings talk → Refuses
  starved_refuses (starves_early takes cut) = cut_refuses cut
  starved_refuses (no_greeting s takes silent) = absurd (opened_not [] s)
  starved_refuses (a_turn taken takes few s prompt sends) = absurd (opened_not taken s)

  pub run_refuses : (end : Status) → RunEnds routes papers settings talk end → Refuses
  run_refuses Done e = absurd (opened_not e.0 e.4.0)
  run_refuses Usage e = absurd e
  run_refuses Input e = absurd e
  run_refuses Journal e = (e.1.1.stay told, sends_whole talk.station.old talk.station.new e.1.0 (refusal_line e.1.1.image e.1.0 e.1.1.text_is) (e.1.2 told))
  run_refuses ReadFault e = absurd (opened_not e.1.0 e.1.3.0)
  run_refuses StationFault e = broke_refuses e.1
  run_refuses Memory e = starved_refuses e
  run_refuses Limit e = absurd (opened_not (take input_limit e.0) e.4.0)

-- ---- every run is one or the other

pub run_is_either : (routes : List (List PlannedVisit)) → AreRoutes routes → (papers : Papers) (settings : Settings) (talk : Talk) → talk.station.tells → HasMeaning routes papers talk.station.old.seen → (end : Status) → RunEnds routes papers settings talk end
    → ((taken : List ℕ) × Takes talk.input taken × IsSession routes papers settings talk.station taken) ⊎ IsAnotherCommand talk.station.old talk.station.new
run_is_either routes r papers settings talk told (inl (x, stands)) end e = inl (run_is_session routes r papers settings talk told x stands end e)
run_is_either routes r papers settings talk told (inr (image, is, means)) end e = let both = run_refuses routes r papers settings talk told image is means end e in inr (another talk.station.old talk.station.new both.0 both.1)

-- every call is one or the other
pub call_is_either : (call : Call) (end : Status) → call.talk.station.tells → ((command : Command) (papers : Papers) (routes : List (List PlannedVisit)) → IsAsked call.files call.words command papers routes → HasMeaning routes papers call.talk.station.old.seen) → EndsAs call end
    → ((papers : Papers) × (routes : List (List PlannedVisit)) × (settings : Settings) × (taken : List ℕ) × Takes call.talk.input taken × IsSession routes papers settings call.talk.station taken) ⊎ IsAnotherCommand call.talk.station.old call.talk.station.new
call_is_either call end told means (inl l) = inr (text_is_another call end told l)
call_is_either call end told means (inr r) =
    let routes = routes_are call.files r.asked.map_name r.asked.plan_name r.papers r.routes r.asked.sound in
    go (run_is_either r.routes routes r.papers (run_settings r.budget r.quiet) call.talk told (means r.command r.papers r.routes r.asked) end r.ends)
  where
    go : ((taken : List ℕ) × Takes call.talk.input taken × IsSession r.routes r.papers (run_settings r.budget r.quiet) call.talk.station taken) ⊎ IsAnotherCommand call.talk.station.old call.talk.station.new
        → ((papers : Papers) × (routes : List (List PlannedVisit)) × (settings : Settings) × (taken : List ℕ) × Takes call.talk.input taken × IsSession routes papers settings call.talk.station taken) ⊎ IsAnotherCommand call.talk.station.old call.talk.station.new
    go (inl (taken, takes, s)) = inl (r.papers, r.routes, run_settings r.budget r.quiet, taken, takes, s)
    go (inr o) = inr o
