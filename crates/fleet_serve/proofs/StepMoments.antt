-- The moments of a step: its entry is kept, and then its text is sent.
use Rattle.std.specs.Prelude.{IsSome}
use Rattle.std.proofs.Common.{Option, Some, None, Ok, Err, ◌^◌, ◌<◌, ℕ, ◌≡◌, ◌+◌, ◌≤◌, List, [], ◌∷◌, ◌++◌, take, drop, length, refl, sym, ap, ◌∙◌, subst, inl, inr, arith, append_assoc, append-nil}
use Rattle.std.proofs.lemmas.List.{take-append-drop, append_cancel_left, take_all}
use Rattle.fleet_base.specs.declared.geometry.PlannedVisit.{PlannedVisit}
use Rattle.fleet_base.specs.Order.{graph_of}
use Rattle.fleet_base.specs.State.{FleetState}
use Rattle.fleet_base.specs.Rules.{IsFleetState}
use Rattle.fleet_base.specs.declared.report.Report.{Report}
use Rattle.fleet_base.specs.Bytes.{text_of_lines}
use Rattle.report_text.specs.ReportLine.{IsReportLine}
use Rattle.station_api.specs.Scene.{Scene, Extends, side_of, other_of}
use Rattle.station_api.specs.Clock.{Clock, LeavesOnly, IsKept}
use Rattle.station_api.specs.Disk.{IsSending}
use Rattle.station_api.specs.declared.station.DiskSide.{DiskSide}
use Rattle.station_api.proofs.Moments.{goes_on}
use Rattle.fleet_core.specs.declared.entry.Entry.{Entry}
use Rattle.fleet_core.specs.Step.{Step}
use Rattle.fleet_core.proofs.Delaying.{step_keeps_rules}
use Rattle.fleet_journal.proofs.Frames.{length-frame_text}
use Rattle.fleet_journal.specs.Standing.{Standing}
use Rattle.fleet_journal.specs.Journal.{Stands}
use Rattle.fleet_recovery.specs.Papers.{Papers}
use Rattle.fleet_recovery.specs.Entries.{Enters as Leads}
use Rattle.fleet_recovery.specs.Image.{HoldsState}
use Rattle.fleet_recovery.specs.Opening.{StandsWith, IsAtRest}
use Rattle.fleet_recovery.proofs.Following.{means-push}
use Rattle.fleet_recovery.proofs.Sending.{holds_sending, stands_hold, rest_stands}
use Rattle.fleet_serve.specs.declared.session.Settings.{Settings}
use Rattle.fleet_serve.specs.declared.decision.Decision.TheVariants.{Say, Keep}
use Rattle.fleet_serve.specs.declared.decision.Reply.{Reply}
use Rattle.fleet_serve.specs.declared.outcome.StepFault.TheVariants.{Station}
use Rattle.fleet_serve.specs.declared.outcome.Turn.TheVariants.{Done}
use Rattle.fleet_serve.specs.Turns.{Point, TurnMade, entered}
use Rattle.fleet_serve.specs.Serving.{Course, stand, point_of, IsServing, Moments, Makes, StepLeaves}
use Rattle.fleet_serve.specs.Spans.{span}
use Rattle.fleet_serve.specs.Deciding.{HoldsEither, IsDecided, IsReady}
use Rattle.journal_frame.specs.Entries.{entry_payload}
use Rattle.fleet_serve.proofs.Courses.{terms_on, course_on}
use Rattle.fleet_serve.proofs.Decided.{entry_fits}
use Rattle.fleet_serve.proofs.Moments.{sending_self, sending_on}
use Rattle.fleet_serve.proofs.TurnMoments.{serving_none, serving_one, still, unsent_so_far}

-- nothing happens in a call that changes nothing
pub resting : (routes : List (List PlannedVisit)) (papers : Papers) (settings : Settings) (x : FleetState) (journal : Standing) (tells : Type 0) (clock : Clock) (turns : List TurnMade) → Moments (course_on routes papers settings x journal x journal tells clock clock) turns
resting routes papers settings x journal tells clock turns told rest =
    still (IsServing routes papers (point_of x journal) turns clock.seen.sent) clock
    (serving_none routes papers (point_of x journal) turns clock.seen.sent clock.seen (stands_hold routes papers journal x clock.seen (rest_stands routes papers journal x clock rest)) refl) rest.kept

module _ (routes : List (List PlannedVisit)) (papers : Papers) (from : Point) (turn : TurnMade) where
  -- while the entry is appended, the sides hold the state before the turn or after it, and nothing is sent
  pub keeping_moments : (old mid : Clock) → LeavesOnly (HoldsEither routes papers from.state turn.after.state) old mid → mid.seen.sent ≡ old.seen.sent → LeavesOnly (IsServing routes papers from (turn ∷ []) old.seen.sent) old mid
  keeping_moments old mid run quiet = record { passes = run.passes; each = λ c left. one c (run.each c left) (unsent_so_far old mid run.passes quiet c left) }
    where
      one : (c : Scene) → HoldsEither routes papers from.state turn.after.state c → c.sent ≡ old.seen.sent → IsServing routes papers from (turn ∷ []) old.seen.sent c
      one c (inl h) same = serving_none routes papers from (turn ∷ []) old.seen.sent c h same
      one c (inr h) same = serving_one routes papers from turn old.seen.sent c h same

  -- while a front of its text is sent, the sides hold the state after the turn
  pub sending_moments : (sent : List ℕ) (mid new : Clock) → IsKept mid → HoldsState routes papers mid.seen turn.after.state → mid.seen.sent ≡ sent → IsSending mid new → (n : ℕ) → new.seen.sent ≡ mid.seen.sent ++ take n (text_of_lines turn.answer)
      → LeavesOnly (IsServing routes papers from (turn ∷ []) sent) mid new
  sending_moments sent mid new kept holds same sending n now = record { passes = sending.passes; each = λ c left. one c (sending.stop c left) (sending.passes.grows c left) }
    where
      one : (c : Scene) → (d : Scene) × mid.may_leave d × (c.a ≡ d.a) × (c.b ≡ d.b) → Extends mid.seen.sent c.sent × Extends c.sent new.seen.sent → IsServing routes papers from (turn ∷ []) sent c
      one c (d, may, a, b) ((more, is), (rest, has)) =
          let at : d ≡ mid.seen = kept d may in
          let whole : mid.seen.sent ++ take n (text_of_lines turn.answer) ≡ mid.seen.sent ++ (more ++ rest) = sym now ∙ has ∙ ap (λ (l : List ℕ). l ++ rest) is ∙ append_assoc mid.seen.sent more rest in
          let part : more ++ rest ≡ take n (text_of_lines turn.answer) = sym (append_cancel_left mid.seen.sent (take n (text_of_lines turn.answer)) (more ++ rest) whole) in
          let all : more ++ (rest ++ drop n (text_of_lines turn.answer)) ≡ text_of_lines turn.answer =
          sym (append_assoc more rest (drop n (text_of_lines turn.answer))) ∙ ap (λ (l : List ℕ). l ++ drop n (text_of_lines turn.answer)) part ∙ take-append-drop n (text_of_lines turn.answer) in
          record {
            made = 1;
            part = more;
            holds = holds_sending routes papers turn.after.state mid.seen c (a ∙ ap (λ (s : Scene). s.a) at) (b ∙ ap (λ (s : Scene). s.b) at) holds;
            sent_is = is ∙ ap (λ (l : List ℕ). l ++ more) same;
            front = (rest ++ drop n (text_of_lines turn.answer), all ∙ ap text_of_lines (sym (append-nil turn.answer)));
          }

-- ---- an entry that is kept

module _ (routes : List (List PlannedVisit)) (papers : Papers) (payload : List ℕ) (x x' : FleetState) (enters : Leads (graph_of routes) x payload x') (journal later : Standing) where
  -- the journal stands with the state after the entry
  pub stands_behind : (old new : Scene) (h : StandsWith routes papers journal x old) → Stands later h.header (h.entries ++ payload ∷ []) new → StandsWith routes papers later x' new
  stands_behind old new h stands = record { header = h.header; entries = h.entries ++ payload ∷ []; stands = stands; means = means-push routes papers h.header h.entries payload x x' h.means enters }

  -- and is at rest with it
  pub rests_behind : (old new : Clock) (rest : IsAtRest routes papers journal x old) → Stands later rest.header (rest.entries ++ payload ∷ []) new.seen → IsKept new → later.side ≡ journal.side
      → side_of (other_of journal.side) new.seen ≡ side_of (other_of journal.side) old.seen → IsAtRest routes papers later x' new
  rests_behind old new rest stands kept same off = record {
    kept = kept;
    header = rest.header;
    entries = rest.entries ++ payload ∷ [];
    stands = stands;
    means = means-push routes papers rest.header rest.entries payload x x' rest.means enters;
    beside = subst (λ (s : DiskSide). length (side_of (other_of s) new.seen) ≤ 1) (sym same) (omega (arith, ap length off, rest.beside));
  }

is_some : (e : Entry) → IsSome (Some e)
is_some e = refl

-- a turn with an entry is not one without
has_entry : (e : Entry) (made : Option Entry) → made ≡ Some e → made ≡ None → ⊥
has_entry e made some none = let is : Some e ≡ None = sym some ∙ none in cc

same_point : (p q : Point) → p.state ≡ q.state → p.place ≡ q.place → p ≡ q
same_point p q state place = ap (λ (x : FleetState). let r : Point = record { state = x; place = p.place } in r) state ∙ ap (λ (n : ℕ). let r : Point = record { state = q.state; place = n } in r) place

-- ---- a turn whose entry is kept, if it has one, and whose text is to be sent

module _ (routes : List (List PlannedVisit)) (papers : Papers) (settings : Settings) (x : FleetState) (journal : Standing) (tells : Type 0) (old : Clock) (line : List ℕ) (rules : IsFleetState (graph_of routes) x) (stands : tells → StandsWith routes papers journal x old.seen) where
  -- a turn that changes nothing
  pub said_ready : (reply : Reply) → IsDecided routes settings (point_of x journal) line (Say reply) → IsReady (terms_on routes papers settings) (stand x journal) (stand x journal) (span tells old old) line reply
  said_ready reply (turn, s, ends) = record {
    turn = turn;
    line_is = s.line_is;
    is_turn = s.is_turn;
    leads = s.stays;
    ends = ends;
    text_is = s.text_is;
    rules = rules;
    moments = resting routes papers settings x journal tells old (turn ∷ []);
    stands = stands;
    rests = λ told rest. rest;
    unsent = λ told. refl;
    untouched = λ told none. sending_self old;
  }

  -- a turn whose entry is kept
  module _ (entry : Entry) (frame text : List ℕ) (decided : IsDecided routes settings (point_of x journal) line (Keep entry frame text)) where
    abbrev turn : TurnMade
    turn = decided.1

    abbrev payload : List ℕ
    payload = decided.6.frame_is.0

    -- it makes the step of the report
    entered_step : Step (graph_of routes) x decided.0 entry.switched entry.releases turn.after.state
    entered_step = let e = decided.6.enters in subst (λ (n : Entry). Step (graph_of routes) x decided.0 n.switched n.releases turn.after.state) decided.6.same e.step

    -- its frame is short, and there is room for it
    pub frame_length : length frame ≡ 5 + length payload
    frame_length = ap length decided.6.frame_is.2 ∙ length-frame_text payload

    pub frame_fits : journal.place + length frame + 1 < 2 ^ 64
    frame_fits = omega (arith, frame_length, decided.5, entry_fits (graph_of routes) settings.side_limit journal.place x payload decided.0 entry.switched entry.releases turn.after.state decided.6.frame_is.1 entered_step decided.3)

    -- its entry leads on
    pub entry_leads : Leads (graph_of routes) x payload turn.after.state
    entry_leads = record { entry = record { report = decided.0; switched = entry.switched }; releases = entry.releases; is_entry = decided.6.frame_is.1; step = entered_step }

    pub entry_step : Step (graph_of routes) x entry.report entry.switched entry.releases turn.after.state
    entry_step =
        let e = decided.6.enters in
        subst (λ (n : Entry). Step (graph_of routes) x n.report n.switched n.releases turn.after.state) decided.6.same
        (subst (λ (r : Report). Step (graph_of routes) x r e.entry.switched e.entry.releases turn.after.state) (sym e.report_is) e.step)

    -- what is left when it is kept
    pub kept_ready : (y : FleetState) (later : Standing) (mid : Clock) (count : ℕ) → y ≡ turn.after.state → later.place ≡ journal.place + length frame → count ≡ y.count
        → (tells → StandsWith routes papers later turn.after.state mid.seen) → (tells → IsAtRest routes papers journal x old → IsAtRest routes papers later turn.after.state mid)
        → (tells → IsAtRest routes papers journal x old → LeavesOnly (HoldsEither routes papers x turn.after.state) old mid) → (tells → mid.seen.sent ≡ old.seen.sent)
        → IsReady (terms_on routes papers settings) (stand x journal) (stand y later) (span tells old mid) line (record { turn = Done count; text = text })
    kept_ready y later mid count state place number stood rested run quiet =
        let e = decided.6.enters in
        let long : length (entry_payload decided.0 e.entry.switched) ≡ length payload = ap (λ (n : Entry). length (entry_payload decided.0 n.switched)) decided.6.same ∙ sym (ap length decided.6.frame_is.1.payload_is) in
        let at : turn.after.place ≡ later.place = omega (arith, e.place_is, place, frame_length, long) in
        let some : IsSome turn.entry = rw e.entry_is (is_some e.entry) in
        record {
          turn = turn;
          line_is = decided.4;
          is_turn = entered decided.0 (subst (λ (l : List ℕ). IsReportLine l decided.0) (sym decided.4) decided.2) decided.3 e;
          leads = same_point turn.after (point_of y later) (sym state) at;
          ends = (some, number ∙ ap (λ (z : FleetState). z.count) state);
          text_is = decided.6.text_is;
          rules = subst (IsFleetState (graph_of routes)) (sym state) (step_keeps_rules (graph_of routes) x entry.report entry.switched entry.releases turn.after.state rules entry_step);
          moments = λ told rest. keeping_moments routes papers (point_of x journal) turn old mid (run told rest) (quiet told);
          stands = λ told. subst (λ (z : FleetState). StandsWith routes papers later z mid.seen) (sym state) (stood told);
          rests = λ told rest. subst (λ (z : FleetState). IsAtRest routes papers later z mid) (sym state) (rested told rest);
          unsent = quiet;
          untouched = λ told none. absurd (has_entry e.entry turn.entry e.entry_is none);
        }

module _ (routes : List (List PlannedVisit)) (papers : Papers) (settings : Settings) (x y : FleetState) (journal later : Standing) (tells : Type 0) (old mid new : Clock) (line bytes : List ℕ) (reply : Reply)
    (ready : IsReady (terms_on routes papers settings) (stand x journal) (stand y later) (span tells old mid) line reply) (same : bytes ≡ reply.text) (sending : tells → IsSending mid new) where
  abbrev s : Course
  s = course_on routes papers settings x journal y later tells old new

  makes : (tells → (n : ℕ) × (new.seen.sent ≡ mid.seen.sent ++ take n bytes)) → Makes s line ready.turn
  makes part = record {
    line_is = ready.line_is;
    is_turn = ready.is_turn;
    moments = λ told rest.
        let p = part told in
        let holds = subst (λ (q : Point). HoldsState routes papers mid.seen q.state) (sym ready.leads) (stands_hold routes papers later y mid.seen (ready.stands told)) in
        goes_on (IsServing routes papers (point_of x journal) (ready.turn ∷ []) old.seen.sent) old mid new (ready.moments told rest)
        (sending_moments routes papers (point_of x journal) ready.turn old.seen.sent mid new (ready.rests told rest).kept holds (ready.unsent told) (sending told) p.0 (p.1 ∙ ap (λ (l : List ℕ). mid.seen.sent ++ take p.0 l) (same ∙ ready.text_is)));
    stays = λ told none. sending_on old mid new (ready.untouched told none) (sending told);
  }

  -- the text is sent whole
  pub step_done : (tells → new.seen.sent ≡ mid.seen.sent ++ bytes) → StepLeaves s line (Ok reply.turn)
  step_done sent = (
    ready.turn,
    makes (λ told. (length bytes, sent told ∙ ap (λ (l : List ℕ). mid.seen.sent ++ l) (sym (take_all (length bytes) bytes (omega arith))))),
    ready.leads,
    ready.ends,
    λ told. sent told ∙ ap (λ (l : List ℕ). l ++ bytes) (ready.unsent told) ∙ ap (λ (l : List ℕ). old.seen.sent ++ l) (same ∙ ready.text_is),
  )

  -- some front of it is
  pub step_torn : (tells → (n : ℕ) × (new.seen.sent ≡ mid.seen.sent ++ take n bytes)) → StepLeaves s line (Err Station)
  step_torn part = (
    ready.turn,
    makes part,
    λ told. let p = part told in (p.0, p.1 ∙ ap (λ (l : List ℕ). l ++ take p.0 bytes) (ready.unsent told) ∙ ap (λ (l : List ℕ). old.seen.sent ++ take p.0 l) (same ∙ ready.text_is)),
  )

-- the entry was not kept: nothing is sent
pub step_broken : (routes : List (List PlannedVisit)) (papers : Papers) (settings : Settings) (x y : FleetState) (journal later : Standing) (tells : Type 0) (old mid : Clock) (line : List ℕ) (entry : Entry) (frame text : List ℕ)
    (decided : IsDecided routes settings (point_of x journal) line (Keep entry frame text)) → (tells → IsAtRest routes papers journal x old → LeavesOnly (HoldsEither routes papers x decided.1.after.state) old mid) → (tells → mid.seen.sent ≡ old.seen.sent)
    → StepLeaves (course_on routes papers settings x journal y later tells old mid) line (Err Station)
step_broken routes papers settings x y journal later tells old mid line entry frame text decided run quiet = (
  decided.1,
  record {
    line_is = decided.4;
    is_turn = entered decided.0 (subst (λ (l : List ℕ). IsReportLine l decided.0) (sym decided.4) decided.2) decided.3 decided.6.enters;
    moments = λ told rest. keeping_moments routes papers (point_of x journal) decided.1 old mid (run told rest) (quiet told);
    stays = λ told none. absurd (has_entry decided.6.enters.entry decided.1.entry decided.6.enters.entry_is none);
  },
  λ told. (0, quiet told ∙ sym (append-nil old.seen.sent)),
)
