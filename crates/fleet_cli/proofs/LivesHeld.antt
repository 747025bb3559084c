-- What a session finds: every report that was answered.
use Rattle.std.proofs.Common.{ℕ, suc, zero, ◌≡◌, ◌+◌, ◌^◌, ◌<◌, ◌≤◌, ◌⊎◌, List, [], ◌∷◌, ◌++◌, Some, None, Option, refl, sym, ap, ◌∙◌, subst, inl, inr, arith, length, get_or, take, drop, append_assoc, length-append}
use Rattle.std.specs.Prelude.{Contains, slice_get}
use Rattle.std.proofs.lemmas.Fmt.{decimal_injective}
use Rattle.std.proofs.lemmas.List.{get_or_append_left, get_or-append-add}
use Rattle.std.proofs.lemmas.List.Elements.{Contains-append_cases}
use Rattle.std.proofs.lemmas.Option.{slice_get-get_or, slice_get_within, get_or_from_slice_get}
use Rattle.fleet_base.specs.declared.geometry.Visit.{Visit}
use Rattle.fleet_base.specs.declared.geometry.PlannedVisit.{PlannedVisit}
use Rattle.fleet_base.specs.declared.report.Why.TheVariants.{Line, Full}
use Rattle.fleet_base.specs.Plan.{AreRoutes}
use Rattle.fleet_base.specs.Order.{graph_of}
use Rattle.fleet_base.specs.State.{FleetState}
use Rattle.fleet_base.specs.Rules.{IsFleetState}
use Rattle.fleet_base.specs.Bytes.{IsPrefix, whole_lines, text_of_lines}
use Rattle.fleet_base.specs.World.{Mark, Event, Marked, Begun, Ended, release_line}
use Rattle.fleet_base.proofs.Members.{in_none, in_one, in_cons, head_in, tail_in}
use Rattle.fleet_base.proofs.AllVisits.{from_map}
use Rattle.fleet_base.proofs.LineLaws.{all_of, whole_lines_sent}
use Rattle.report_text.specs.declared.answer.Answer.{Answer}
use Rattle.report_text.specs.declared.answer.Answer.TheVariants.{Ready, Done, Known, Refused}
use Rattle.report_text.specs.AnswerLine.{answer_line}
use Rattle.fleet_core.specs.declared.entry.Entry.{Entry}
use Rattle.fleet_core.proofs.Counts.{step_counts}
use Rattle.journal_frame.specs.Entries.{Accepted}
use Rattle.fleet_serve.specs.declared.session.Settings.{Settings}
use Rattle.fleet_serve.specs.Lines.{release_lines, entry_lines, pending, greeting_of}
use Rattle.fleet_serve.specs.Turns.{Point, TurnMade, Answers, IsTurn, malformed, known, refused, full, entered, AreTurns, state_after, answers_of}
use Rattle.fleet_cli.specs.Lives.{IsEnding, SessionMade, IsMarkOf, early, kept, as_kept, entry_of, entries_of, last_sent, sent_of, first_mark, MayBegin, AreMarksOf, IsLife, IsAnswered, IsEverAnswered, HoldsAs, IsStateOf}
use Rattle.fleet_serve.proofs.TurnLaws.{turn_keeps}
use Rattle.fleet_serve.proofs.Telling.{chosen_are, choice_is_no_ok}
use Rattle.fleet_cli.proofs.LivesMarks.{ending_plain, lines_at, lines_plain, begin_good}

-- ---- counts

-- a turn makes an entry and counts one, or changes nothing
data Counts (from : Point) (turn : TurnMade) : Type 0 where
  same : turn.entry ≡ None → turn.after.state.count ≡ from.state.count → Counts from turn
  one : (entry : Entry) → turn.entry ≡ Some entry → turn.after.state.count ≡ from.state.count + 1 → Counts from turn

unchanged : (from : Point) (turn : TurnMade) (answer : Answer) → Answers from turn answer → Counts from turn
unchanged from turn answer a = same a.no_entry (ap (λ (f : Point). f.state.count) a.stays)

turn_counts : (routes : List (List PlannedVisit)) (settings : Settings) (from : Point) (turn : TurnMade) → IsTurn (graph_of routes) routes settings from turn → Counts from turn
turn_counts routes settings from turn (malformed none a) = unchanged from turn (Refused Line) a
turn_counts routes settings from turn (known report is j a) = unchanged from turn Known a
turn_counts routes settings from turn (refused report why is j a) = unchanged from turn (Refused why) a
turn_counts routes settings from turn (full report is j many a) = unchanged from turn (Refused Full) a
turn_counts routes settings from turn (entered report is room e) = one e.entry e.entry_is (step_counts (graph_of routes) from.state report e.entry.switched e.entry.releases turn.after.state e.step)

-- as many reports are counted as turns made entries
turns_count : (routes : List (List PlannedVisit)) (settings : Settings) (from : Point) (turns : List TurnMade) (k : ℕ) → AreTurns (graph_of routes) routes settings from turns
    → (state_after from (take k turns)).count ≡ from.state.count + length (entries_of (take k turns))
turns_count routes settings from turns zero follow = omega arith
turns_count routes settings from [] (suc k) follow = omega arith
turns_count routes settings from (turn ∷ turns) (suc k) follow = go (turn_counts routes settings from turn follow.0) (turns_count routes settings turn.after turns k follow.1)
  where
    go : Counts from turn → (state_after turn.after (take k turns)).count ≡ turn.after.state.count + length (entries_of (take k turns))
        → (state_after turn.after (take k turns)).count ≡ from.state.count + length (entry_of turn.entry ++ entries_of (take k turns))
    go (same e c) rest = omega (arith, rest, c, ap (λ (o : Option Entry). length (entry_of o ++ entries_of (take k turns))) e)
    go (one entry e c) rest = omega (arith, rest, c, ap (λ (o : Option Entry). length (entry_of o ++ entries_of (take k turns))) e)

-- ---- the number of an entry

-- the entry stands at this place among those made, counted on from a state
abbrev StandsAt : ℕ → List Accepted → ℕ → Accepted → Type 0
StandsAt count entries n accepted = (k : ℕ) × (n ≡ count + k + 1) × (slice_get entries k ≡ Some accepted)

turn_stands : (routes : List (List PlannedVisit)) (settings : Settings) (from : Point) (turns : List TurnMade) → AreTurns (graph_of routes) routes settings from turns → (turn : TurnMade) → Contains turns turn → (entry : Entry) → turn.entry ≡ Some entry
    → StandsAt from.state.count (entries_of turns) turn.after.state.count (as_kept entry)
turn_stands routes settings from [] follow turn h entry e = absurd (in_none turn h)
turn_stands routes settings from (first ∷ turns) follow turn h entry e = go (turn_counts routes settings from first follow.0) (in_cons first turns turn h) (λ k. turn_stands routes settings first.after turns follow.1 turn k entry e)
  where
    here : Counts from turn → StandsAt from.state.count (entry_of turn.entry ++ entries_of turns) turn.after.state.count (as_kept entry)
    here (same n c) = cc
    here (one other n c) = (0, omega (arith, c), ap (λ (o : Option Entry). slice_get (entry_of o ++ entries_of turns) 0) e)

    there : Counts from first → StandsAt first.after.state.count (entries_of turns) turn.after.state.count (as_kept entry) → StandsAt from.state.count (entry_of first.entry ++ entries_of turns) turn.after.state.count (as_kept entry)
    there (same n c) (k, is, at) = (k, omega (arith, is, c), ap (λ (o : Option Entry). slice_get (entry_of o ++ entries_of turns) k) n ∙ at)
    there (one other n c) (k, is, at) = (suc k, omega (arith, is, c), ap (λ (o : Option Entry). slice_get (entry_of o ++ entries_of turns) (suc k)) n ∙ at)

    go : Counts from first → (first ≡ turn) ⊎ Contains turns turn → (Contains turns turn → StandsAt first.after.state.count (entries_of turns) turn.after.state.count (as_kept entry)) → StandsAt from.state.count (entry_of first.entry ++ entries_of turns) turn.after.state.count (as_kept entry)
    go c (inl same_turn) rest = subst (λ (t : TurnMade). StandsAt from.state.count (entry_of t.entry ++ entries_of turns) turn.after.state.count (as_kept entry)) (sym same_turn) (here (subst (λ (t : TurnMade). Counts from t) same_turn c))
    go c (inr later) rest = there c (rest later)

entries_split : (turns : List TurnMade) (k : ℕ) → entries_of (take k turns) ++ entries_of (drop k turns) ≡ entries_of turns
entries_split turns zero = refl
entries_split [] (suc k) = refl
entries_split (turn ∷ turns) (suc k) = append_assoc (entry_of turn.entry) (entries_of (take k turns)) (entries_of (drop k turns)) ∙ ap (λ (rs : List Accepted). entry_of turn.entry ++ rs) (entries_split turns k)

-- what stands in a front of a list
front_get : (xs ys : List Accepted) (k : ℕ) (r : Accepted) → k < length xs → slice_get (xs ++ ys) k ≡ Some r → slice_get xs k ≡ Some r
front_get xs ys k r lt e = slice_get-get_or xs k r lt ∙ ap Some (sym (get_or_append_left xs ys r k lt) ∙ get_or_from_slice_get (xs ++ ys) k r r e)

-- ---- ok lines

ok_count : (m n : ℕ) → m < 2 ^ 64 → n < 2 ^ 64 → answer_line (Done m) ≡ answer_line (Done n) → m ≡ n
ok_count m n hm hn e = decimal_injective m n hm hn (ap (drop 3) e)

not_first : (l : List ℕ) (n : ℕ) (c : ℕ) → get_or l 0 0 ≡ c → (c ≡ 111 → ⊥) → l ≡ answer_line (Done n) → ⊥
not_first l n c first other e = other (sym first ∙ ap (λ (k : List ℕ). get_or k 0 0) e)

-- none of the lines is the ok line
abbrev NoOk : ℕ → List (List ℕ) → Type 0
NoOk n lines = Contains lines (answer_line (Done n)) → ⊥

one_no_ok : (n : ℕ) (l : List ℕ) (c : ℕ) → get_or l 0 0 ≡ c → (c ≡ 111 → ⊥) → NoOk n (l ∷ [])
one_no_ok n l c first other h = not_first l n c first other (in_one l (answer_line (Done n)) h)

releases_no_ok : (routes : List (List PlannedVisit)) (visits : List Visit) (n : ℕ) → NoOk n (release_lines routes visits)
releases_no_ok routes visits n h = let m = from_map (release_line routes) visits (answer_line (Done n)) h in not_first (release_line routes m.0) n 114 refl (λ e. absurd (omega (arith, e))) m.2

greeting_no_ok : (routes : List (List PlannedVisit)) (x : FleetState) (n : ℕ) → NoOk n (greeting_of routes x)
greeting_no_ok routes x n h = go (in_cons (answer_line (Ready x.count)) (release_lines routes (pending x)) (answer_line (Done n)) h)
  where
    go : (answer_line (Ready x.count) ≡ answer_line (Done n)) ⊎ Contains (release_lines routes (pending x)) (answer_line (Done n)) → ⊥
    go (inl e) = not_first (answer_line (Ready x.count)) n 114 refl (λ e. absurd (omega (arith, e))) e
    go (inr k) = releases_no_ok routes (pending x) n k

ending_no_ok : (ending : List (List ℕ)) → IsEnding ending → (n : ℕ) → NoOk n ending
ending_no_ok ending (inl e) n h = in_none (answer_line (Done n)) (subst (λ (ls : List (List ℕ)). Contains ls (answer_line (Done n))) e h)
ending_no_ok ending (inr f) n h = one_no_ok n f.0 102 (ap (λ (l : List ℕ). get_or l 0 0) f.1.line_is) (λ e. absurd (omega (arith, e))) (subst (λ (ls : List (List ℕ)). Contains ls (answer_line (Done n))) f.2 h)

-- an ok line in the answer of a turn is that of its entry
pub record HasOk (turn : TurnMade) (n : ℕ) : Type 0 where
  pub entry : Entry
  pub entry_is : turn.entry ≡ Some entry
  pub number : turn.after.state.count ≡ n

quiet : (from : Point) (turn : TurnMade) (answer : Answer) (n c : ℕ) → Answers from turn answer → get_or (answer_line answer) 0 0 ≡ c → (c ≡ 111 → ⊥) → Contains turn.answer (answer_line (Done n)) → HasOk turn n
quiet from turn answer n c a first other h = absurd (one_no_ok n (answer_line answer) c first other (subst (λ (ls : List (List ℕ)). Contains ls (answer_line (Done n))) a.answer_is h))

turn_ok : (routes : List (List PlannedVisit)) (settings : Settings) (from : Point) (turn : TurnMade) (n : ℕ) → IsTurn (graph_of routes) routes settings from turn → n < 2 ^ 64 → turn.after.state.count < 2 ^ 64 → Contains turn.answer (answer_line (Done n)) → HasOk turn n
turn_ok routes settings from turn n (malformed none a) small counted h = quiet from turn (Refused Line) n 114 a refl (λ e. absurd (omega (arith, e))) h
turn_ok routes settings from turn n (known report is j a) small counted h = quiet from turn Known n 107 a refl (λ e. absurd (omega (arith, e))) h
turn_ok routes settings from turn n (refused report why is j a) small counted h = quiet from turn (Refused why) n 114 a refl (λ e. absurd (omega (arith, e))) h
turn_ok routes settings from turn n (full report is j many a) small counted h = quiet from turn (Refused Full) n 114 a refl (λ e. absurd (omega (arith, e))) h
turn_ok routes settings from turn n (entered report is room e) small counted h =
    behind (Contains-append_cases e.told (entry_lines routes e.entry.releases turn.after.state) (answer_line (Done n)) (subst (λ (ls : List (List ℕ)). Contains ls (answer_line (Done n))) e.answer_is h))
  where
    go : Contains (release_lines routes e.entry.releases) (answer_line (Done n)) ⊎ Contains (answer_line (Done turn.after.state.count) ∷ []) (answer_line (Done n)) → HasOk turn n
    go (inl k) = absurd (releases_no_ok routes e.entry.releases n k)
    go (inr k) = record { entry = _; entry_is = e.entry_is; number = ok_count turn.after.state.count n counted small (in_one (answer_line (Done turn.after.state.count)) (answer_line (Done n)) k) }

    behind : Contains e.told (answer_line (Done n)) ⊎ Contains (entry_lines routes e.entry.releases turn.after.state) (answer_line (Done n)) → HasOk turn n
    behind (inl k) = absurd (choice_is_no_ok (answer_line (Done n)) (chosen_are (graph_of routes) settings from.state report e.entry.switched e.told e.chooses (answer_line (Done n)) k) n refl)
    behind (inr k) = go (Contains-append_cases (release_lines routes e.entry.releases) (answer_line (Done turn.after.state.count) ∷ []) (answer_line (Done n)) k)

-- an ok line among the answers of some turns
pub record OkAmong (from : Point) (turns : List TurnMade) (k n : ℕ) : Type 0 where
  pub turn : TurnMade
  pub made : Contains turns turn
  pub ok : HasOk turn n
  pub counted : n ≤ (state_after from (take k turns)).count

turns_ok : (routes : List (List PlannedVisit)) (settings : Settings) (from : Point) (turns : List TurnMade) (k n : ℕ) → IsFleetState (graph_of routes) from.state → AreTurns (graph_of routes) routes settings from turns → n < 2 ^ 64
    → Contains (answers_of (take k turns)) (answer_line (Done n)) → OkAmong from turns k n
turns_ok routes settings from turns zero n s follow small h = absurd (in_none (answer_line (Done n)) h)
turns_ok routes settings from [] (suc k) n s follow small h = absurd (in_none (answer_line (Done n)) h)
turns_ok routes settings from (turn ∷ turns) (suc k) n s follow small h =
    let s' = turn_keeps (graph_of routes) routes settings from turn s follow.0 in
    go (λ h. turn_ok routes settings from turn n follow.0 small (omega (arith, s'.count)) h) (λ h. turns_ok routes settings turn.after turns k n s' follow.1 small h) (turns_count routes settings turn.after turns k follow.1)
    (Contains-append_cases turn.answer (answers_of (take k turns)) (answer_line (Done n)) h)
  where
    go : (Contains turn.answer (answer_line (Done n)) → HasOk turn n) → (Contains (answers_of (take k turns)) (answer_line (Done n)) → OkAmong turn.after turns k n)
        → (state_after turn.after (take k turns)).count ≡ turn.after.state.count + length (entries_of (take k turns))
        → Contains turn.answer (answer_line (Done n)) ⊎ Contains (answers_of (take k turns)) (answer_line (Done n)) → OkAmong from (turn ∷ turns) (suc k) n
    go first rest count (inl a) = let ok = first a in record { turn = turn; made = head_in turn turns; ok = ok; counted = omega (arith, count, ok.number) }
    go first rest count (inr b) = let ok = rest b in record { turn = ok.turn; made = tail_in turn turns ok.turn ok.made; ok = ok.ok; counted = ok.counted }

-- the states after the turns of a session keep the rules
turn_state : (routes : List (List PlannedVisit)) (settings : Settings) (from : Point) (turns : List TurnMade) → IsFleetState (graph_of routes) from.state → AreTurns (graph_of routes) routes settings from turns
    → (turn : TurnMade) → Contains turns turn → IsFleetState (graph_of routes) turn.after.state
turn_state routes settings from [] s follow turn h = absurd (in_none turn h)
turn_state routes settings from (first ∷ turns) s follow turn h =
    let s' = turn_keeps (graph_of routes) routes settings from first s follow.0 in
    go s' (λ k. turn_state routes settings first.after turns s' follow.1 turn k) (in_cons first turns turn h)
  where
    go : IsFleetState (graph_of routes) first.after.state → (Contains turns turn → IsFleetState (graph_of routes) turn.after.state) → (first ≡ turn) ⊎ Contains turns turn → IsFleetState (graph_of routes) turn.after.state
    go s' rest (inl e) = subst (λ (t : TurnMade). IsFleetState (graph_of routes) t.after.state) e s'
    go s' rest (inr k) = rest k

-- ---- what a mark holds

-- an ok line that was sent is among the answers
ok_sent : (routes : List (List PlannedVisit)) (s : SessionMade) → AreTurns (graph_of routes) routes s.settings s.start s.turns → (made : ℕ) (ending : List (List ℕ)) → IsEnding ending
    → (sent : List ℕ) → IsPrefix sent (text_of_lines (lines_at routes s made ending)) → (n : ℕ) → Contains (whole_lines sent) (answer_line (Done n)) → Contains (answers_of (take made s.turns)) (answer_line (Done n))
ok_sent routes s follow made ending is sent (rest, front) n h =
    let lines = lines_at routes s made ending in
    outer (Contains-append_cases (greeting_of routes s.start.state) (answers_of (take made s.turns) ++ ending) (answer_line (Done n)) (whole_lines_sent lines (all_of 14 lines (lines_plain routes s follow made ending is)) sent rest front (answer_line (Done n)) h))
  where
    inner : Contains (answers_of (take made s.turns)) (answer_line (Done n)) ⊎ Contains ending (answer_line (Done n)) → Contains (answers_of (take made s.turns)) (answer_line (Done n))
    inner (inl k) = k
    inner (inr k) = absurd (ending_no_ok ending is n k)

    outer : Contains (greeting_of routes s.start.state) (answer_line (Done n)) ⊎ Contains (answers_of (take made s.turns) ++ ending) (answer_line (Done n)) → Contains (answers_of (take made s.turns)) (answer_line (Done n))
    outer (inl k) = absurd (greeting_no_ok routes s.start.state n k)
    outer (inr k) = inner (Contains-append_cases (answers_of (take made s.turns)) ending (answer_line (Done n)) k)

early_no_ok : (ending : List (List ℕ)) → IsEnding ending → (sent : List ℕ) → IsPrefix sent (text_of_lines ending) → (n : ℕ) → Contains (whole_lines sent) (answer_line (Done n)) → ⊥
early_no_ok ending is sent (rest, front) n h = ending_no_ok ending is n (whole_lines_sent ending (all_of 14 ending (ending_plain ending is)) sent rest front (answer_line (Done n)) h)

-- the entries of a state are as many as it counts, and hold every one that was answered
pub record HoldsAll (life : List SessionMade) (x : FleetState) (held : List Accepted) : Type 0 where
  pub counted : x.count ≡ length held
  pub answered : (n : ℕ) (accepted : Accepted) → IsEverAnswered life n accepted → HoldsAs held n accepted

holds_more : (held more : List Accepted) (n : ℕ) (accepted : Accepted) → HoldsAs held n accepted → HoldsAs (held ++ more) n accepted
holds_more held more n accepted (k, is, at) =
    let lt = slice_get_within held k accepted at in
    (k, is, slice_get-get_or (held ++ more) k accepted (omega (arith, lt, length-append held more)) ∙ ap Some (get_or_append_left held more accepted k lt ∙ get_or_from_slice_get held k accepted accepted at))

holds_behind : (held more : List Accepted) (k : ℕ) (accepted : Accepted) → slice_get more k ≡ Some accepted → slice_get (held ++ more) (length held + k) ≡ Some accepted
holds_behind held more k accepted at =
    let lt = slice_get_within more k accepted at in
    slice_get-get_or (held ++ more) (length held + k) accepted (omega (arith, lt, length-append held more)) ∙ ap Some (get_or-append-add held more k accepted ∙ get_or_from_slice_get more k accepted accepted at)

-- the answered accepted of this session is among those of its turns up to a mark
answered_here : (routes : List (List PlannedVisit)) (s : SessionMade) → IsFleetState (graph_of routes) s.start.state → AreTurns (graph_of routes) routes s.settings s.start s.turns → s.start.state.count ≡ length s.held
    → (made : ℕ) (ending : List (List ℕ)) → IsEnding ending → IsPrefix (sent_of s) (text_of_lines (lines_at routes s made ending)) → (n : ℕ) (accepted : Accepted) → IsAnswered s n accepted → HoldsAs (s.held ++ entries_of (take made s.turns)) n accepted
answered_here routes s state follow counted made ending is front n accepted a =
    let small : n < 2 ^ 64 = omega (arith, a.number, (turn_state routes s.settings s.start s.turns state follow a.turn a.made).count) in
    let among = turns_ok routes s.settings s.start s.turns made n state follow small (ok_sent routes s follow made ending is (sent_of s) front n a.sent) in
    let stands = turn_stands routes s.settings s.start s.turns follow a.turn a.made a.entry a.entry_is in
    let count = turns_count routes s.settings s.start s.turns made follow in
    let lt : stands.0 < length (entries_of (take made s.turns)) = omega (arith, stands.1, a.number, among.counted, count) in
    let whole : slice_get (entries_of (take made s.turns) ++ entries_of (drop made s.turns)) stands.0 ≡ Some (as_kept a.entry) = ap (λ (rs : List Accepted). slice_get rs stands.0) (entries_split s.turns made) ∙ stands.2 in
    let at : slice_get (entries_of (take made s.turns)) stands.0 ≡ Some accepted = front_get (entries_of (take made s.turns)) (entries_of (drop made s.turns)) stands.0 (as_kept a.entry) lt whole ∙ ap Some a.accepted_is in
    (length s.held + stands.0, omega (arith, stands.1, a.number, counted), holds_behind s.held (entries_of (take made s.turns)) stands.0 accepted at)

pub begins_with_all : (routes : List (List PlannedVisit)) → AreRoutes routes → (life : List SessionMade) → IsLife routes life → (x : FleetState) (held : List Accepted) → MayBegin routes life x held → HoldsAll life x held
begins_with_all routes r [] life x held begins = record { counted = omega (arith, ap (λ (y : FleetState). y.count) begins.0.1.others, ap length begins.1); answered = λ n accepted a. absurd (in_none a.0 a.1) }
begins_with_all routes r (s ∷ earlier) life x held begins = by_mark begins (λ y rs b. begins_with_all routes r earlier life.1 y rs b) (begin_good routes r earlier life.1 s.start.state s.held life.0.begins).state
  where
    by_mark : IsMarkOf routes (MayBegin routes earlier) s (record { state = x; sent = sent_of s }) held → ((y : FleetState) (rs : List Accepted) → MayBegin routes earlier y rs → HoldsAll earlier y rs) → IsFleetState (graph_of routes) s.start.state → HoldsAll (s ∷ earlier) x held
    by_mark (early ending at is front) before state =
        let b = before x held at in
        let here : (n : ℕ) (accepted : Accepted) → IsAnswered s n accepted → HoldsAs held n accepted = λ n accepted a. absurd (early_no_ok ending is (sent_of s) front n a.sent) in
        record { counted = b.counted; answered = λ n accepted a. either n accepted a here b.answered }
      where
        either : (n : ℕ) (accepted : Accepted) → IsEverAnswered (s ∷ earlier) n accepted → ((n : ℕ) (accepted : Accepted) → IsAnswered s n accepted → HoldsAs held n accepted) → ((n : ℕ) (accepted : Accepted) → IsEverAnswered earlier n accepted → HoldsAs held n accepted) → HoldsAs held n accepted
        either n accepted (t, h, a) here there = pick (in_cons s earlier t h)
          where
            pick : (s ≡ t) ⊎ Contains earlier t → HoldsAs held n accepted
            pick (inl e) = here n accepted (subst (λ (u : SessionMade). IsAnswered u n accepted) (sym e) a)
            pick (inr k) = there n accepted (t, k, a)
    by_mark (kept made ending is last at front entries) before state =
        let b = before s.start.state s.held life.0.begins in
        let all = s.held ++ entries_of (take made s.turns) in
        let count = turns_count routes s.settings s.start s.turns made life.0.turns in
        let here : (n : ℕ) (accepted : Accepted) → IsAnswered s n accepted → HoldsAs all n accepted = answered_here routes s state life.0.turns b.counted made ending is front in
        let there : (n : ℕ) (accepted : Accepted) → IsEverAnswered earlier n accepted → HoldsAs all n accepted = λ n accepted a. holds_more s.held (entries_of (take made s.turns)) n accepted (b.answered n accepted a) in
        record {
          counted = omega (arith, ap (λ (y : FleetState). y.count) at, count, b.counted, ap length entries, length-append s.held (entries_of (take made s.turns)));
          answered = λ n accepted a. subst (λ (rs : List Accepted). HoldsAs rs n accepted) (sym entries) (either n accepted a here there);
        }
      where
        either : (n : ℕ) (accepted : Accepted) → IsEverAnswered (s ∷ earlier) n accepted → ((n : ℕ) (accepted : Accepted) → IsAnswered s n accepted → HoldsAs (s.held ++ entries_of (take made s.turns)) n accepted)
            → ((n : ℕ) (accepted : Accepted) → IsEverAnswered earlier n accepted → HoldsAs (s.held ++ entries_of (take made s.turns)) n accepted) → HoldsAs (s.held ++ entries_of (take made s.turns)) n accepted
        either n accepted (t, h, a) here there = pick (in_cons s earlier t h)
          where
            pick : (s ≡ t) ⊎ Contains earlier t → HoldsAs (s.held ++ entries_of (take made s.turns)) n accepted
            pick (inl e) = here n accepted (subst (λ (u : SessionMade). IsAnswered u n accepted) (sym e) a)
            pick (inr k) = there n accepted (t, k, a)

-- ---- every ok line is that of an entry

-- what was sent at the last mark was sent at some mark
last_mark : (routes : List (List PlannedVisit)) (may_begin : FleetState → List Accepted → Type 0) (s : SessionMade) (mark : Mark) (held : List Accepted) (es : List Event) → IsMarkOf routes may_begin s mark held → AreMarksOf routes may_begin s mark.sent es
    → (last : Mark) × (its : List Accepted) × IsMarkOf routes may_begin s last its × (last.sent ≡ last_sent mark.sent es)
last_mark routes may_begin s mark held [] is marks = (mark, held, is, refl)
last_mark routes may_begin s mark held (Marked next ∷ es) is marks = last_mark routes may_begin s next marks.0.0 es marks.0.1 marks.2
last_mark routes may_begin s mark held (Begun i ∷ es) is marks = last_mark routes may_begin s mark held es is marks
last_mark routes may_begin s mark held (Ended i ∷ es) is marks = last_mark routes may_begin s mark held es is marks

pub ok_is_answer : (routes : List (List PlannedVisit)) → AreRoutes routes → (s : SessionMade) (earlier : List SessionMade) → IsLife routes (s ∷ earlier) → (n : ℕ) → n < 2 ^ 64 → Contains (whole_lines (sent_of s)) (answer_line (Done n)) → (accepted : Accepted) × IsAnswered s n accepted
ok_is_answer routes r s earlier life n small h =
    let m = last_mark routes (MayBegin routes earlier) s (first_mark s) life.0.opens.0 s.events life.0.opens.1 life.0.marks in
    by_mark m.0 m.1 m.2 m.3 (begin_good routes r earlier life.1 s.start.state s.held life.0.begins).state
  where
    by_mark : (mark : Mark) (held : List Accepted) → IsMarkOf routes (MayBegin routes earlier) s mark held → mark.sent ≡ sent_of s → IsFleetState (graph_of routes) s.start.state → (accepted : Accepted) × IsAnswered s n accepted
    by_mark mark held (early ending at is front) e state = absurd (early_no_ok ending is mark.sent front n (subst (λ (sent : List ℕ). Contains (whole_lines sent) (answer_line (Done n))) (sym e) h))
    by_mark mark held (kept made ending is last at front entries) e state =
        let line = ok_sent routes s life.0.turns made ending is mark.sent front n (subst (λ (sent : List ℕ). Contains (whole_lines sent) (answer_line (Done n))) (sym e) h) in
        let ok = turns_ok routes s.settings s.start s.turns made n state life.0.turns small line in
        (as_kept ok.ok.entry, record { turn = ok.turn; made = ok.made; entry = ok.ok.entry; entry_is = ok.ok.entry_is; accepted_is = refl; number = ok.ok.number; sent = h })

-- ---- where a session begins

pub begins_where : (routes : List (List PlannedVisit)) (before : SessionMade) (earlier : List SessionMade) (x : FleetState) (held : List Accepted) → MayBegin routes (before ∷ earlier) x held → IsStateOf before x held ⊎ MayBegin routes earlier x held
begins_where routes before earlier x held (early ending at is front) = inr at
begins_where routes before earlier x held (kept made ending is last at front entries) = inl (record { made = made; state = at; entries = entries })
