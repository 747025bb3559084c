-- Lives: sessions one after another on one journal, each ended or stopped at any moment, and the robots beside them.
use Rattle.std.specs.Prelude.{ℕ, ◌≡◌, ◌⊎◌, ◌+◌, ◌≤◌, List, [], ◌∷◌, ◌++◌, map, flat_map, length, take, codes, Option, Some, None, Contains, slice_get}
use Rattle.std.specs.List.{AllByRecursion}
use Rattle.fleet_base.specs.declared.geometry.PlannedVisit.{PlannedVisit}
use Rattle.fleet_base.specs.declared.geometry.Visit.{Visit}
use Rattle.fleet_base.specs.Order.{Graph, graph_of}
use Rattle.fleet_base.specs.State.{FleetState, IsWindow}
use Rattle.fleet_base.specs.Release.{IsFirstStateAhead}
use Rattle.fleet_base.specs.Bytes.{IsPrefix, whole_lines, text_of_lines}
use Rattle.fleet_base.specs.World.{Mark, World, Event, Marked, Begun, Ended, at_start, place_of, AlwaysTrue, Run}
use Rattle.report_text.specs.declared.answer.Answer.TheVariants.{Done}
use Rattle.report_text.specs.AnswerLine.{answer_line}
use Rattle.fleet_core.specs.declared.entry.Entry.{Entry}
use Rattle.fleet_core.specs.Step.{Step}
use Rattle.journal_frame.specs.Entries.{Accepted}
use Rattle.fleet_serve.specs.declared.session.Settings.{Settings}
use Rattle.fleet_serve.specs.Lines.{greeting_of}
use Rattle.fleet_serve.specs.Turns.{Point, TurnMade, AreTurns, state_after, answers_of}

-- ---- sessions one after another

-- a line that begins with `fault`, and has no control bytes
pub record IsFaultLine (line : List ℕ) : Type 0 where
  pub rest : List ℕ
  pub line_is : line ≡ codes "fault " ++ rest
  pub plain : AllByRecursion (λ c. 32 ≤ c) rest

-- at most one fault line
abbrev pub IsEnding : List (List ℕ) → Type 0
IsEnding lines = (lines ≡ []) ⊎ ((line : List ℕ) × IsFaultLine line × (lines ≡ line ∷ []))

-- an entry as a journal keeps it: the report, and the pairs that are switched for it
abbrev pub as_kept : Entry → Accepted
as_kept entry = record { report = entry.report; switched = entry.switched }

-- the entry of a turn, if there is one
abbrev pub entry_of : Option Entry → List Accepted
entry_of None = []
entry_of (Some entry) = as_kept entry ∷ []

-- the entries that turns made
abbrev pub entries_of : List TurnMade → List Accepted
entries_of turns = flat_map (λ turn. entry_of turn.entry) turns

-- One session of a life: its settings, the entries that its first state holds, where it stands when it opens, its turns, the state
-- for which the sides stand as the call begins, and what happens then: marks of the session, and moves of robots.
pub record SessionMade : Type 0 where
  pub settings : Settings
  pub held : List Accepted
  pub start : Point
  pub turns : List TurnMade
  pub first : FleetState
  pub events : List Event

-- A mark that a session may have, and the entries that its state then holds. Early, the sides are some that the session may have
-- begun with, and of what it sends only a fault line can be there. Kept, the sides stand for the state after some turns, with a
-- front of the greeting and these turns' answers sent, and a fault line only behind all turns.
pub data IsMarkOf (routes : List (List PlannedVisit)) (MayBegin : FleetState → List Accepted → Type 0) (s : SessionMade) (mark : Mark) (held : List Accepted) : Type 0 where
  early : (ending : List (List ℕ)) → MayBegin mark.state held → IsEnding ending → IsPrefix mark.sent (text_of_lines ending) → IsMarkOf routes MayBegin s mark held
  kept : (made : ℕ) (ending : List (List ℕ)) → IsEnding ending → (ending ≡ []) ⊎ (length s.turns ≤ made) → mark.state ≡ state_after s.start (take made s.turns)
      → IsPrefix mark.sent (text_of_lines (greeting_of routes s.start.state ++ (answers_of (take made s.turns) ++ ending))) → held ≡ s.held ++ entries_of (take made s.turns) → IsMarkOf routes MayBegin s mark held

-- what has been sent at the last mark
abbrev pub last_sent : List ℕ → List Event → List ℕ
last_sent sent [] = sent
last_sent sent (Marked mark ∷ es) = last_sent mark.sent es
last_sent sent (Begun i ∷ es) = last_sent sent es
last_sent sent (Ended i ∷ es) = last_sent sent es

-- what a session has sent
abbrev pub sent_of : SessionMade → List ℕ
sent_of s = last_sent [] s.events

-- the state in which a life begins: the plan's first one for its window
abbrev pub IsFirst : List (List PlannedVisit) → FleetState → Type 0
IsFirst routes x = IsWindow x.window × IsFirstStateAhead (graph_of routes) x.window x

-- After these sessions, the last one first, a session may begin with sides that stand for this state, which then holds these
-- entries: the first state if there was none, and else a state that the session before allows at what it has sent.
abbrev pub MayBegin : List (List PlannedVisit) → List SessionMade → FleetState → List Accepted → Type 0
MayBegin routes [] x held = IsFirst routes x × (held ≡ [])
MayBegin routes (s ∷ earlier) x held = IsMarkOf routes (MayBegin routes earlier) s (record { state = x; sent = sent_of s }) held

-- the marks among these events are those of the session, and what is sent stays sent
abbrev pub AreMarksOf : List (List PlannedVisit) → (FleetState → List Accepted → Type 0) → SessionMade → List ℕ → List Event → Type 0
AreMarksOf routes may_begin s sent [] = Unit {0}
AreMarksOf routes may_begin s sent (Marked mark ∷ es) = ((held : List Accepted) × IsMarkOf routes may_begin s mark held) × IsPrefix sent mark.sent × AreMarksOf routes may_begin s mark.sent es
AreMarksOf routes may_begin s sent (Begun i ∷ es) = AreMarksOf routes may_begin s sent es
AreMarksOf routes may_begin s sent (Ended i ∷ es) = AreMarksOf routes may_begin s sent es

-- the first mark of a session, when it has sent nothing
abbrev pub first_mark : SessionMade → Mark
first_mark s = record { state = s.first; sent = [] }

-- a session after these
pub record IsNextSession (routes : List (List PlannedVisit)) (earlier : List SessionMade) (s : SessionMade) : Type 0 where
  pub begins : MayBegin routes earlier s.start.state s.held
  pub turns : AreTurns (graph_of routes) routes s.settings s.start s.turns
  pub opens : (held : List Accepted) × IsMarkOf routes (MayBegin routes earlier) s (first_mark s) held
  pub marks : AreMarksOf routes (MayBegin routes earlier) s [] s.events

-- A life: sessions one after another, the last one first. It may end at any event.
abbrev pub IsLife : List (List PlannedVisit) → List SessionMade → Type 0
IsLife routes [] = Unit {0}
IsLife routes (s ∷ earlier) = IsNextSession routes earlier s × IsLife routes earlier

-- what each session has sent, as a text of its own: a torn line at its end is not joined to the next session's bytes
abbrev pub texts_of : List SessionMade → List (List ℕ)
texts_of life = map sent_of life

-- ---- the robots beside a life

-- each robot stands at its visit 0
pub record AllAtStart (routes : List (List PlannedVisit)) (w : World) : Type 0 where
  pub places : length w.places ≡ length routes
  pub stand : (i : ℕ) → place_of w i ≡ at_start

-- the world as a session begins
abbrev pub opened : SessionMade → World → World
opened s w = record w { mark = first_mark s }

-- a world beside a life, whose reports are true at each point
abbrev pub IsBeside : List (List PlannedVisit) → List SessionMade → World → Type 0
IsBeside routes [] w = AllAtStart routes w
IsBeside routes (s ∷ earlier) w' = (w : World) × IsBeside routes earlier w × AlwaysTrue (opened s w) s.events × Run routes (texts_of earlier) (opened s w) s.events w'

-- a text that tells no robot to move: none of its whole lines begins with `release`
abbrev pub ReleasesNone : List ℕ → Type 0
ReleasesNone sent = (line : List ℕ) → Contains (whole_lines sent) line → ¬ (take 7 line ≡ codes "release")

-- these texts are among those, but for texts that tell no robot to move
abbrev pub AreAmong : List (List ℕ) → List (List ℕ) → Type 0
AreAmong more texts = (sent : List ℕ) → Contains more sent → Contains texts sent ⊎ ReleasesNone sent

-- ---- what is held

-- a session answered an entry by its number: the entry is that of a turn, and the whole line `ok n` stands in what was sent
pub record IsAnswered (s : SessionMade) (n : ℕ) (accepted : Accepted) : Type 0 where
  pub turn : TurnMade
  pub made : Contains s.turns turn
  pub entry : Entry
  pub entry_is : turn.entry ≡ Some entry
  pub accepted_is : as_kept entry ≡ accepted
  pub number : turn.after.state.count ≡ n
  pub sent : Contains (whole_lines (sent_of s)) (answer_line (Done n))

-- one of the sessions answered it
abbrev pub IsEverAnswered : List SessionMade → ℕ → Accepted → Type 0
IsEverAnswered life n accepted = (s : SessionMade) × Contains life s × IsAnswered s n accepted

-- the entries hold this one as their number n
abbrev pub HoldsAs : List Accepted → ℕ → Accepted → Type 0
HoldsAs held n accepted = (k : ℕ) × (n ≡ k + 1) × (slice_get held k ≡ Some accepted)

-- the state is one in which a session stood after some turns, holding the entries up to there
pub record IsStateOf (s : SessionMade) (x : FleetState) (held : List Accepted) : Type 0 where
  pub made : ℕ
  pub state : x ≡ state_after s.start (take made s.turns)
  pub entries : held ≡ s.held ++ entries_of (take made s.turns)

-- steps with these entries, one after another, lead from a state to another
abbrev pub LeadTo : Graph → FleetState → List Accepted → FleetState → Type 0
LeadTo g x [] y = y ≡ x
LeadTo g x (entry ∷ entries) z = (y : FleetState) × ((releases : List Visit) × Step g x entry.report entry.switched releases y) × LeadTo g y entries z

-- the state to which these entries lead from a first state of the plan
abbrev pub IsStateAfter : List (List PlannedVisit) → List Accepted → FleetState → Type 0
IsStateAfter routes entries x = (first : FleetState) × IsFirst routes first × LeadTo (graph_of routes) first entries x
