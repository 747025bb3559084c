-- A session among moving robots.
use Rattle.std.specs.Prelude.{ℕ, ◌≡◌, ◌≤◌, List, [], ◌∷◌, ◌++◌, length, take}
use Rattle.fleet_base.specs.declared.geometry.PlannedVisit.{PlannedVisit}
use Rattle.fleet_base.specs.State.{FleetState}
use Rattle.fleet_base.specs.Bytes.{IsPrefix, text_of_lines}
use Rattle.fleet_base.specs.World.{Mark, World, Event, Marked, Begun, Ended, at_start, place_of}
use Rattle.fleet_serve.specs.Lines.{greeting_of}
use Rattle.fleet_serve.specs.Turns.{Point, TurnMade, state_after, answers_of}

-- A mark of a session: the state after some turns, and a front of the greeting and of their answers sent. So a release counts
-- once its whole line stands in what was sent, and not before.
pub record IsSessionMark (routes : List (List PlannedVisit)) (from : Point) (turns : List TurnMade) (made : ℕ) (mark : Mark) : Type 0 where
  pub state : mark.state ≡ state_after from (take made turns)
  pub sent : IsPrefix mark.sent (text_of_lines (greeting_of routes from.state ++ answers_of (take made turns)))

-- the marks among these events are those of the session, one after another
abbrev pub AreSessionMarks : List (List PlannedVisit) → Point → List TurnMade → ℕ → List Event → Type 0
AreSessionMarks routes from turns j [] = Unit {0}
AreSessionMarks routes from turns j (Marked mark ∷ es) = (k : ℕ) × (j ≤ k) × IsSessionMark routes from turns k mark × AreSessionMarks routes from turns k es
AreSessionMarks routes from turns j (Begun i ∷ es) = AreSessionMarks routes from turns j es
AreSessionMarks routes from turns j (Ended i ∷ es) = AreSessionMarks routes from turns j es

-- each robot stands at its visit 0, and nothing was sent yet
pub record IsStart (routes : List (List PlannedVisit)) (x : FleetState) (w : World) : Type 0 where
  pub mark : w.mark ≡ record { state = x; sent = [] }
  pub places : length w.places ≡ length routes
  pub stand : (i : ℕ) → place_of w i ≡ at_start
