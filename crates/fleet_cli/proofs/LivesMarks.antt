-- Each mark of a life keeps the rules, and what any session has told is released in it.
use Rattle.std.proofs.Common.{ℕ, ◌≡◌, ◌≤◌, ◌⊎◌, List, [], ◌∷◌, ◌++◌, refl, sym, ap, ◌∙◌, subst, inl, inr, arith, get_or, take, append_assoc}
use Rattle.std.specs.Prelude.{Contains, codes}
use Rattle.std.specs.List.{AllByRecursion}
use Rattle.fleet_base.specs.declared.geometry.Visit.{Visit}
use Rattle.fleet_base.specs.declared.geometry.PlannedVisit.{PlannedVisit}
use Rattle.fleet_base.specs.Plan.{AreRoutes, IsOnRoute}
use Rattle.fleet_base.specs.Order.{graph_of}
use Rattle.fleet_base.specs.State.{FleetState, IsReleased, released_count}
use Rattle.fleet_base.specs.Rules.{IsFleetState}
use Rattle.fleet_base.specs.Bytes.{IsPrefix, text_of_lines}
use Rattle.fleet_base.specs.World.{Mark, IsTold, IsEverTold, release_text}
use Rattle.fleet_base.proofs.Members.{in_none, in_one, in_cons}
use Rattle.fleet_base.proofs.FirstState.{first_state_ahead_keeps}
use Rattle.fleet_base.proofs.LineLaws.{AtLeast, AtLeast-append, AtLeast-less, AtLeast_by, all_of, whole_lines_sent}
use Rattle.journal_frame.specs.Entries.{Accepted}
use Rattle.fleet_serve.specs.Lines.{greeting_of}
use Rattle.fleet_serve.specs.Turns.{AreTurns, state_after, answers_of}
use Rattle.fleet_cli.specs.Lives.{IsFaultLine, IsEnding, SessionMade, IsMarkOf, early, kept, sent_of, MayBegin, IsLife, texts_of}
use Rattle.fleet_serve.proofs.TurnLaws.{turns_keep, turns-take}
use Rattle.fleet_serve.proofs.Releases.{ReleasesNothing, TellReleased, tell_none, tell_nothing, tell_both, greeting_tells, turns_tell, turns_grow}
use Rattle.fleet_serve.proofs.SessionWorld.{Plain, plain_both, plain_greeting, plain_turns}

-- ---- fault lines

at_least : (m : ℕ) (cs : List ℕ) → AllByRecursion (λ c. m ≤ c) cs → AtLeast m cs
at_least m [] a = tt
at_least m (c ∷ cs) a = (a.0, at_least m cs a.1)

plain_fault : (l : List ℕ) → IsFaultLine l → AtLeast 14 l
plain_fault l f = subst (AtLeast 14) (sym f.line_is) (AtLeast-append 14 (codes "fault ") f.rest (AtLeast_by 14 (codes "fault ") refl) (AtLeast-less 14 32 f.rest (omega arith) (at_least 32 f.rest f.plain)))

fault_nothing : (l : List ℕ) → IsFaultLine l → ReleasesNothing l
fault_nothing l f u c e = absurd (omega (arith, ap (λ (k : List ℕ). get_or k 0 0) (sym f.line_is ∙ e)))

pub ending_plain : (ending : List (List ℕ)) → IsEnding ending → Plain ending
ending_plain ending (inl e) = subst Plain (sym e) (λ l h. absurd (in_none l h))
ending_plain ending (inr f) = subst Plain (sym f.2) (λ l h. subst (AtLeast 14) (in_one f.0 l h) (plain_fault f.0 f.1))

ending_tells : (routes : List (List PlannedVisit)) (x : FleetState) (ending : List (List ℕ)) → IsEnding ending → TellReleased routes x ending
ending_tells routes x ending (inl e) = subst (TellReleased routes x) (sym e) (tell_none routes x)
ending_tells routes x ending (inr f) = subst (TellReleased routes x) (sym f.2) (tell_nothing routes x f.0 (fault_nothing f.0 f.1))

-- ---- what was told is released

-- what any of these texts has told is released in the state
abbrev pub IsToldWell : List (List PlannedVisit) → List (List ℕ) → FleetState → Type 0
IsToldWell routes texts x = (v : Visit) → IsOnRoute routes v → IsEverTold texts v → IsReleased x v

-- the state keeps the rules, and what was told is released in it
pub record IsGood (routes : List (List PlannedVisit)) (texts : List (List ℕ)) (x : FleetState) : Type 0 where
  pub state : IsFleetState (graph_of routes) x
  pub told : IsToldWell routes texts x

-- one more text that tells what is released
told_more : (routes : List (List PlannedVisit)) (texts : List (List ℕ)) (sent : List ℕ) (x : FleetState) → IsToldWell routes texts x → ((v : Visit) → IsOnRoute routes v → IsTold sent v → IsReleased x v) → IsToldWell routes (sent ∷ texts) x
told_more routes texts sent x told now v on (t, h, line) = go (in_cons sent texts t h)
  where
    go : (sent ≡ t) ⊎ Contains texts t → IsReleased x v
    go (inl e) = now v on (subst (λ (s : List ℕ). IsTold s v) (sym e) line)
    go (inr k) = told v on (t, k, line)

-- what is released stays so
told_later : (routes : List (List PlannedVisit)) (texts : List (List ℕ)) (x x' : FleetState) → ((i : ℕ) → released_count x i ≤ released_count x' i) → IsToldWell routes texts x → IsToldWell routes texts x'
told_later routes texts x x' grows told v on h = omega (arith, told v on h, grows v.robot)

-- a front of plain lines that tell what is released tells what is released
front_told : (routes : List (List PlannedVisit)) (x : FleetState) (lines : List (List ℕ)) (sent : List ℕ) → TellReleased routes x lines → Plain lines → IsPrefix sent (text_of_lines lines) → (v : Visit) → IsOnRoute routes v → IsTold sent v → IsReleased x v
front_told routes x lines sent tells plain front v on told = tells (release_text v told.0) (whole_lines_sent lines (all_of 14 lines plain) sent front.0 front.1 (release_text v told.0) told.1) v told.0 on refl

-- ---- marks

-- the lines of a kept mark
abbrev pub lines_at : List (List PlannedVisit) → SessionMade → ℕ → List (List ℕ) → List (List ℕ)
lines_at routes s made ending = greeting_of routes s.start.state ++ (answers_of (take made s.turns) ++ ending)

module _ (routes : List (List PlannedVisit)) (s : SessionMade) (follow : AreTurns (graph_of routes) routes s.settings s.start s.turns) (made : ℕ) (ending : List (List ℕ)) (is : IsEnding ending) where
  pub lines_plain : Plain (lines_at routes s made ending)
  lines_plain =
      plain_both (greeting_of routes s.start.state) (answers_of (take made s.turns) ++ ending) (plain_greeting routes s.start.state)
      (plain_both (answers_of (take made s.turns)) ending (plain_turns routes s.settings s.start s.turns follow made) (ending_plain ending is))

  lines_tell : AreRoutes routes → IsFleetState (graph_of routes) s.start.state → TellReleased routes (state_after s.start (take made s.turns)) (lines_at routes s made ending)
  lines_tell r state =
      let x = s.start.state in
      let y = state_after s.start (take made s.turns) in
      let told = turns_tell routes r s.settings s.start state (greeting_of routes x) (greeting_tells routes r x state) s.turns follow made in
      subst (TellReleased routes y) (append_assoc (greeting_of routes x) (answers_of (take made s.turns)) ending)
      (tell_both routes y (greeting_of routes x ++ answers_of (take made s.turns)) ending told (ending_tells routes y ending is))

pub mark_good : (routes : List (List PlannedVisit)) → AreRoutes routes → (texts : List (List ℕ)) (may_begin : FleetState → List Accepted → Type 0) → ((x : FleetState) (held : List Accepted) → may_begin x held → IsGood routes texts x)
    → (s : SessionMade) → may_begin s.start.state s.held → AreTurns (graph_of routes) routes s.settings s.start s.turns → (mark : Mark) (held : List Accepted) → IsMarkOf routes may_begin s mark held → IsGood routes (mark.sent ∷ texts) mark.state
mark_good routes r texts may_begin before s begins turns mark held (early ending at is sent) =
    let b = before mark.state held at in
    record { state = b.state; told = told_more routes texts mark.sent mark.state b.told (front_told routes mark.state ending mark.sent (ending_tells routes mark.state ending is) (ending_plain ending is) sent) }
mark_good routes r texts may_begin before s begins turns mark held (kept made ending is last state sent reports) =
    let x = s.start.state in
    let b = before x s.held begins in
    let y = state_after s.start (take made s.turns) in
    let grows : (i : ℕ) → released_count x i ≤ released_count y i = λ i. turns_grow routes r s.settings s.start b.state s.turns turns 0 made i (omega arith) in
    let tells = lines_tell routes s turns made ending is r b.state in
    let plain = lines_plain routes s turns made ending is in
    let told : IsToldWell routes (mark.sent ∷ texts) y = told_more routes texts mark.sent y (told_later routes texts x y grows b.told) (front_told routes y (lines_at routes s made ending) mark.sent tells plain sent) in
    let good : IsFleetState (graph_of routes) y = turns_keep (graph_of routes) routes s.settings s.start (take made s.turns) b.state (turns-take (graph_of routes) routes s.settings s.start s.turns made turns) in
    subst (IsGood routes (mark.sent ∷ texts)) (sym state) (record { state = good; told = told })

-- each state in which a session may begin is good for all that was sent before
pub begin_good : (routes : List (List PlannedVisit)) → AreRoutes routes → (earlier : List SessionMade) → IsLife routes earlier → (x : FleetState) (held : List Accepted) → MayBegin routes earlier x held → IsGood routes (texts_of earlier) x
begin_good routes r [] life x held begins = record { state = first_state_ahead_keeps routes x.window x r begins.0.0 begins.0.1; told = λ v on h. absurd (in_none h.0 h.1) }
begin_good routes r (s ∷ earlier) life x held begins =
    mark_good routes r (texts_of earlier) (MayBegin routes earlier) (begin_good routes r earlier life.1) s life.0.begins life.0.turns (record { state = x; sent = sent_of s }) held begins
