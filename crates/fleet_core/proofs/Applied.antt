-- The state with a report applied and pairs turned, and what its releases lead to.
use Rattle.std.proofs.Common.{ℕ, suc, ◌≡◌, ◌+◌, ◌^◌, ◌<◌, List, [], ◌∷◌, ◌++◌, Some, set, drop, get_or, refl, sym, ap, ◌∙◌, subst, arith, length}
use Rattle.std.specs.Prelude.{All, slice_get}
use Rattle.std.proofs.Math.Seq.{drop-cons}
use Rattle.std.proofs.lemmas.Option.{get_or_from_slice_get}
use Rattle.fleet_base.specs.declared.geometry.Visit.{Visit}
use Rattle.fleet_base.specs.declared.order.PairId.{PairId}
use Rattle.fleet_base.specs.declared.order.Side.{Side}
use Rattle.fleet_base.specs.declared.order.Side.TheVariants.{Lower}
use Rattle.fleet_base.specs.declared.report.Report.{Report}
use Rattle.fleet_base.specs.declared.report.Report.TheVariants.{Arrive, Delay}
use Rattle.fleet_base.specs.Lists.{row_of}
use Rattle.fleet_base.specs.Order.{Graph, IsSoundOrder, order_of, other_side, turned}
use Rattle.fleet_base.specs.State.{FleetState, IsFleetOf}
use Rattle.fleet_base.specs.Release.{Releases}
use Rattle.fleet_base.specs.Rules.{IsFleetState}
use Rattle.fleet_base.proofs.Settling.{IsHeard}
use Rattle.fleet_base.specs.Limits.{report_limit}
use Rattle.fleet_core.specs.declared.judging.Judged.TheVariants.{Accept}
use Rattle.fleet_core.specs.Judgement.{judgement_of}
use Rattle.fleet_core.specs.Step.{Step, IsChoice, OnlyDelaysSwitch, heard_of, tick_of}
use Rattle.fleet_core.specs.Pushing.{pushed, HaveRoom}
use Rattle.fleet_core.proofs.Arriving.{accepted_arrival, heard_keeps as arrival_heard}
use Rattle.fleet_core.proofs.Delaying.{accepted_delay, heard_keeps as delay_heard}
use Rattle.fleet_core.proofs.Pushing.{release_state, release_room}

-- a report changes no side
pub heard_sides : (x : FleetState) (report : Report) → (heard_of x report).sides ≡ x.sides
heard_sides x (Arrive i k tick) = refl
heard_sides x (Delay i k extra tick) = refl

-- its tick is the moment
pub heard_clock : (x : FleetState) (report : Report) → (heard_of x report).clock ≡ tick_of report
heard_clock x (Arrive i k tick) = refl
heard_clock x (Delay i k extra tick) = refl

-- no event changes the window
heard_window : (x : FleetState) (report : Report) → (heard_of x report).window ≡ x.window
heard_window x (Arrive i k tick) = refl
heard_window x (Delay i k extra tick) = refl

pub step_window : (g : Graph) (x : FleetState) (report : Report) (switched : List PairId) (releases : List Visit) (y : FleetState) → Step g x report switched releases y → y.window ≡ x.window
step_window g x report switched releases y step = ap (λ (z : FleetState). z.window) step.state.others ∙ heard_window x report

-- the state with the report applied and the pairs turned
abbrev pub switched_state : FleetState → Report → List PairId → FleetState
switched_state x report switched = record (heard_of x report) { sides = turned x.sides switched }

-- it is ready to be settled
pub switched_heard : (g : Graph) (x : FleetState) (report : Report) (switched : List PairId) → IsFleetState g x → judgement_of x report ≡ Accept → x.count < report_limit → OnlyDelaysSwitch report switched → IsChoice g x report switched → IsHeard g (switched_state x report switched)
switched_heard g x (Arrive i k tick) switched s accepted few none choice =
    subst (λ (qs : List PairId). IsHeard g (switched_state x (Arrive i k tick) qs)) (sym none) (arrival_heard g x i k tick s (accepted_arrival x i k tick accepted) few)
switched_heard g x (Delay i k extra tick) switched s accepted few may choice = delay_heard g x i k extra tick switched s (accepted_delay x i k extra tick accepted) few choice

-- where no pair is turned nothing is asked
pub may_switch_none : (report : Report) → OnlyDelaysSwitch report []
may_switch_none (Arrive i k tick) = refl
may_switch_none (Delay i k extra tick) = tt

-- and the state with the report applied is that of a fleet with the plan
pub heard_fleet : (g : Graph) (x : FleetState) (report : Report) → IsFleetState g x → judgement_of x report ≡ Accept → x.count < report_limit → IsFleetOf g (heard_of x report)
heard_fleet g x report s accepted few =
    subst (λ (sides : List Side). IsFleetOf g (record (heard_of x report) { sides = sides })) (sym (heard_sides x report))
    (switched_heard g x report [] s accepted few (may_switch_none report) (record { are_open = λ k d h. absurd (omega (arith, h)); sound = s.order })).fleet

pub heard_sound : (g : Graph) (x : FleetState) (report : Report) → IsFleetState g x → IsSoundOrder g (order_of (heard_of x report).sides)
heard_sound g x report s = subst (λ (sides : List Side). IsSoundOrder g (order_of sides)) (sym (heard_sides x report)) s.order

-- the pairs are there in each state with as many sides
pub there_after : (g : Graph) (x y : FleetState) (switched : List PairId) → IsFleetOf g x → y.sides ≡ x.sides → All (λ q. q.0 < length g.pairs) switched → All (λ q. q.0 < length y.sides) switched
there_after g x y switched fleet same there k d h = omega (arith, there k d h, fleet.sides, ap (λ (sides : List Side). length sides) same)

-- turning the pairs after the report
pub turned_state : (x y : FleetState) (report : Report) (switched : List PairId) → y ≡ heard_of x report → record y { sides = turned y.sides switched } ≡ switched_state x report switched
turned_state x y report switched e =
    ap (λ (z : FleetState). record z { sides = turned z.sides switched }) e
    ∙ ap (λ (sides : List Side). record (heard_of x report) { sides = turned sides switched }) (heard_sides x report)

module _ (g : Graph) (x : FleetState) (report : Report) (switched : List PairId) (releases : List Visit) (x' : FleetState) (s : IsFleetState g x) (step : Step g x report switched releases x') where
  fleet : IsFleetOf g (switched_state x report switched)
  fleet = (switched_heard g x report switched s step.proposal.accepted step.proposal.count step.proposal.switches step.choice).fleet

  at_moment : Releases g (switched_state x report switched).clock (switched_state x report switched) x'
  at_moment = subst (λ (t : ℕ). Releases g t (switched_state x report switched) x') (sym (heard_clock x report)) step.state

  -- the entry's releases can be made one by one, and lead to the step's state
  pub room_after : (y : FleetState) → y ≡ switched_state x report switched → HaveRoom y.lasts y.releases releases y.clock
  room_after y e =
      subst (λ (z : FleetState). HaveRoom z.lasts z.releases releases z.clock) (sym e)
      (subst (λ (vs : List Visit). HaveRoom (switched_state x report switched).lasts (switched_state x report switched).releases vs (switched_state x report switched).clock) (sym step.releases_are)
      (release_room g (switched_state x report switched) x' (switched_state x report switched).clock fleet at_moment))

  pub step_after : (y : FleetState) → y ≡ switched_state x report switched → record y { releases = pushed y.releases releases y.clock } ≡ x'
  step_after y e =
      ap (λ (z : FleetState). record z { releases = pushed z.releases releases z.clock }) e
      ∙ ap (λ (vs : List Visit). record (switched_state x report switched) { releases = pushed (switched_state x report switched).releases vs (switched_state x report switched).clock }) step.releases_are
      ∙ release_state g (switched_state x report switched) x' (switched_state x report switched).clock fleet at_moment

-- ---- one pair, one visit after another

drop_next : {X : Type 0} (xs : List X) (k : ℕ) (d : X) → k < length xs → drop k xs ≡ get_or xs k d ∷ drop (k + 1) xs
drop_next {X} xs k d h =
    let e : suc k ≡ k + 1 = omega arith in
    drop-cons xs k d h ∙ ap (λ (n : ℕ). get_or xs k d ∷ drop n xs) e

-- one pair is turned
pub turned_next : (sides next : List Side) (qs : List PairId) (k : ℕ) (d : PairId) (side other : Side) → k < length qs → slice_get sides (get_or qs k d).0 ≡ Some side → other ≡ other_side side → next ≡ set sides (get_or qs k d).0 other → turned next (drop (k + 1) qs) ≡ turned sides (drop k qs)
turned_next sides next qs k d side other h here turn e =
    let q : PairId = get_or qs k d in
    let was : get_or sides q.0 Lower ≡ side = get_or_from_slice_get sides q.0 side Lower here in
    ap (λ (ss : List Side). turned ss (drop (k + 1) qs)) (e ∙ ap (λ (s : Side). set sides q.0 s) (turn ∙ ap other_side (sym was)))
    ∙ ap (λ (rest : List PairId). turned sides rest) (sym (drop_next qs k d h))

-- where only the sides differ
pub only_sides : (x y z : FleetState) (sides : List Side) → y ≡ record x { sides = y.sides } → z ≡ record y { sides = sides } → z ≡ record x { sides = z.sides }
only_sides x y z sides e f = f ∙ ap (λ (w : FleetState). record w { sides = sides }) e ∙ ap (λ (s : List Side). record x { sides = s }) (sym (ap (λ (w : FleetState). w.sides) f))

-- or only the releases
pub only_releases : (x y z : FleetState) (rows : List (List ℕ)) → y ≡ record x { releases = y.releases } → z ≡ record y { releases = rows } → z ≡ record x { releases = z.releases }
only_releases x y z rows e f = f ∙ ap (λ (w : FleetState). record w { releases = rows }) e ∙ ap (λ (r : List (List ℕ)). record x { releases = r }) (sym (ap (λ (w : FleetState). w.releases) f))

-- one visit is released
pub pushed_next : (rows next : List (List ℕ)) (vs : List Visit) (k : ℕ) (d : Visit) (tick : ℕ) → k < length vs → next ≡ set rows (get_or vs k d).robot (row_of rows (get_or vs k d).robot ++ tick ∷ []) → pushed next (drop (k + 1) vs) tick ≡ pushed rows (drop k vs) tick
pushed_next rows next vs k d tick h e =
    ap (λ (rs : List (List ℕ)). pushed rs (drop (k + 1) vs) tick) e ∙ ap (λ (rest : List Visit). pushed rows rest tick) (sym (drop_next vs k d h))

pub room_now : (lasts : List ℕ) (rows : List (List ℕ)) (vs : List Visit) (k : ℕ) (d : Visit) (tick : ℕ) → k < length vs → HaveRoom lasts rows (drop k vs) tick
    → HaveRoom lasts rows (get_or vs k d ∷ drop (k + 1) vs) tick
room_now lasts rows vs k d tick h room = subst (λ (rest : List Visit). HaveRoom lasts rows rest tick) (drop_next vs k d h) room
