-- What is prepared is a step, and what is refused is refused by its cause.
use Rattle.std.proofs.Common.{ℕ, ◌≡◌, List, sym, ap, ◌∙◌, subst}
use Rattle.std.specs.Prelude.{Result, Ok, Err}
use Rattle.std.specs.Result.{IsErrAnd}
use Rattle.fleet_base.specs.declared.geometry.Visit.{Visit}
use Rattle.fleet_base.specs.declared.order.PairId.{PairId}
use Rattle.fleet_base.specs.declared.order.Side.{Side}
use Rattle.fleet_base.specs.declared.report.Report.{Report}
use Rattle.fleet_base.specs.Order.{Graph, IsSoundOrder, IsCyclic, order_of, turned}
use Rattle.fleet_base.specs.State.{FleetState}
use Rattle.fleet_base.specs.Release.{Releases}
use Rattle.fleet_base.specs.Rules.{IsFleetState}
use Rattle.release_rule.specs.Releasing.{IsReadyToRelease, IsNewlyReleased}
use Rattle.fleet_core.specs.declared.entry.Entry.{Entry}
use Rattle.fleet_core.specs.declared.entry.PrepareError.{PrepareError}
use Rattle.fleet_core.specs.declared.entry.PrepareError.TheVariants.{ChoiceRefused, Memory}
use Rattle.fleet_core.specs.declared.entry.ChoiceWhy.{ChoiceWhy}
use Rattle.fleet_core.specs.declared.entry.ChoiceWhy.TheVariants.{Closed, Cyclic}
use Rattle.fleet_core.specs.Step.{Step, IsProposal, IsChoice, heard_of}
use Rattle.fleet_core.specs.Preparing.{ChoiceIsRefused, PrepareIs}
use Rattle.fleet_core.specs.Switching.{AreSwitchable, SwitchIs, SwitchIsRefused}
use Rattle.fleet_core.proofs.Applied.{heard_sides, heard_clock, switched_state, switched_heard}
use Rattle.fleet_core.proofs.Starting.{heard_is_ready}

-- pairs that may be switched after a report are a choice
pub choice_from : (g : Graph) (x : FleetState) (report : Report) (switched : List PairId) → AreSwitchable g (heard_of x report) switched → IsChoice g x report switched
choice_from g x report switched may = record {
  are_open = may.are_open;
  sound = subst (λ (sides : List Side). IsSoundOrder g (order_of (turned sides switched))) (heard_sides x report) may.sound;
}

-- so are the refusals
refusal_from : (g : Graph) (x : FleetState) (report : Report) (switched : List PairId) (q : PairId) (why : ChoiceWhy) → SwitchIsRefused g (heard_of x report) switched q why → ChoiceIsRefused g x report switched q why
refusal_from g x report switched q Closed r = r
refusal_from g x report switched q Cyclic r = (r.0, r.1, subst (λ (sides : List Side). IsCyclic g (order_of (turned sides switched))) (heard_sides x report) r.2)

pub refused_from : (g : Graph) (x : FleetState) (x' : FleetState) (report : Report) (switched : List PairId) (e : PrepareError) → SwitchIs g (heard_of x report) x' switched (Err e) → PrepareIs g x report switched (Err e)
refused_from g x x' report switched (ChoiceRefused q why) r = refusal_from g x report switched q why r
refused_from g x x' report switched Memory r = tt

module _ (g : Graph) (x : FleetState) (report : Report) (switched : List PairId) (s : IsFleetState g x) (p : IsProposal g x report switched) where
  -- the state after the report and the switch is ready for its releases
  pub switched_ready : (y : FleetState) → y ≡ switched_state x report switched → IsChoice g x report switched → IsReadyToRelease g y
  switched_ready y e choice = subst (λ (z : FleetState). IsReadyToRelease g z) (sym e) (heard_is_ready g (switched_state x report switched) (switched_heard g x report switched s p.accepted p.count p.switches choice))

  -- with them it makes a step
  pub step_from : (y : FleetState) (releases : List Visit) → y ≡ switched_state x report switched → IsChoice g x report switched → IsNewlyReleased g y releases → (x' : FleetState) × Step g x report switched releases x'
  step_from y releases e choice found =
      let n : IsNewlyReleased g (switched_state x report switched) releases = subst (λ (z : FleetState). IsNewlyReleased g z releases) e found in
      (n.0, record { proposal = p; choice = choice; state = subst (λ (t : ℕ). Releases g t (switched_state x report switched) n.0) (heard_clock x report) n.1; releases_are = n.2 })

-- an answer that is handed on
pub handed_on : (g : Graph) (x y x' : FleetState) (report : Report) (switched qs : List PairId) (s : Result (Unit {0}) PrepareError) (e : PrepareError) (r : Result Entry PrepareError)
    → y ≡ heard_of x report → qs ≡ switched → SwitchIs g y x' qs s → s ≡ Err e → IsErrAnd r (λ w. w ≡ e) → PrepareIs g x report switched r
handed_on g x y x' report switched qs s e (Ok entry) h k o is and = tt
handed_on g x y x' report switched qs s e (Err w) h k o is and =
    let a = subst (λ (z : FleetState). SwitchIs g z x' qs s) h o in
    let b = subst (λ (ps : List PairId). SwitchIs g (heard_of x report) x' ps s) k a in
    let d = subst (λ (t : Result (Unit {0}) PrepareError). SwitchIs g (heard_of x report) x' switched t) is b in
    refused_from g x x' report switched w (subst (λ (v : PrepareError). SwitchIs g (heard_of x report) x' switched (Err v)) (sym and) d)

-- what pairs that were switched lead to
pub switched_to : (g : Graph) (x y x' : FleetState) (report : Report) (switched qs : List PairId) (s : Result (Unit {0}) PrepareError) (u : Unit {0})
    → y ≡ heard_of x report → qs ≡ switched → SwitchIs g y x' qs s → s ≡ Ok u → (x' ≡ switched_state x report switched) × IsChoice g x report switched
switched_to g x y x' report switched qs s u h k o is =
    let a = subst (λ (z : FleetState). SwitchIs g z x' qs s) h o in
    let b = subst (λ (ps : List PairId). SwitchIs g (heard_of x report) x' ps s) k a in
    let d : SwitchIs g (heard_of x report) x' switched (Ok u) = subst (λ (t : Result (Unit {0}) PrepareError). SwitchIs g (heard_of x report) x' switched t) is b in
    (d.0 ∙ ap (λ (sides : List Side). record (heard_of x report) { sides = turned sides switched }) (heard_sides x report), choice_from g x report switched d.1)
