-- What a search found, as pairs that are switched and lines that tell it.
use Rattle.std.proofs.Common.{ℕ, ◌≡◌, ◌<◌, ◌^◌, List, length, get_or, true, refl, sym, ap, ◌∙◌, subst}
use Rattle.std.specs.Prelude.{All, Option}
use Rattle.std.proofs.lemmas.List.Elements.{Contains-get_or}
use Rattle.fleet_base.specs.declared.order.PairId.{PairId}
use Rattle.fleet_base.specs.declared.order.Side.{Side}
use Rattle.fleet_base.specs.declared.report.Report.{Report}
use Rattle.fleet_base.specs.declared.report.Report.TheVariants.{Delay}
use Rattle.fleet_base.specs.Order.{Graph, IsSoundOrder}
use Rattle.fleet_base.specs.Open.{is_open, KeepsClosed}
use Rattle.fleet_base.specs.State.{FleetState}
use Rattle.fleet_base.specs.Rules.{IsFleetState}
use Rattle.fleet_base.specs.Bytes.{text_of_lines}
use Rattle.order_choice.specs.declared.outcome.Outcome.{Outcome}
use Rattle.order_choice.specs.Choices.{IsChosen, AreSwitches}
use Rattle.order_choice.proofs.Switches.{opens, switched_choice}
use Rattle.fleet_core.specs.declared.judging.Judged.TheVariants.{Accept}
use Rattle.fleet_core.specs.Judgement.{judgement_of}
use Rattle.fleet_core.specs.Step.{heard_of}
use Rattle.fleet_core.proofs.Delaying.{heard_delay_keeps_rules}
use Rattle.fleet_serve.specs.declared.session.Settings.{Settings}
use Rattle.fleet_serve.specs.Chosen.{TellsChoice, choice_lines}

-- pairs that differ are there
pub found_there : (g : Graph) (x : FleetState) (order : ℕ → Option Side) (switched : List PairId) → AreSwitches g x order switched → All (λ q. q.0 < length g.pairs) switched
found_there g x order switched are k d h = (are.differ (get_or switched k d) (Contains-get_or switched k d h)).0

module _ (g : Graph) (x : FleetState) (order : ℕ → Option Side) (switched : List PairId) (state : IsFleetState g x) (sound : IsSoundOrder g order) (keeps : KeepsClosed g x order) (are : AreSwitches g x order switched) where
  -- they are open
  pub found_open : All (λ q. is_open g x q.0 ≡ true) switched
  found_open k d h = opens g x order switched state sound keeps are (get_or switched k d) (Contains-get_or switched k d h)

  -- a text of the lines of its choice tells what was found
  pub found_tells : (settings : Settings) (cost : ℕ) (outcome : Outcome) (text : List ℕ) → IsChosen g x settings.budget order cost outcome → text ≡ text_of_lines (choice_lines settings.quiet switched cost outcome) → (told : List (List ℕ)) × TellsChoice g settings x switched told × (text ≡ text_of_lines told)
  found_tells settings cost outcome text chosen is =
      (choice_lines settings.quiet switched cost outcome, record { cost = cost; outcome = outcome; choice = switched_choice g x order switched state sound keeps are settings.budget cost outcome chosen; lines_are = refl }, is)

-- the state with a delay applied keeps the rules
pub heard_keeps : (g : Graph) (x heard : FleetState) (report : Report) (i k extra tick : ℕ) → report ≡ Delay i k extra tick → heard ≡ heard_of x report → IsFleetState g x → judgement_of x report ≡ Accept → x.count < 2 ^ 62 → IsFleetState g heard
heard_keeps g x heard report i k extra tick e is state accepted count =
    let j : judgement_of x (Delay i k extra tick) ≡ Accept = subst (λ (r : Report). judgement_of x r ≡ Accept) e accepted in
    let h : heard ≡ heard_of x (Delay i k extra tick) = is ∙ ap (heard_of x) e in
    subst (IsFleetState g) (sym h) (heard_delay_keeps_rules g x i k extra tick state j count)
