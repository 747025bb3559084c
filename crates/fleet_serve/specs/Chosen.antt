-- What is chosen for a report, and the lines that tell it.
use Rattle.std.specs.Prelude.{ℕ, ◌≡◌, List, [], ◌∷◌, ◌++◌, map, Bool, if◌then◌else◌}
use Rattle.fleet_base.specs.declared.order.PairId.{PairId}
use Rattle.fleet_base.specs.declared.report.Report.{Report}
use Rattle.fleet_base.specs.declared.report.Report.TheVariants.{Arrive, Delay}
use Rattle.fleet_base.specs.Order.{Graph}
use Rattle.fleet_base.specs.State.{FleetState}
use Rattle.cert_tree.specs.CertText.{cert_lines}
use Rattle.report_text.specs.declared.answer.Answer.{Answer}
use Rattle.report_text.specs.declared.answer.Answer.TheVariants as answer
use Rattle.report_text.specs.AnswerLine.{answer_line}
use Rattle.fleet_core.specs.Step.{heard_of}
use Rattle.order_choice.specs.declared.outcome.Outcome.{Outcome}
use Rattle.order_choice.specs.declared.outcome.Outcome.TheVariants.{Optimal, Spent}
use Rattle.order_choice.specs.Choices.{Choice, cert_of}
use Rattle.fleet_serve.specs.declared.session.Settings.{Settings}

-- what is said of an order of this cost: that none is cheaper, or what the search left when its budget was spent
abbrev pub order_answer : ℕ → Outcome → Answer
order_answer cost (Optimal cert) = answer.Optimal cost
order_answer cost (Spent cert least) = answer.Spent cost least

-- the lines that name the switched pairs
abbrev pub switch_lines : List PairId → List (List ℕ)
switch_lines switched = map (λ q. answer_line (answer.Switch q)) switched

-- the lines of a certificate; a quiet session sends none
abbrev pub shown_lines : Bool → Outcome → List (List ℕ)
shown_lines quiet outcome = if quiet then [] else cert_lines (cert_of outcome)

-- what is sent of a choice: what is said of the order, its switches, and its certificate
abbrev pub choice_lines : Bool → List PairId → ℕ → Outcome → List (List ℕ)
choice_lines quiet switched cost outcome = answer_line (order_answer cost outcome) ∷ (switch_lines switched ++ shown_lines quiet outcome)

-- Lines that tell a choice: the order with these pairs switched has a cost, which one outcome of a search within the budget shows, and
-- the lines say both.
pub record TellsChoice (g : Graph) (settings : Settings) (x : FleetState) (switched : List PairId) (lines : List (List ℕ)) : Type 0 where
  pub cost : ℕ
  pub outcome : Outcome
  pub choice : Choice g x settings.budget switched cost outcome
  pub lines_are : lines ≡ choice_lines settings.quiet switched cost outcome

-- the lines that tell what is chosen for a report: nothing for an arrival, and for a delay an order of the state with the delay applied
abbrev pub Chooses : Graph → Settings → FleetState → Report → List PairId → List (List ℕ) → Type 0
Chooses g settings x (Arrive i k tick) switched lines = lines ≡ []
Chooses g settings x (Delay i k extra tick) switched lines = TellsChoice g settings (heard_of x (Delay i k extra tick)) switched lines
