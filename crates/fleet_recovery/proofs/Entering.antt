-- When an entry is a step from a state.
use Rattle.std.proofs.Common.{◌≡◌, ◌↔◌, ℕ, ◌^◌, ◌<◌, Bool, true, false, IsTrue, List, map, length, get_or, sym, ◌∙◌, subst, arith}
use Rattle.std.specs.Prelude.{All}
use Rattle.std.specs.List.Sorted.{IsStrictlyIncreasing}
use Rattle.std.proofs.lemmas.Option.{slice_get_within, get_or_from_slice_get}
use Rattle.fleet_base.specs.Open.{is_open}
use Rattle.fleet_base.specs.declared.report.Report.TheVariants.{Arrive, Delay}
use Rattle.fleet_core.specs.declared.entry.ChoiceWhy.{ChoiceWhy}
use Rattle.fleet_core.specs.declared.entry.ChoiceWhy.TheVariants.{Closed, Cyclic}
use Rattle.fleet_core.specs.Preparing.{ChoiceIsRefused}
use Rattle.fleet_journal.specs.Answers.{IsEntryPair}
use Rattle.fleet_base.specs.declared.geometry.Visit.{Visit}
use Rattle.fleet_base.specs.declared.order.PairId.{PairId}
use Rattle.fleet_base.specs.declared.report.Report.{Report}
use Rattle.fleet_base.specs.Order.{Graph}
use Rattle.fleet_base.specs.State.{FleetState}
use Rattle.fleet_core.specs.declared.judging.Judged.TheVariants.{Accept}
use Rattle.fleet_core.specs.Judgement.{judgement_of}
use Rattle.fleet_core.specs.Step.{Step, IsProposal, IsChoice, heard_of}
use Rattle.journal_frame.specs.Entries.{Accepted, IsEntry}
use Rattle.journal_frame.proofs.EntryLaws.{entry_one}
use Rattle.fleet_recovery.specs.Entries.{Enters}
use Rattle.fleet_recovery.specs.Replaying.{EntersBy, EntersNowhere}

-- a test that is false says that it does not hold
pub untrue : (b : Bool) (P : Type 0) → b ≡ false → (IsTrue b ↔ P) → ¬ P
untrue b P false_is says p = let yes = says.1 p in cc

module _ (g : Graph) (x : FleetState) (report : Report) (switched : List PairId) where
  abbrev entry : Accepted
  entry = record { report = report; switched = switched }

  -- what an entry of this payload does, this entry does
  pub steps : (payload : List ℕ) (x' : FleetState) → IsEntry payload entry → Enters g x payload x' → (releases : List Visit) × Step g x report switched releases x'
  steps payload x' is enters =
      let same = entry_one payload enters.entry entry enters.is_entry is in
      subst (λ (e : Accepted). (releases : List Visit) × Step g x e.report e.switched releases x') same (enters.releases, enters.step)

  pub not_accepted : ¬ ((judgement_of x report ≡ Accept) × (x.count < 2 ^ 62)) → EntersNowhere g x report switched
  not_accepted never payload x' is enters = let step = (steps payload x' is enters).1 in never (step.proposal.accepted, step.proposal.count)

  -- pairs that are not there lead nowhere
  pub not_there : ¬ All (λ q. q.0 < length g.pairs) switched → EntersNowhere g x report switched
  not_there never payload x' is enters = let step = (steps payload x' is enters).1 in never step.proposal.there

  -- pairs that are refused are no choice
  pub refused_no_choice : (q : PairId) (why : ChoiceWhy) → ChoiceIsRefused g x report switched q why → ¬ IsChoice g x report switched
  refused_no_choice q Closed first choice =
      let opened = choice.are_open first.place q (slice_get_within switched first.place q first.here) in
      let at : get_or switched first.place q ≡ q = get_or_from_slice_get switched first.place q q first.here in
      let yes : is_open g (heard_of x report) q.0 ≡ true = subst (λ (p : PairId). is_open g (heard_of x report) p.0 ≡ true) at opened in
      let both : true ≡ false = sym yes ∙ first.closed in
      cc
  refused_no_choice q Cyclic cyclic choice = cyclic.2 choice.sound.list choice.sound.sorted

  -- so they lead nowhere
  pub choice_refused : (q : PairId) (why : ChoiceWhy) → ChoiceIsRefused g x report switched q why → EntersNowhere g x report switched
  choice_refused q why refused payload x' is enters = refused_no_choice q why refused (steps payload x' is enters).1.choice

  -- a step of the entry leads on
  pub enters_by : (switches : List PairId) (said : Report) (releases : List Visit) (x' : FleetState) → said ≡ report → switches ≡ switched → Step g x said switches releases x' → EntersBy g x report switched x'
  enters_by switches said releases x' r s step payload is =
      record { entry = entry; releases = releases; is_entry = is; step = subst (λ (qs : List PairId). Step g x report qs releases x') s (subst (λ (p : Report). Step g x p switches releases x') r step) }

-- an entry that is accepted, and whose pairs are there, is a proposal
pub proposes : (g : Graph) (x : FleetState) (report : Report) (switched : List PairId) → IsEntryPair report switched → (judgement_of x report ≡ Accept) × (x.count < 2 ^ 62) → All (λ q. q.0 < length g.pairs) switched → IsProposal g x report switched
proposes g x (Arrive i k tick) switched (payload, is) (accepted, count) there = record { accepted = accepted; count = count; ascending = subst (λ (qs : List PairId). IsStrictlyIncreasing (map (λ q. q.0) qs)) (sym is.order) (λ n h. absurd (omega (arith, h))); there = there; switches = is.order }
proposes g x (Delay i k extra tick) switched (payload, is) (accepted, count) there = record { accepted = accepted; count = count; ascending = is.order; there = there; switches = tt }
