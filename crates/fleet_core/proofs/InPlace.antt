-- The step of an accepted report that switches no pair.
use Rattle.std.proofs.Common.{ℕ, ◌≡◌, ◌^◌, ◌<◌, List, [], sym, ap, ◌∙◌, subst, arith}
use Rattle.fleet_base.specs.declared.geometry.Visit.{Visit}
use Rattle.fleet_base.specs.declared.order.Side.{Side}
use Rattle.fleet_base.specs.declared.report.Report.{Report}
use Rattle.fleet_base.specs.Order.{Graph}
use Rattle.fleet_base.specs.State.{FleetState}
use Rattle.fleet_base.specs.Rules.{IsFleetState}
use Rattle.fleet_base.specs.Limits.{report_limit}
use Rattle.release_rule.specs.Releasing.{IsReadyToRelease, IsNewlyReleased}
use Rattle.fleet_core.specs.declared.judging.Judged.TheVariants.{Accept}
use Rattle.fleet_core.specs.Judgement.{judgement_of}
use Rattle.fleet_core.specs.Step.{Step, IsProposal, IsChoice, heard_of}
use Rattle.fleet_core.specs.Pushing.{pushed, HaveRoom}
use Rattle.fleet_core.proofs.Applied.{heard_sides, may_switch_none, switched_state, room_after, step_after}
use Rattle.fleet_core.proofs.Prepared.{switched_ready, step_from}
use Rattle.fleet_core.proofs.Delaying.{step_keeps_rules}

module _ (g : Graph) (x : FleetState) (report : Report) (s : IsFleetState g x) (accepted : judgement_of x report ≡ Accept) (few : x.count < report_limit) where
  proposed : IsProposal g x report []
  proposed = record { accepted = accepted; count = few; ascending = λ k h. absurd (omega (arith, h)); there = λ k d h. absurd (omega (arith, h)); switches = may_switch_none report }

  chosen : IsChoice g x report []
  chosen = record { are_open = λ k d h. absurd (omega (arith, h)); sound = s.order }

  module _ (y : FleetState) (heard : y ≡ heard_of x report) where
    none_turned : y ≡ switched_state x report []
    none_turned = heard ∙ ap (λ (sides : List Side). record (heard_of x report) { sides = sides }) (heard_sides x report)

    pub advance_ready : IsReadyToRelease g y
    advance_ready = switched_ready g x report [] s proposed y none_turned chosen

    -- what is found is released one by one at the moment
    module _ (releases visits : List Visit) (tick : ℕ) (found : IsNewlyReleased g y releases) (same : visits ≡ releases) (at : tick ≡ y.clock) where
      made : (x' : FleetState) × Step g x report [] releases x'
      made = step_from g x report [] s proposed y releases none_turned chosen found

      pub advance_room : HaveRoom y.lasts y.releases visits tick
      advance_room =
          subst (λ (vs : List Visit). HaveRoom y.lasts y.releases vs tick) (sym same)
          (subst (λ (t : ℕ). HaveRoom y.lasts y.releases releases t) (sym at) (room_after g x report [] releases made.0 s made.1 y none_turned))

      module _ (x' : FleetState) (is : x' ≡ record y { releases = pushed y.releases visits tick }) where
        is_made : x' ≡ made.0
        is_made =
            is ∙ ap (λ (vs : List Visit). record y { releases = pushed y.releases vs tick }) same ∙ ap (λ (t : ℕ). record y { releases = pushed y.releases releases t }) at
            ∙ step_after g x report [] releases made.0 s made.1 y none_turned

        pub advance_step : Step g x report [] releases x'
        advance_step = subst (λ (z : FleetState). Step g x report [] releases z) (sym is_made) made.1

        pub advance_keeps : IsFleetState g x'
        advance_keeps = step_keeps_rules g x report [] releases x' s advance_step
