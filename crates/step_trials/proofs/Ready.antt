-- The state with a report applied is ready for its releases.
use Rattle.std.proofs.Common.{◌≡◌, ◌^◌, ◌<◌, [], refl, arith}
use Rattle.fleet_base.specs.declared.report.Report.{Report}
use Rattle.fleet_base.specs.declared.report.Report.TheVariants.{Arrive, Delay}
use Rattle.fleet_base.specs.Order.{Graph}
use Rattle.fleet_base.specs.State.{FleetState}
use Rattle.fleet_base.specs.Rules.{IsFleetState}
use Rattle.release_rule.specs.Releasing.{IsReadyToRelease}
use Rattle.fleet_core.specs.declared.judging.Judged.TheVariants.{Accept}
use Rattle.fleet_core.specs.Judgement.{judgement_of}
use Rattle.fleet_core.specs.Step.{IsChoice, heard_of}
use Rattle.fleet_core.proofs.Applied.{switched_heard}
use Rattle.fleet_core.proofs.Starting.{heard_is_ready}

none_chosen : (g : Graph) (x : FleetState) (report : Report) → IsFleetState g x → IsChoice g x report []
none_chosen g x report s = record { are_open = λ k d h. absurd (omega (arith, h)); sound = s.order }

pub heard_ready : (g : Graph) (x : FleetState) (report : Report) → IsFleetState g x → judgement_of x report ≡ Accept → x.count < 2 ^ 62 → IsReadyToRelease g (heard_of x report)
heard_ready g x (Arrive i k tick) s accepted few =
    heard_is_ready g (heard_of x (Arrive i k tick)) (switched_heard g x (Arrive i k tick) [] s accepted few refl (none_chosen g x (Arrive i k tick) s))
heard_ready g x (Delay i k extra tick) s accepted few =
    heard_is_ready g (heard_of x (Delay i k extra tick)) (switched_heard g x (Delay i k extra tick) [] s accepted few tt (none_chosen g x (Delay i k extra tick) s))
