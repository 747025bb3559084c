-- What a heard report leaves, and counts.
use Rattle.std.proofs.Common.{ℕ, ◌≡◌, ◌+◌, List, refl, ap, ◌∙◌}
use Rattle.fleet_base.specs.declared.geometry.Visit.{Visit}
use Rattle.fleet_base.specs.declared.order.PairId.{PairId}
use Rattle.fleet_base.specs.declared.report.Report.{Report}
use Rattle.fleet_base.specs.declared.report.Report.TheVariants.{Arrive, Delay}
use Rattle.fleet_base.specs.Order.{Graph}
use Rattle.fleet_base.specs.State.{FleetState}
use Rattle.fleet_core.specs.Step.{Step, heard_of}

pub heard_counts : (x : FleetState) (report : Report) → (heard_of x report).count ≡ x.count + 1
heard_counts x (Arrive i k tick) = refl
heard_counts x (Delay i k extra tick) = refl

pub step_counts : (g : Graph) (x : FleetState) (report : Report) (switched : List PairId) (releases : List Visit) (x' : FleetState) → Step g x report switched releases x' → x'.count ≡ x.count + 1
step_counts g x report switched releases x' step = ap (λ (y : FleetState). y.count) step.state.others ∙ heard_counts x report

-- a report that is heard releases nothing
pub heard_releases : (x : FleetState) (report : Report) → (heard_of x report).releases ≡ x.releases
heard_releases x (Arrive i k tick) = refl
heard_releases x (Delay i k extra tick) = refl
