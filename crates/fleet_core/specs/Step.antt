-- One event of the fleet.
use Rattle.std.specs.Prelude.{ℕ, ◌≡◌, ◌+◌, ◌^◌, ◌<◌, List, [], ◌∷◌, ◌++◌, map, All, true, slice_set, length}
use Rattle.std.specs.List.Sorted.{IsStrictlyIncreasing}
use Rattle.fleet_base.specs.declared.geometry.Visit.{Visit}
use Rattle.fleet_base.specs.declared.order.PairId.{PairId}
use Rattle.fleet_base.specs.declared.report.Report.{Report}
use Rattle.fleet_base.specs.declared.report.Report.TheVariants.{Arrive, Delay}
use Rattle.fleet_base.specs.Lists.{row_of}
use Rattle.fleet_base.specs.Order.{Graph, IsSoundOrder, order_of, turned}
use Rattle.fleet_base.specs.State.{FleetState}
use Rattle.fleet_base.specs.Release.{Releases, new_releases}
use Rattle.fleet_base.specs.Open.{is_open}
use Rattle.fleet_base.specs.Limits.{report_limit}
use Rattle.fleet_core.specs.Judgement.{judgement_of}
use Rattle.fleet_core.specs.declared.judging.Judged.TheVariants.{Accept}

-- the tick of a report
abbrev pub tick_of : Report → ℕ
tick_of (Arrive i k tick) = tick
tick_of (Delay i k extra tick) = tick

-- the state with a report applied, before any switch and release
abbrev pub heard_of : FleetState → Report → FleetState
heard_of x (Arrive i k tick) = record x { arrivals = slice_set x.arrivals i (row_of x.arrivals i ++ tick ∷ []); clock = tick; count = x.count + 1 }
heard_of x (Delay i k extra tick) = record x { delays = slice_set x.delays i (slice_set (row_of x.delays i) k extra); clock = tick; count = x.count + 1 }

-- only a delay may switch
abbrev pub OnlyDelaysSwitch : Report → List PairId → Type 0
OnlyDelaysSwitch (Arrive i k tick) switched = switched ≡ []
OnlyDelaysSwitch (Delay i k extra tick) switched = Unit {0}

-- the report may be accepted, and the pairs may be named for it
pub record IsProposal (g : Graph) (x : FleetState) (report : Report) (switched : List PairId) : Type 0 where
  pub accepted : judgement_of x report ≡ Accept
  pub count : x.count < report_limit
  pub ascending : IsStrictlyIncreasing (map (λ q. q.0) switched)
  pub there : All (λ q. q.0 < length g.pairs) switched
  pub switches : OnlyDelaysSwitch report switched

-- each switched pair is open after the report, and the new order is sound
pub record IsChoice (g : Graph) (x : FleetState) (report : Report) (switched : List PairId) : Type 0 where
  pub are_open : All (λ q. is_open g (heard_of x report) q.0 ≡ true) switched
  pub sound : IsSoundOrder g (order_of (turned x.sides switched))

-- from x the event leads to x'
pub record Step (g : Graph) (x : FleetState) (report : Report) (switched : List PairId) (releases : List Visit) (x' : FleetState) : Type 0 where
  pub proposal : IsProposal g x report switched
  pub choice : IsChoice g x report switched
  pub state : Releases g (tick_of report) (record (heard_of x report) { sides = turned x.sides switched }) x'
  pub releases_are : releases ≡ new_releases (heard_of x report) x'
