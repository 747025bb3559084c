-- The room that the frame of a report needs.
use Rattle.std.specs.Prelude.{ℕ, ◌+◌, ◌*◌, ◌<◌, ◌≤◌, length}
use Rattle.std.specs.List.{count_by}
use Rattle.fleet_base.specs.declared.report.Report.{Report}
use Rattle.fleet_base.specs.declared.report.Report.TheVariants.{Arrive, Delay}
use Rattle.fleet_base.specs.Lists.{range}
use Rattle.fleet_base.specs.Order.{Graph}
use Rattle.fleet_base.specs.Open.{is_open}
use Rattle.fleet_base.specs.State.{FleetState}
use Rattle.fleet_base.specs.Limits.{report_limit}

-- how many pairs are open
abbrev pub open_count : Graph → FleetState → ℕ
open_count g x = count_by (is_open g x) (range 0 (length g.pairs))

-- how long the payload of a report is counted: that of a delay as if every open pair were switched
abbrev pub counted_length : Graph → FleetState → Report → ℕ
counted_length g x (Arrive i k tick) = 17
counted_length g x (Delay i k extra tick) = 25 + 4 * open_count g x

-- A side of this limit, with its closed gate at this place, has room for the frame of a report and for the gate behind it, and the
-- report has a number.
pub record HasRoom (g : Graph) (limit place : ℕ) (x : FleetState) (report : Report) : Type 0 where
  pub side : place + 5 + counted_length g x report + 1 ≤ limit
  pub number : x.count < report_limit
