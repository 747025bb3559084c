-- The lines that robots report by, without their line ends.
use Rattle.std.specs.Prelude.{ℕ, ◌≡◌, ◌^◌, ◌<◌, List, ◌++◌, codes}
use Rattle.fleet_base.specs.declared.report.Report.{Report}
use Rattle.fleet_base.specs.declared.report.Report.TheVariants.{Arrive, Delay}
use Rattle.fleet_base.specs.Bytes.{IsPrefix, field}

-- the line of a report
abbrev pub report_line : Report → List ℕ
report_line (Arrive robot index tick) = codes "arrive" ++ field robot ++ field index ++ field tick
report_line (Delay robot index extra tick) = codes "delay" ++ field robot ++ field index ++ field extra ++ field tick

-- its numbers are below 2^64
abbrev pub HasNumbers : Report → Type 0
HasNumbers (Arrive robot index tick) = (robot < 2 ^ 64) × (index < 2 ^ 64) × (tick < 2 ^ 64)
HasNumbers (Delay robot index extra tick) = (robot < 2 ^ 64) × (index < 2 ^ 64) × (extra < 2 ^ 64) × (tick < 2 ^ 64)

-- the line is that of the report
pub record IsReportLine (line : List ℕ) (report : Report) : Type 0 where
  pub text : line ≡ report_line report
  pub numbers : HasNumbers report

-- the line is that of some report
abbrev pub IsReport : List ℕ → Type 0
IsReport line = (report : Report) × IsReportLine line report

-- the bytes begin some report line
abbrev pub BeginsReportLine : List ℕ → Type 0
BeginsReportLine front = (line : List ℕ) × (report : Report) × IsReportLine line report × IsPrefix front line
