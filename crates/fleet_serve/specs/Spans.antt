-- A station over a call.
use Rattle.station_api.specs.Clock.{Clock}
use Rattle.fleet_serve.specs.Told.{Told, told}

-- whether the station tells what it holds, and its clock before the call and after it
pub record Span : Type 1 where
  pub tells : Type 0
  pub old : Clock
  pub new : Clock

-- a station from one clock to another
abbrev pub span : Type 0 → Clock → Clock → Span
span tells old new = record { tells = tells; old = old; new = new }

-- what was sent before the call, and after it
abbrev pub sent_over : Span → Told
sent_over s = told s.tells s.old.seen.sent s.new.seen.sent
