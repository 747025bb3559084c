-- What a station in memory began with, and each change that was made to it since.
use Rattle.std.specs.Prelude.{◌≡◌, ℕ, List}
use Rattle.station_api.specs.Scene.{Scene}
use Rattle.station_api.specs.Clock.{Clock}
use Rattle.station_api.specs.Replay.{held_now, clock_of}
use Rattle.station_api.specs.Stop.{stopped_scene}
use Rattle.station_api.specs.declared.call.Call.{Call}

-- the scene at first, and the calls that made a change
pub record Past : Type 0 where
  pub first : Scene
  pub calls : List Call

-- these are the bytes of the two sides and those sent after all of the changes
pub record IsHeld (first : Scene) (calls : List Call) (a b sent : List ℕ) : Type 0 where
  pub a_is : a ≡ (held_now first calls).seen.a
  pub b_is : b ≡ (held_now first calls).seen.b
  pub sent_is : sent ≡ (held_now first calls).seen.sent

-- what is held after the changes, and what a stop may leave
abbrev pub past_clock : Past → Clock
past_clock past = clock_of past.first past.calls

-- what a stop after the calls up to a number leaves, if a test asks for so many bytes
abbrev pub past_stopped : Past → ℕ → ℕ → ℕ → Scene
past_stopped past last kept filler = stopped_scene past.first past.calls last kept filler
