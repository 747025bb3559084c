-- What a player of calls holds.
use Rattle.station_api.specs.Scene.{Scene}
use Rattle.station_api.specs.Replay.{scene}
use Rattle.station_api.specs.Stop.{Marks}
use Rattle.station_api.specs.declared.play.Playing.{Playing}

-- the bytes as the calls left them
abbrev pub playing_scene : Playing → Scene
playing_scene playing = scene playing.a.items playing.b.items playing.sent.items

-- which bytes are not synced
abbrev pub playing_marks : Playing → Marks
playing_marks playing = record { a = playing.marks_a.items; b = playing.marks_b.items }
