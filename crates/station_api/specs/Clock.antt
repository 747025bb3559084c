-- What a station holds, what a stop may leave of it, and how both go on from call to call.
use Rattle.std.specs.Prelude.{◌≡◌, ◌⊎◌, ℕ, ◌≤◌}
use Rattle.station_api.specs.Scene.{Scene, Extends}

-- the clock of a station, and its laws
pub record Clock : Type 1 where
  -- what the station reads, and what it has sent
  pub seen : Scene
  -- what a stop at this moment may leave
  pub may_leave : Scene → Type 0
  -- the moment, as a number that does not fall
  pub moment : ℕ
  -- what a stop at some moment from that one on may have left, during a call or between two
  pub left_since : ℕ → Scene → Type 0
  -- what it reads is one of those that a stop may leave
  pub reads : may_leave seen
  -- what was sent stays sent
  pub sent_stays : (c : Scene) → may_leave c → c.sent ≡ seen.sent
  -- this moment is one of those since an earlier one
  pub counts_now : (t : ℕ) (c : Scene) → t ≤ moment → may_leave c → left_since t c
  -- since this moment there is no other
  pub only_now : (c : Scene) → left_since moment c → may_leave c
  -- a later beginning leaves out moments and adds none
  pub earlier : (t u : ℕ) (c : Scene) → t ≤ u → left_since u c → left_since t c

-- Time goes on from old to new. Calls in turn add up, and what was sent only grows.
pub record Passes (old new : Clock) : Type 0 where
  pub later : old.moment ≤ new.moment
  pub adds_up : (t : ℕ) (c : Scene) → t ≤ old.moment → new.left_since t c → old.left_since t c ⊎ new.left_since old.moment c
  pub keeps : (t : ℕ) (c : Scene) → t ≤ old.moment → old.left_since t c → new.left_since t c
  pub grows : (c : Scene) → new.left_since old.moment c → Extends old.seen.sent c.sent × Extends c.sent new.seen.sent

-- A stop at any moment from old to new leaves what has P.
pub record LeavesOnly (P : Scene → Type 0) (old new : Clock) : Type 0 where
  pub passes : Passes old new
  pub each : (c : Scene) → new.left_since old.moment c → P c

-- a stop at this moment leaves what has P
abbrev pub LeavesNow : (Scene → Type 0) → Clock → Type 0
LeavesNow P clock = (c : Scene) → clock.may_leave c → P c

-- a stop leaves what the station reads and nothing else
abbrev pub IsKept : Clock → Type 0
IsKept clock = LeavesNow (λ c. c ≡ clock.seen) clock

-- nothing happened
pub record IsUnmoved (old new : Clock) : Type 0 where
  pub seen : new.seen ≡ old.seen
  pub moment : new.moment ≡ old.moment
  pub stop : (c : Scene) → new.may_leave c → old.may_leave c
  pub left : (t : ℕ) (c : Scene) → new.left_since t c → old.left_since t c
