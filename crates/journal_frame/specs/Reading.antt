-- Reading from left to right, by which the private readers are specified: nothing where the bytes are not in the grammar.
use Rattle.std.specs.Prelude.{ℕ, zero, suc, List, [], ◌∷◌, ◌≡◌, length, take, drop, Option, Some, None, option_and_then, Result, Ok, Err, nat_lt, nat_eq, slice_index, Bool, ◌==◌, ◌&&◌, if◌then◌else◌}
use Rattle.std.specs.List.{starts_with}
use Rattle.std.specs.Int.{Width, w32, w64, byte_len, from_be_bytes}
use Rattle.fleet_base.specs.declared.order.PairId.{PairId}
use Rattle.fleet_base.specs.declared.report.Report.{Report}
use Rattle.fleet_base.specs.declared.report.Report.TheVariants.{Arrive, Delay}
use Rattle.journal_frame.specs.declared.error.FrameError.{FrameError}
use Rattle.journal_frame.specs.declared.error.FrameError.TheVariants.{NotInGrammar, Memory}
use Rattle.journal_frame.specs.declared.header.HeaderParts.{HeaderParts}
use Rattle.journal_frame.specs.Headers.{magic}

infixl 10 ◌>>=◌
abbrev pub ◌>>=◌ : {A B : Type 0} → Option A → (A → Option B) → Option B
o >>= f = option_and_then f o

-- why nothing was returned: the bytes are not in the grammar, or memory ran out
abbrev pub Refuses : {Y : Type 0} → FrameError → Option Y → Type 0
Refuses NotInGrammar read = read ≡ None
Refuses Memory read = Unit {0}

-- what a reader returned, seen by view, is what reading gives, unless memory ran out
abbrev pub Reads : {X Y : Type 0} → (X → Y) → Result X FrameError → Option Y → Type 0
Reads view (Ok x) read = read ≡ Some (view x)
Reads view (Err e) read = Refuses e read

-- a number, and the bytes after it
abbrev pub number_at : Width → List ℕ → Option (ℕ × List ℕ)
number_at w bytes = if nat_lt (length bytes) (byte_len w) then None else Some (from_be_bytes w (take (byte_len w) bytes), drop (byte_len w) bytes)

-- a text behind its length
unfoldable pub text_at : List ℕ → Option (List ℕ × List ℕ)
text_at bytes = do
  n ← number_at w32 bytes
  if nat_lt (length n.1) n.0 then None else Some (take n.0 n.1, drop n.0 n.1)

-- so many pairs
unfoldable pub pairs_at : ℕ → List ℕ → Option (List PairId × List ℕ)
pairs_at zero bytes = Some ([], bytes)
pairs_at (suc n) bytes = do
  first ← number_at w32 bytes
  others ← pairs_at n first.1
  Some (record { 0 = first.0 } ∷ others.0, others.1)

-- the value of the fields, if nothing follows them
abbrev pub at_end : {Y : Type 0} → Y → List ℕ → Option Y
at_end value bytes = if length bytes == 0 then Some value else None

-- all of the bytes are an arrival, without its kind
unfoldable pub arrival_of : List ℕ → Option (Report × List PairId)
arrival_of bytes = do
  robot ← number_at w32 bytes
  index ← number_at w32 robot.1
  tick ← number_at w64 index.1
  at_end (Arrive robot.0 index.0 tick.0, []) tick.1

-- all of the bytes are a count of pairs, and these pairs
unfoldable pub counted_of : List ℕ → Option (List PairId)
counted_of bytes = do
  count ← number_at w32 bytes
  pairs ← pairs_at count.0 count.1
  at_end pairs.0 pairs.1

-- all of the bytes are a delay, without its kind
unfoldable pub delay_of : List ℕ → Option (Report × List PairId)
delay_of bytes = do
  robot ← number_at w32 bytes
  index ← number_at w32 robot.1
  extra ← number_at w32 index.1
  tick ← number_at w64 extra.1
  switched ← counted_of tick.1
  Some (Delay robot.0 index.0 extra.0 tick.0, switched)

-- all of the bytes are an entry, whatever the order of its pairs
unfoldable pub entry_of : List ℕ → Option (Report × List PairId)
entry_of [] = None
entry_of (zero ∷ bytes) = None
entry_of (suc zero ∷ bytes) = arrival_of bytes
entry_of (suc (suc zero) ∷ bytes) = delay_of bytes
entry_of (suc (suc (suc kind)) ∷ bytes) = None

-- the bytes behind the magic ones
unfoldable pub after_magic : List ℕ → Option (List ℕ)
after_magic bytes = if starts_with nat_eq bytes magic then Some (drop 5 bytes) else None

-- the bytes are one byte 0
abbrev pub is_tag_0 : List ℕ → Bool
is_tag_0 bytes = (length bytes == 1) && (slice_index bytes 0 == 0)

-- all of the bytes are a header
unfoldable pub header_of : List ℕ → Option HeaderParts
header_of bytes = do
  rest ← after_magic bytes
  generation ← number_at w64 rest
  map ← text_at generation.1
  plan ← text_at map.1
  if (generation.0 == 1) && is_tag_0 plan.1 then Some (record { generation = generation.0; map = map.0; plan = plan.0; summary = None }) else None
