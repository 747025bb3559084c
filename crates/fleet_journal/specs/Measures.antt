-- What the fields of a payload say of its length.
use Rattle.std.specs.Prelude.{◌≡◌, ◌⊎◌, ℕ, ◌+◌, ◌*◌, ◌^◌, ◌≤◌, List, ◌++◌, length, take, drop}
use Rattle.std.specs.Int.{w32, w64, to_be_bytes, from_be_bytes}
use Rattle.journal_frame.specs.Headers.{magic, IsHeaderPayload}
use Rattle.journal_frame.specs.Frames.{HasFrame}

-- the first bytes of a header's payload, up to the length of its map
abbrev pub header_start : ℕ → List ℕ
header_start m = magic ++ (to_be_bytes w64 1 ++ to_be_bytes w32 m)

-- the side begins with a whole frame, whatever its gate, with a payload in the grammar of headers
abbrev pub BeginsWithHeader : List ℕ → Type 0
BeginsWithHeader bytes = (gate : ℕ) × (payload : List ℕ) × HasFrame bytes gate payload × IsHeaderPayload payload

-- the payload is short, or just as long as the count of pairs in it says
abbrev pub IsMeasured : List ℕ → Type 0
IsMeasured payload = (length payload ≤ 2 ^ 16) ⊎ (length payload ≡ 25 + 4 * from_be_bytes w32 (take 4 (drop 21 payload)))

-- a whole frame stands at the front of the bytes, and its payload is so
abbrev pub HasMeasuredFrame : List ℕ → Type 0
HasMeasuredFrame bytes = (gate : ℕ) × (payload : List ℕ) × HasFrame bytes gate payload × IsMeasured payload
