-- Texts in payloads.
use Rattle.std.specs.Prelude.{ℕ, ◌^◌, ◌<◌, List, ◌++◌, length}
use Rattle.std.specs.Int.{w32, to_be_bytes}

-- a text behind its length, which has four bytes
abbrev pub sized : List ℕ → List ℕ
sized text = to_be_bytes w32 (length text) ++ text

-- the length of the text has four bytes
abbrev pub Fits : List ℕ → Type 0
Fits text = length text < 2 ^ 32
