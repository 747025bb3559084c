-- The header of a journal, and its payload.
use Rattle.std.specs.Prelude.{ℕ, ◌≡◌, ◌^◌, ◌<◌, List, [], ◌∷◌, ◌++◌, Option, Some, None}
use Rattle.std.specs.Int.{w64, to_be_bytes}
use Rattle.journal_frame.specs.declared.header.Header.{Header}
use Rattle.journal_frame.specs.declared.header.HeaderParts.{HeaderParts}
use Rattle.journal_frame.specs.Texts.{sized, Fits}

-- `FLET` and version 1
abbrev pub magic : List ℕ
magic = 70 ∷ 76 ∷ 69 ∷ 84 ∷ 1 ∷ []

-- a byte that says whether a summary follows, and the summary
abbrev pub tagged : Option (List ℕ) → List ℕ
tagged None = 0 ∷ []
tagged (Some summary) = 1 ∷ summary

-- the magic bytes, the generation, the map, the plan, and a summary if the journal goes on from one
unfoldable pub header_payload : HeaderParts → List ℕ
header_payload h = magic ++ (to_be_bytes w64 h.generation ++ (sized h.map ++ (sized h.plan ++ tagged h.summary)))

-- The generations and summaries that are in the grammar: until a journal turns over to its other side, generation 1 and no summary.
abbrev pub IsAllowed : {X : Type 0} → ℕ → Option X → Type 0
IsAllowed generation summary = (generation ≡ 1) × (summary ≡ None)

-- the payload is that of this header
pub record IsHeader (payload : List ℕ) (h : HeaderParts) : Type 0 where
  pub allowed : IsAllowed h.generation h.summary
  pub generation : h.generation < 2 ^ 64
  pub map : Fits h.map
  pub plan : Fits h.plan
  pub payload_is : payload ≡ header_payload h

-- the payload is in the grammar of headers
abbrev pub IsHeaderPayload : List ℕ → Type 0
IsHeaderPayload payload = (h : HeaderParts) × IsHeader payload h

-- what a header that is written says; no summary is written yet
abbrev pub parts_of : Header → HeaderParts
parts_of h = record { generation = h.generation; map = h.map.now; plan = h.plan.now; summary = None }
