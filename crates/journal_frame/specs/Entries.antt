-- The entries of a journal: accepted reports, and their payloads.
use Rattle.std.specs.Prelude.{ℕ, ◌≡◌, ◌^◌, ◌<◌, List, [], ◌∷◌, ◌++◌, map, length}
use Rattle.std.specs.List.{flat_map, AllByRecursion}
use Rattle.std.specs.List.Sorted.{IsStrictlyIncreasing}
use Rattle.std.specs.Int.{w32, w64, to_be_bytes}
use Rattle.fleet_base.specs.declared.order.PairId.{PairId}
use Rattle.fleet_base.specs.declared.report.Report.{Report}
use Rattle.fleet_base.specs.declared.report.Report.TheVariants.{Arrive, Delay}

-- an accepted report, and the pairs that are switched for it
pub record Accepted : Type 0 where
  pub report : Report
  pub switched : List PairId

-- the numbers of pairs, four bytes each
abbrev pub pair_bytes : List PairId → List ℕ
pair_bytes pairs = flat_map (λ q. to_be_bytes w32 q.0) pairs

-- how many pairs, and their numbers
abbrev pub counted_pairs : List PairId → List ℕ
counted_pairs pairs = to_be_bytes w32 (length pairs) ++ pair_bytes pairs

-- the payload of a report with its switched pairs
unfoldable pub entry_payload : Report → List PairId → List ℕ
entry_payload (Arrive robot index tick) switched = 1 ∷ (to_be_bytes w32 robot ++ (to_be_bytes w32 index ++ to_be_bytes w64 tick))
entry_payload (Delay robot index extra tick) switched = 2 ∷ (to_be_bytes w32 robot ++ (to_be_bytes w32 index ++ (to_be_bytes w32 extra ++ (to_be_bytes w64 tick ++ counted_pairs switched))))

-- robot, index and extra delay have four bytes each
abbrev pub HasShortNumbers : Report → Type 0
HasShortNumbers (Arrive robot index tick) = (robot < 2 ^ 32) × (index < 2 ^ 32)
HasShortNumbers (Delay robot index extra tick) = (robot < 2 ^ 32) × (index < 2 ^ 32) × (extra < 2 ^ 32)

-- the tick has eight bytes
abbrev pub HasLongTick : Report → Type 0
HasLongTick (Arrive robot index tick) = tick < 2 ^ 64
HasLongTick (Delay robot index extra tick) = tick < 2 ^ 64

-- a delay switches pairs in strictly ascending order, and an arrival none
abbrev pub MaySwitch : Report → List PairId → Type 0
MaySwitch (Arrive robot index tick) switched = switched ≡ []
MaySwitch (Delay robot index extra tick) switched = IsStrictlyIncreasing (map (λ q. q.0) switched)

-- the payload is that of this entry
pub record IsEntry (payload : List ℕ) (entry : Accepted) : Type 0 where
  pub numbers : HasShortNumbers entry.report
  pub tick : HasLongTick entry.report
  pub order : MaySwitch entry.report entry.switched
  pub few : length entry.switched < 2 ^ 32
  pub pairs : AllByRecursion (λ q. q.0 < 2 ^ 32) entry.switched
  pub payload_is : payload ≡ entry_payload entry.report entry.switched

-- the payload is in the grammar of entries
abbrev pub IsEntryPayload : List ℕ → Type 0
IsEntryPayload payload = (entry : Accepted) × IsEntry payload entry
