-- The fields of a payload say how long it is.
use Rattle.std.proofs.Common.{◌≡◌, ◌≢◌, inl, inr, Bool, true, false, not, ℕ, zero, suc, ◌+◌, ◌-◌, ◌*◌, ◌^◌, ◌<◌, ◌≤◌, List, [], ◌∷◌, ◌++◌, length, get_or, take, drop, None, refl, sym, ◌∙◌, ap, subst, arith, append_assoc, length-append, take-append-drop}
use Rattle.std.specs.Int.{w32, w64, to_be_bytes, from_be_bytes}
use Rattle.std.specs.Bool.{Decides}
use Rattle.std.specs.Str.{bytes_eq}
use Rattle.std.proofs.lemmas.Slice.Eq.{bytes_eq-Decides}
use Rattle.std.proofs.lemmas.List.{append-nil, get_or-drop, drop_all, take-append-le, drop-append-le, drop_at, take_at, drop-drop, length-take, length-drop}
use Rattle.std.proofs.lemmas.List.Concat.{flat_map-cons}
use Rattle.std.proofs.lemmas.Nat.{be_bytes_4, from_be_bytes-to_be_bytes_4}
use Rattle.station_api.specs.Disk.{Reads}
use Rattle.journal_frame.specs.declared.header.HeaderParts.{HeaderParts}
use Rattle.journal_frame.specs.Headers.{magic, tagged, header_payload, IsHeader, IsHeaderPayload}
use Rattle.fleet_base.specs.declared.order.PairId.{PairId}
use Rattle.fleet_base.specs.declared.report.Report.{Report}
use Rattle.fleet_base.specs.declared.report.Report.TheVariants.{Arrive, Delay}
use Rattle.journal_frame.specs.Entries.{Accepted, IsEntry, IsEntryPayload, entry_payload, pair_bytes}
use Rattle.journal_frame.specs.Frames.{framed, HasFrame, IsLive}
use Rattle.fleet_journal.specs.Measures.{header_start, BeginsWithHeader, HasMeasuredFrame}
use Rattle.fleet_journal.specs.Reading.{IsFront}
use Rattle.fleet_journal.specs.declared.reading.Front.{Front}
use Rattle.fleet_journal.proofs.Pieces.{frame_size, frame_is}

-- a piece that was read whole
pub read_whole : (bytes room filled : List ℕ) (at n : ℕ) → Reads bytes at n room filled → at + length room ≤ length bytes → filled ≡ take (length room) (drop at bytes)
read_whole bytes room filled at n reads long =
    let all : n ≡ length room = omega (arith, reads.count, long) in
    reads.bytes ∙ ap (λ (k : ℕ). take k (drop at bytes) ++ drop k room) all
    ∙ ap (λ (l : List ℕ). take (length room) (drop at bytes) ++ l) (drop_all (length room) room (omega arith)) ∙ append-nil (take (length room) (drop at bytes))

-- a header's payload and what stands behind it, where the map and the plan have these lengths
pub record IsLaidOut (bytes : List ℕ) (m p : ℕ) : Type 0 where
  pub map : List ℕ
  pub plan : List ℕ
  pub rest : List ℕ
  pub map_long : length map ≡ m
  pub plan_long : length plan ≡ p
  pub bytes_are : bytes ≡ header_start m ++ (map ++ (to_be_bytes w32 p ++ (plan ++ 0 ∷ rest)))

-- where the fields of fixed length say so
pub laid_out : (bytes : List ℕ) (m p : ℕ) → 22 + m + p ≤ length bytes → take 17 bytes ≡ header_start m → take 4 (drop (17 + m) bytes) ≡ to_be_bytes w32 p → take 1 (drop (21 + m + p) bytes) ≡ 0 ∷ [] → IsLaidOut bytes m p
laid_out bytes m p long head size tag =
    let behind_head = drop 17 bytes in
    let behind_map = drop m behind_head in
    let behind_size = drop 4 behind_map in
    let behind_plan = drop p behind_size in
    let map_at : behind_map ≡ drop (17 + m) bytes = drop-drop m 17 bytes ∙ ap (λ (k : ℕ). drop k bytes) (omega arith) in
    let size_at : behind_size ≡ drop (21 + m) bytes = ap (λ (l : List ℕ). drop 4 l) map_at ∙ drop-drop 4 (17 + m) bytes ∙ ap (λ (k : ℕ). drop k bytes) (omega arith) in
    let plan_at : behind_plan ≡ drop (21 + m + p) bytes = ap (λ (l : List ℕ). drop p l) size_at ∙ drop-drop p (21 + m) bytes ∙ ap (λ (k : ℕ). drop k bytes) (omega arith) in
    let size_is : take 4 behind_map ≡ to_be_bytes w32 p = ap (λ (l : List ℕ). take 4 l) map_at ∙ size in
    let tag_is : take 1 behind_plan ≡ 0 ∷ [] = ap (λ (l : List ℕ). take 1 l) plan_at ∙ tag in
    record {
      map = take m behind_head;
      plan = take p behind_size;
      rest = drop 1 behind_plan;
      map_long = omega (arith, length-take m behind_head, length-drop 17 bytes, long);
      plan_long = omega (arith, length-take p behind_size, ap length size_at, length-drop (21 + m) bytes, long);
      bytes_are = sym (take-append-drop 17 bytes) ∙ ap (λ (l : List ℕ). l ++ behind_head) head
          ∙ ap (λ (l : List ℕ). header_start m ++ l) (sym (take-append-drop m behind_head)
          ∙ ap (λ (l : List ℕ). take m behind_head ++ l) (sym (take-append-drop 4 behind_map) ∙ ap (λ (l : List ℕ). l ++ behind_size) size_is
          ∙ ap (λ (l : List ℕ). to_be_bytes w32 p ++ l) (sym (take-append-drop p behind_size)
          ∙ ap (λ (l : List ℕ). take p behind_size ++ l) (sym (take-append-drop 1 behind_plan) ∙ ap (λ (l : List ℕ). l ++ drop 1 behind_plan) tag_is))));
    }

-- the payload alone
abbrev laid_payload : ℕ → List ℕ → ℕ → List ℕ → List ℕ
laid_payload m map p plan = header_start m ++ (map ++ (to_be_bytes w32 p ++ (plan ++ 0 ∷ [])))

regroup : (m : ℕ) (map : List ℕ) (p : ℕ) (plan rest : List ℕ) → laid_payload m map p plan ++ rest ≡ header_start m ++ (map ++ (to_be_bytes w32 p ++ (plan ++ 0 ∷ rest)))
regroup m map p plan rest =
    append_assoc (header_start m) (map ++ (to_be_bytes w32 p ++ (plan ++ 0 ∷ []))) rest
    ∙ ap (λ (l : List ℕ). header_start m ++ l) (append_assoc map (to_be_bytes w32 p ++ (plan ++ 0 ∷ [])) rest
    ∙ ap (λ (l : List ℕ). map ++ l) (append_assoc (to_be_bytes w32 p) (plan ++ 0 ∷ []) rest
    ∙ ap (λ (l : List ℕ). to_be_bytes w32 p ++ l) (append_assoc plan (0 ∷ []) rest)))

laid_length : (m : ℕ) (map : List ℕ) (p : ℕ) (plan : List ℕ) → length (laid_payload m map p plan) ≡ 22 + length map + length plan
laid_length m map p plan = omega (arith, length-append map (to_be_bytes w32 p ++ (plan ++ 0 ∷ [])), length-append plan (0 ∷ []))

-- the payload of a header that names these texts
payload_of : (map plan : List ℕ) → laid_payload (length map) map (length plan) plan ≡ header_payload (record { generation = 1; map = map; plan = plan; summary = None })
unfolding header_payload
payload_of map plan = refl

pub laid_header : (bytes : List ℕ) (m p : ℕ) → IsLaidOut bytes m p → m < 2 ^ 32 → p < 2 ^ 32 → IsHeaderPayload (take (22 + m + p) bytes)
laid_header bytes m p laid short_map short_plan =
    let whole = laid_payload m laid.map p laid.plan in
    let front : take (22 + m + p) bytes ≡ whole =
    ap (λ (l : List ℕ). take (22 + m + p) l) (laid.bytes_are ∙ sym (regroup m laid.map p laid.plan laid.rest))
    ∙ take_at whole laid.rest (22 + m + p) (omega (arith, laid_length m laid.map p laid.plan, laid.map_long, laid.plan_long)) in (
      record { generation = 1; map = laid.map; plan = laid.plan; summary = None },
      record {
        allowed = (refl, refl);
        generation = omega arith;
        map = omega (arith, laid.map_long, short_map);
        plan = omega (arith, laid.plan_long, short_plan);
        payload_is = front ∙ ap (λ (k : ℕ). laid_payload k laid.map p laid.plan) (sym laid.map_long) ∙ ap (λ (k : ℕ). laid_payload (length laid.map) laid.map k laid.plan) (sym laid.plan_long) ∙ payload_of laid.map laid.plan;
      },
    )

-- a header's payload is laid out so
header_is : (payload : List ℕ) (h : HeaderParts) → IsHeader payload h → payload ≡ laid_payload (length h.map) h.map (length h.plan) h.plan
unfolding header_payload
header_is payload h is =
    is.payload_is
    ∙ ap (λ (n : ℕ). magic ++ (to_be_bytes w64 n ++ ((to_be_bytes w32 (length h.map) ++ h.map) ++ ((to_be_bytes w32 (length h.plan) ++ h.plan) ++ tagged h.summary)))) is.allowed.0
    ∙ ap (λ (l : List ℕ). magic ++ (to_be_bytes w64 1 ++ ((to_be_bytes w32 (length h.map) ++ h.map) ++ ((to_be_bytes w32 (length h.plan) ++ h.plan) ++ l)))) (ap tagged is.allowed.1)

pub header_laid : (bytes payload rest : List ℕ) (h : HeaderParts) → bytes ≡ payload ++ rest → IsHeader payload h → IsLaidOut bytes (length h.map) (length h.plan)
header_laid bytes payload rest h is header = record {
  map = h.map;
  plan = h.plan;
  rest = rest;
  map_long = refl;
  plan_long = refl;
  bytes_are = is ∙ ap (λ (l : List ℕ). l ++ rest) (header_is payload h header) ∙ regroup (length h.map) h.map (length h.plan) h.plan rest;
}

pub header_long : (payload : List ℕ) (h : HeaderParts) → IsHeader payload h → length payload ≡ 22 + length h.map + length h.plan
header_long payload h is = ap length (header_is payload h is) ∙ laid_length (length h.map) h.map (length h.plan) h.plan

-- what the fields say then
pub laid_head : (bytes : List ℕ) (m p : ℕ) → IsLaidOut bytes m p → take 17 bytes ≡ header_start m
laid_head bytes m p laid = ap (λ (l : List ℕ). take 17 l) laid.bytes_are

behind_map : (bytes : List ℕ) (m p : ℕ) (laid : IsLaidOut bytes m p) → drop (17 + m) bytes ≡ to_be_bytes w32 p ++ (laid.plan ++ 0 ∷ laid.rest)
behind_map bytes m p laid =
    ap (λ (k : ℕ). drop k bytes) (omega arith) ∙ sym (drop-drop m 17 bytes) ∙ ap (λ (l : List ℕ). drop m (drop 17 l)) laid.bytes_are
    ∙ drop_at laid.map (to_be_bytes w32 p ++ (laid.plan ++ 0 ∷ laid.rest)) m laid.map_long

pub laid_size : (bytes : List ℕ) (m p : ℕ) → IsLaidOut bytes m p → take 4 (drop (17 + m) bytes) ≡ to_be_bytes w32 p
laid_size bytes m p laid = ap (λ (l : List ℕ). take 4 l) (behind_map bytes m p laid)

pub laid_tag : (bytes : List ℕ) (m p : ℕ) → IsLaidOut bytes m p → take 1 (drop (21 + m + p) bytes) ≡ 0 ∷ []
laid_tag bytes m p laid =
    let size_at : drop (21 + m) bytes ≡ laid.plan ++ 0 ∷ laid.rest =
    ap (λ (k : ℕ). drop k bytes) (omega arith) ∙ sym (drop-drop 4 (17 + m) bytes) ∙ ap (λ (l : List ℕ). drop 4 l) (behind_map bytes m p laid) in
    ap (λ (l : List ℕ). take 1 l) (ap (λ (k : ℕ). drop k bytes) (omega arith) ∙ sym (drop-drop p (21 + m) bytes) ∙ ap (λ (l : List ℕ). drop p l) size_at ∙ drop_at laid.plan (0 ∷ laid.rest) p laid.plan_long)

-- one length has these four bytes
pub size_one : (m n : ℕ) → m < 2 ^ 32 → n < 2 ^ 32 → to_be_bytes w32 m ≡ to_be_bytes w32 n → m ≡ n
size_one m n m_short n_short same = sym (from_be_bytes-to_be_bytes_4 m m_short) ∙ ap (from_be_bytes w32) same ∙ from_be_bytes-to_be_bytes_4 n n_short

pub start_one : (m n : ℕ) → m < 2 ^ 32 → n < 2 ^ 32 → header_start m ≡ header_start n → m ≡ n
start_one m n m_short n_short same = size_one m n m_short n_short (ap (λ (l : List ℕ). drop 13 l) same)

-- ---- the first bytes

-- four items are these
four : (xs : List ℕ) → length xs ≡ 4 → xs ≡ get_or xs 0 0 ∷ get_or xs 1 0 ∷ get_or xs 2 0 ∷ get_or xs 3 0 ∷ []
four [] long = absurd (omega (arith, long))
four (a ∷ []) long = absurd (omega (arith, long))
four (a ∷ b ∷ []) long = absurd (omega (arith, long))
four (a ∷ b ∷ c ∷ []) long = absurd (omega (arith, long))
four (a ∷ b ∷ c ∷ d ∷ []) long = refl
four (a ∷ b ∷ c ∷ d ∷ e ∷ xs) long = absurd (omega (arith, long))

abbrev four_of : List ℕ → List ℕ
four_of xs = get_or xs 0 0 ∷ get_or xs 1 0 ∷ get_or xs 2 0 ∷ get_or xs 3 0 ∷ []

-- four bytes are those of the number that they say
pub four_say : (xs : List ℕ) (n : ℕ) → length xs ≡ 4 → ((i : ℕ) → get_or xs i 0 < 256) → n ≡ from_be_bytes w32 (four_of xs) → (xs ≡ to_be_bytes w32 n) × (n < 2 ^ 32)
four_say xs n long are_bytes is = (four xs long ∙ sym (be_bytes_4 (four_of xs) n refl each is), omega (arith, is, are_bytes 0, are_bytes 1, are_bytes 2, are_bytes 3))
  where
    each : (i : ℕ) → get_or (four_of xs) i 0 < 256
    each zero = are_bytes 0
    each (suc zero) = are_bytes 1
    each (suc (suc zero)) = are_bytes 2
    each (suc (suc (suc zero))) = are_bytes 3
    each (suc (suc (suc (suc i)))) = omega arith

equal : (b : Bool) (P : Type 0) → Decides b P → false ≡ not b → P
equal true P d e = d.0 refl
equal false P d e = absurd cc

-- what a header's first bytes say
pub start_says : (head start back : List ℕ) (size : ℕ) → start ≡ take 13 head → back ≡ drop 13 head → false ≡ not (bytes_eq start (magic ++ to_be_bytes w64 1)) → back ≡ to_be_bytes w32 size → head ≡ header_start size
start_says head start back size start_is back_is begins is =
    sym (take-append-drop 13 head)
    ∙ ap (λ (l : List ℕ). l ++ drop 13 head) (sym start_is ∙ equal (bytes_eq start (magic ++ to_be_bytes w64 1)) (start ≡ magic ++ to_be_bytes w64 1) (bytes_eq-Decides start (magic ++ to_be_bytes w64 1)) begins)
    ∙ ap (λ (l : List ℕ). (magic ++ to_be_bytes w64 1) ++ l) (sym back_is ∙ is)

-- ---- the side

-- what stands behind the length of a frame
behind_front : (bytes payload : List ℕ) (gate : ℕ) (frame : HasFrame bytes gate payload) → drop 5 bytes ≡ payload ++ frame.next ∷ frame.rest
unfolding framed
behind_front bytes payload gate frame = ap (λ (l : List ℕ). drop 5 l) frame.bytes_are

-- the header with which a side begins
pub record Names (bytes : List ℕ) (size : ℕ) : Type 0 where
  pub map_size : ℕ
  pub plan_size : ℕ
  pub laid : IsLaidOut (drop 5 bytes) map_size plan_size
  pub size_is : size ≡ 22 + map_size + plan_size
  pub map_short : map_size < 2 ^ 32
  pub plan_short : plan_size < 2 ^ 32
  pub within : 6 + size ≤ length bytes

pub names : (bytes : List ℕ) (front : Front) → IsFront bytes 0 front → BeginsWithHeader bytes → Names bytes front.size
names bytes front is has =
    let gate = has.0 in
    let payload = has.1 in
    let h = has.3.0 in
    let size = frame_size bytes payload 0 gate front is has.2 in
    record {
      map_size = length h.map;
      plan_size = length h.plan;
      laid = header_laid (drop 5 bytes) payload (has.2.next ∷ has.2.rest) h (behind_front bytes payload gate has.2) has.3.1;
      size_is = size.size ∙ header_long payload h has.3.1;
      map_short = has.3.1.map;
      plan_short = has.3.1.plan;
      within = omega (arith, size.size, size.within);
    }

-- its first bytes
pub names_head : (bytes room head : List ℕ) (size n : ℕ) (named : Names bytes size) → Reads bytes 5 n room head → length room ≡ 17 → head ≡ header_start named.map_size
names_head bytes room head size n named reads long =
    read_whole bytes room head 5 n reads (omega (arith, named.within, named.size_is, long))
    ∙ ap (λ (k : ℕ). take k (drop 5 bytes)) long ∙ laid_head (drop 5 bytes) named.map_size named.plan_size named.laid

-- the fields of a header that the side begins with
module _ (bytes room head plan : List ℕ) (size m n2 : ℕ) (named : Names bytes size) (m_short : m < 2 ^ 32) (is_head : head ≡ header_start m) where
  same_map : (n : ℕ) (head_room : List ℕ) → Reads bytes 5 n head_room head → length head_room ≡ 17 → m ≡ named.map_size
  same_map n head_room reads long = start_one m named.map_size m_short named.map_short (sym is_head ∙ names_head bytes head_room head size n named reads long)

  pub names_size : (n : ℕ) (head_room : List ℕ) → Reads bytes 5 n head_room head → length head_room ≡ 17 → Reads bytes (22 + m) n2 room plan → length room ≡ 4 → (p : ℕ) → plan ≡ to_be_bytes w32 p → p < 2 ^ 32 → size ≡ 22 + m + p
  names_size n head_room reads long reads_size four_long p is_p p_short =
      let map_is = same_map n head_room reads long in
      let plan_is : plan ≡ to_be_bytes w32 named.plan_size =
      read_whole bytes room plan (22 + m) n2 reads_size (omega (arith, named.within, named.size_is, map_is, four_long))
      ∙ ap (λ (k : ℕ). take k (drop (22 + m) bytes)) four_long
      ∙ ap (λ (l : List ℕ). take 4 l) (ap (λ (k : ℕ). drop k bytes) (omega (arith, map_is)) ∙ sym (drop-drop (17 + named.map_size) 5 bytes))
      ∙ laid_size (drop 5 bytes) named.map_size named.plan_size named.laid in
      let value : p ≡ named.plan_size = size_one p named.plan_size p_short named.plan_short (sym is_p ∙ plan_is) in
      omega (arith, named.size_is, map_is, value)

pub names_tag : (bytes room tag : List ℕ) (size n : ℕ) → Names bytes size → Reads bytes (4 + size) n room tag → length room ≡ 1 → get_or tag 0 0 ≡ 0
names_tag bytes room tag size n named reads long =
    ap (λ (l : List ℕ). get_or l 0 0) (read_whole bytes room tag (4 + size) n reads (omega (arith, named.within, long))
    ∙ ap (λ (k : ℕ). take k (drop (4 + size) bytes)) long
    ∙ ap (λ (l : List ℕ). take 1 l) (ap (λ (k : ℕ). drop k bytes) (omega (arith, named.size_is)) ∙ sym (drop-drop (21 + named.map_size + named.plan_size) 5 bytes))
    ∙ laid_tag (drop 5 bytes) named.map_size named.plan_size named.laid)

one_zero : (xs : List ℕ) → length xs ≡ 1 → get_or xs 0 0 ≡ 0 → xs ≡ 0 ∷ []
one_zero [] long is = absurd (omega (arith, long))
one_zero (x ∷ []) long is = ap (λ (y : ℕ). y ∷ []) is
one_zero (x ∷ y ∷ xs) long is = absurd (omega (arith, long))

-- where the fields say that a header stands there
pub begins : (bytes head plan tag : List ℕ) (front : Front) (m p : ℕ) → IsFront bytes 0 front → 6 + front.size ≤ front.end → front.size ≡ 22 + m + p
    → (n : ℕ) (room : List ℕ) → Reads bytes 5 n room head → length room ≡ 17 → head ≡ header_start m → m < 2 ^ 32
    → (n2 : ℕ) (room2 : List ℕ) → Reads bytes (22 + m) n2 room2 plan → length room2 ≡ 4 → plan ≡ to_be_bytes w32 p → p < 2 ^ 32
    → (n3 : ℕ) (room3 : List ℕ) → Reads bytes (4 + front.size) n3 room3 tag → length room3 ≡ 1 → length tag ≡ 1 → get_or tag 0 0 ≡ 0 → BeginsWithHeader bytes
begins bytes head plan tag front m p is whole size_is n room reads long head_is m_short n2 room2 reads2 long2 plan_is p_short n3 room3 reads3 long3 tag_long tag_zero =
    let q = drop 5 bytes in
    let enough : 28 + m + p ≤ length bytes = omega (arith, is.end, whole, size_is) in
    let head_at : take 17 q ≡ header_start m = sym (read_whole bytes room head 5 n reads (omega (arith, enough, long)) ∙ ap (λ (k : ℕ). take k q) long) ∙ head_is in
    let size_at : take 4 (drop (17 + m) q) ≡ to_be_bytes w32 p =
    ap (λ (l : List ℕ). take 4 l) (drop-drop (17 + m) 5 bytes ∙ ap (λ (k : ℕ). drop k bytes) (omega arith))
    ∙ sym (read_whole bytes room2 plan (22 + m) n2 reads2 (omega (arith, enough, long2)) ∙ ap (λ (k : ℕ). take k (drop (22 + m) bytes)) long2) ∙ plan_is in
    let tag_at : take 1 (drop (21 + m + p) q) ≡ 0 ∷ [] =
    ap (λ (l : List ℕ). take 1 l) (drop-drop (21 + m + p) 5 bytes ∙ ap (λ (k : ℕ). drop k bytes) (omega (arith, size_is)))
    ∙ sym (read_whole bytes room3 tag (4 + front.size) n3 reads3 (omega (arith, is.end, whole, long3)) ∙ ap (λ (k : ℕ). take k (drop (4 + front.size) bytes)) long3) ∙ one_zero tag tag_long tag_zero in
    let laid = laid_out q m p (omega (arith, enough, length-drop 5 bytes)) head_at size_at tag_at in
    (get_or bytes 0 0, take front.size q, frame_is bytes (take front.size q) 0 front is (omega (arith, whole)) refl, subst (λ (k : ℕ). IsHeaderPayload (take k q)) (sym size_is) (laid_header q m p laid m_short p_short))

-- a header behind an open gate
pub begins_live : (bytes : List ℕ) (front : Front) → IsFront bytes 0 front → front.gate ≢ 0 → BeginsWithHeader bytes → IsLive bytes
begins_live bytes front is is_open has = (
  has.1,
  record {
    gate = has.0;
    is_open = λ shut. is_open (is.gate ∙ ap (λ (l : List ℕ). get_or l 0 0) has.2.bytes_are ∙ shut);
    frame = has.2;
    grammar = has.3;
  },
)

pub live_begins : (bytes : List ℕ) → IsLive bytes → BeginsWithHeader bytes
live_begins bytes live = (live.1.gate, live.0, live.1.frame, live.1.grammar)

-- ---- entries

pairs_long : (qs : List PairId) → length (pair_bytes qs) ≡ 4 * length qs
pairs_long [] = refl
pairs_long (q ∷ qs) = omega (arith, ap length (flat_map-cons (λ (r : PairId). to_be_bytes w32 r.0) q qs), length-append (to_be_bytes w32 q.0) (pair_bytes qs), pairs_long qs)

-- the count of pairs in a long payload of an entry
long_entry : (payload rest : List ℕ) (entry : Accepted) → IsEntry payload entry → 2 ^ 16 < length payload → (take 4 (drop 21 (payload ++ rest)) ≡ to_be_bytes w32 (length entry.switched)) × (length payload ≡ 25 + 4 * length entry.switched)
unfolding entry_payload
long_entry payload rest entry is long = by_kind entry.report is.payload_is
  where
    by_kind : (report : Report) → payload ≡ entry_payload report entry.switched → (take 4 (drop 21 (payload ++ rest)) ≡ to_be_bytes w32 (length entry.switched)) × (length payload ≡ 25 + 4 * length entry.switched)
    by_kind (Arrive robot index tick) same = absurd (let short : length payload ≡ 17 = ap length same in omega (arith, short, long))
    by_kind (Delay robot index extra tick) same = (
      ap (λ (l : List ℕ). take 4 (drop 21 (l ++ rest))) same,
      omega (arith, ap length same, pairs_long entry.switched),
    )

-- the four bytes of the count of pairs of what stands behind a front
count_at : (bytes room count : List ℕ) (place n gate : ℕ) (front : Front) (is : IsFront bytes place front) (payload : List ℕ) (frame : HasFrame (drop place bytes) gate payload) → 2 ^ 16 < front.size
    → Reads bytes (place + 26) n room count → length room ≡ 4 → count ≡ take 4 (drop 21 (payload ++ frame.next ∷ frame.rest))
count_at bytes room count place n gate front is payload frame long reads four_long =
    let size = frame_size bytes payload place gate front is frame in
    read_whole bytes room count (place + 26) n reads (omega (arith, size.size, size.within, long, four_long))
    ∙ ap (λ (k : ℕ). take k (drop (place + 26) bytes)) four_long
    ∙ ap (λ (l : List ℕ). take 4 l) (sym (drop-drop 26 place bytes) ∙ sym (drop-drop 21 5 (drop place bytes))
    ∙ ap (λ (l : List ℕ). drop 21 l) (behind_front (drop place bytes) payload gate frame))

pub no_entry : (bytes room count : List ℕ) (place n : ℕ) (front : Front) → IsFront bytes place front → 2 ^ 16 < front.size → Reads bytes (place + 26) n room count → length room ≡ 4
    → (number : ℕ) → count ≡ to_be_bytes w32 number → number < 2 ^ 32 → 25 + 4 * number ≢ front.size → (gate : ℕ) (payload : List ℕ) → IsEntryPayload payload → ¬ HasFrame (drop place bytes) gate payload
no_entry bytes room count place n front is long reads four_long number count_is short other gate payload entry frame =
    let size = frame_size bytes payload place gate front is frame in
    let said = long_entry payload (frame.next ∷ frame.rest) entry.0 entry.1 (omega (arith, size.size, long)) in
    let same : number ≡ length entry.0.switched = size_one number (length entry.0.switched) short entry.1.few (sym count_is ∙ count_at bytes room count place n gate front is payload frame long reads four_long ∙ said.0) in
    other (omega (arith, same, said.1, size.size))

-- the frame that stands at a place, where the side is long enough
pub frame_there : (bytes : List ℕ) (place : ℕ) (front : Front) → IsFront bytes place front → 6 + front.size ≤ front.end - place → HasFrame (drop place bytes) (get_or (drop place bytes) 0 0) (take front.size (drop (place + 5) bytes))
frame_there bytes place front is long = frame_is bytes (take front.size (drop (place + 5) bytes)) place front is long refl

pub short_measured : (bytes : List ℕ) (place : ℕ) (front : Front) → IsFront bytes place front → 6 + front.size ≤ front.end - place → front.size ≤ 2 ^ 16 → HasMeasuredFrame (drop place bytes)
short_measured bytes place front is long short =
    let frame = frame_there bytes place front is long in
    let size = frame_size bytes (take front.size (drop (place + 5) bytes)) place (get_or (drop place bytes) 0 0) front is frame in
    (get_or (drop place bytes) 0 0, take front.size (drop (place + 5) bytes), frame, inl (omega (arith, size.size, short)))

pub count_measured : (bytes room count : List ℕ) (place n : ℕ) (front : Front) → IsFront bytes place front → 6 + front.size ≤ front.end - place → 2 ^ 16 < front.size → Reads bytes (place + 26) n room count → length room ≡ 4
    → (number : ℕ) → count ≡ to_be_bytes w32 number → number < 2 ^ 32 → 25 + 4 * number ≡ front.size → HasMeasuredFrame (drop place bytes)
count_measured bytes room count place n front is long not_short reads four_long number count_is short same =
    let gate = get_or (drop place bytes) 0 0 in
    let payload = take front.size (drop (place + 5) bytes) in
    let frame = frame_there bytes place front is long in
    let size = frame_size bytes payload place gate front is frame in
    let rest = frame.next ∷ frame.rest in
    let there : take 4 (drop 21 payload) ≡ to_be_bytes w32 number =
    sym (take-append-le 4 (drop 21 payload) rest (omega (arith, length-drop 21 payload, size.size, not_short)))
    ∙ ap (λ (l : List ℕ). take 4 l) (sym (drop-append-le 21 payload rest (omega (arith, size.size, not_short))))
    ∙ sym (count_at bytes room count place n gate front is payload frame not_short reads four_long) ∙ count_is in
    let value : from_be_bytes w32 (take 4 (drop 21 payload)) ≡ number = ap (from_be_bytes w32) there ∙ from_be_bytes-to_be_bytes_4 number short in
    (gate, payload, frame, inr (omega (arith, size.size, same, value)))
