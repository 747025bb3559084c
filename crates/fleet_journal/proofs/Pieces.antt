-- What is read in pieces is the frame.
use Rattle.std.proofs.Common.{◌≡◌, ℕ, zero, suc, ◌+◌, ◌-◌, ◌<◌, ◌≤◌, List, [], ◌∷◌, ◌++◌, length, get_or, take, drop, refl, sym, ◌∙◌, ap, arith, inl, inr, append_assoc, length-append, take-append-drop}
use Rattle.std.specs.Int.{w32, to_be_bytes, from_be_bytes}
use Rattle.std.proofs.lemmas.Bool.{cases_lt}
use Rattle.std.proofs.lemmas.List.{drop_more, drop-drop, get_or-drop, get_or-take, get_or-append_right, get_or_append_left, get_or_past, length-take, length-drop, take_at, drop_all, append-nil}
use Rattle.std.proofs.lemmas.Nat.{be_bytes_4, from_be_bytes-to_be_bytes_4}
use Rattle.station_api.specs.Disk.{Reads}
use Rattle.journal_frame.specs.Frames.{framed, HasFrame}
use Rattle.fleet_journal.specs.Reading.{IsFront, SaysFront}
use Rattle.fleet_journal.specs.declared.reading.Front.{Front}

-- the room for a front
abbrev pub room : List ℕ
room = 0 ∷ 0 ∷ 0 ∷ 0 ∷ 0 ∷ []

room_zero : (i : ℕ) → get_or room i 0 ≡ 0
room_zero zero = refl
room_zero (suc zero) = refl
room_zero (suc (suc zero)) = refl
room_zero (suc (suc (suc zero))) = refl
room_zero (suc (suc (suc (suc zero)))) = refl
room_zero (suc (suc (suc (suc (suc i))))) = refl

-- each byte that was read stands there, and past the end there is 0
pub read_byte : (bytes filled : List ℕ) (place n i : ℕ) → Reads bytes place n room filled → i < 5 → get_or filled i 0 ≡ get_or (drop place bytes) i 0
read_byte bytes filled place n i reads lt =
    let len : length (take n (drop place bytes)) ≡ n = omega (arith, length-take n (drop place bytes), length-drop place bytes, reads.count) in
    ap (λ (l : List ℕ). get_or l i 0) reads.bytes
    ∙ elim (cases_lt i n) [
      | inl below ↦ get_or_append_left (take n (drop place bytes)) (drop n room) 0 i (omega (arith, len, below)) ∙ get_or-take n (drop place bytes) i 0 below
      | inr above ↦ get_or-append_right (take n (drop place bytes)) (drop n room) n i 0 len above ∙ get_or-drop n room (i - n) 0 ∙ room_zero (n + (i - n))
          ∙ sym (get_or_past (drop place bytes) i 0 (omega (arith, reads.count, length-drop place bytes, above, lt)))
    ]

-- four items are these
four : (xs : List ℕ) → 4 ≤ length xs → take 4 xs ≡ get_or xs 0 0 ∷ get_or xs 1 0 ∷ get_or xs 2 0 ∷ get_or xs 3 0 ∷ []
four [] long = absurd (omega (arith, long))
four (a ∷ []) long = absurd (omega (arith, long))
four (a ∷ b ∷ []) long = absurd (omega (arith, long))
four (a ∷ b ∷ c ∷ []) long = absurd (omega (arith, long))
four (a ∷ b ∷ c ∷ d ∷ xs) long = refl

byte_behind : (bytes filled : List ℕ) (place n i : ℕ) → Reads bytes place n room filled → i < 4 → get_or (drop (place + 1) bytes) i 0 ≡ get_or filled (1 + i) 0
byte_behind bytes filled place n i reads lt =
    get_or-drop (place + 1) bytes i 0 ∙ ap (λ (k : ℕ). get_or bytes k 0) (omega arith) ∙ sym (get_or-drop place bytes (1 + i) 0) ∙ sym (read_byte bytes filled place n (1 + i) reads (omega (arith, lt)))

-- the four bytes of a length
abbrev pub length_bytes : List ℕ → List ℕ
length_bytes five = get_or five 1 0 ∷ get_or five 2 0 ∷ get_or five 3 0 ∷ get_or five 4 0 ∷ []

four_of_five : (five : List ℕ) → length five ≡ 5 → take 4 (drop 1 five) ≡ length_bytes five
four_of_five five long =
    let a = get_or-drop 1 five 0 0 in
    let b = get_or-drop 1 five 1 0 in
    let c = get_or-drop 1 five 2 0 in
    let d = get_or-drop 1 five 3 0 in
    four (drop 1 five) (omega (arith, long, length-drop 1 five)) ∙ (λ i. a i ∷ b i ∷ c i ∷ d i ∷ [])

-- what five bytes say
pub says : (five : List ℕ) (size end : ℕ) → length five ≡ 5 → ((i : ℕ) → get_or five i 0 < 256) → size ≡ from_be_bytes w32 (length_bytes five) → SaysFront five end (record { gate = get_or five 0 0; size = size; end = end })
says five size end long are_bytes is_size = record {
  gate = refl;
  size = four_of_five five long ∙ sym (be_bytes_4 (length_bytes five) size refl each is_size);
  short = omega (arith, is_size, are_bytes 1, are_bytes 2, are_bytes 3, are_bytes 4);
  end_is = refl;
}
  where
    each : (i : ℕ) → get_or (length_bytes five) i 0 < 256
    each zero = are_bytes 1
    each (suc zero) = are_bytes 2
    each (suc (suc zero)) = are_bytes 3
    each (suc (suc (suc zero))) = are_bytes 4
    each (suc (suc (suc (suc i)))) = omega arith

behind_four : (bytes filled : List ℕ) (place n : ℕ) → Reads bytes place n room filled → length filled ≡ 5 → place + 5 ≤ length bytes → take 4 (drop (place + 1) bytes) ≡ take 4 (drop 1 filled)
behind_four bytes filled place n reads five long =
    let a = byte_behind bytes filled place n 0 reads (omega arith) in
    let b = byte_behind bytes filled place n 1 reads (omega arith) in
    let c = byte_behind bytes filled place n 2 reads (omega arith) in
    let d = byte_behind bytes filled place n 3 reads (omega arith) in
    four (drop (place + 1) bytes) (omega (arith, long, length-drop (place + 1) bytes)) ∙ (λ i. a i ∷ b i ∷ c i ∷ d i ∷ []) ∙ sym (four_of_five filled five)

pub front_is : (bytes filled : List ℕ) (place n end : ℕ) (front : Front) → Reads bytes place n room filled → length filled ≡ 5 → SaysFront filled end front → end ≡ length bytes → IsFront bytes place front
front_is bytes filled place n end front reads five said is_end = record {
  gate = said.gate ∙ read_byte bytes filled place n 0 reads (omega arith);
  size = λ long. behind_four bytes filled place n reads five long ∙ said.size;
  short = said.short;
  end = said.end_is ∙ is_end;
}

-- a whole frame has the length that its front says, and ends within the side
pub record HasSize (bytes : List ℕ) (place : ℕ) (front : Front) (payload : List ℕ) : Type 0 where
  pub size : front.size ≡ length payload
  pub within : place + 6 + length payload ≤ length bytes

pub frame_size : (bytes payload : List ℕ) (place gate : ℕ) (front : Front) → IsFront bytes place front → HasFrame (drop place bytes) gate payload → HasSize bytes place front payload
unfolding framed
frame_size bytes payload place gate front is frame =
    let tail = payload ++ frame.next ∷ frame.rest in
    let whole : drop place bytes ≡ gate ∷ (to_be_bytes w32 (length payload) ++ tail) = frame.bytes_are ∙ ap (λ (l : List ℕ). gate ∷ l) (append_assoc (to_be_bytes w32 (length payload)) payload (frame.next ∷ frame.rest)) in
    let long : length (drop place bytes) ≡ 6 + length payload + length frame.rest = omega (arith, ap length whole, length-append (to_be_bytes w32 (length payload)) tail, length-append payload (frame.next ∷ frame.rest)) in
    let fits : place + 6 + length payload ≤ length bytes = omega (arith, long, length-drop place bytes) in
    let next : drop (place + 1) bytes ≡ to_be_bytes w32 (length payload) ++ tail = sym (drop-drop 1 place bytes) ∙ ap (λ (l : List ℕ). drop 1 l) whole in
    let four_are : to_be_bytes w32 front.size ≡ to_be_bytes w32 (length payload) = sym (is.size (omega (arith, fits))) ∙ ap (λ (l : List ℕ). take 4 l) next in
    record {
      size = sym (from_be_bytes-to_be_bytes_4 front.size is.short) ∙ ap (from_be_bytes w32) four_are ∙ from_be_bytes-to_be_bytes_4 (length payload) frame.fits;
      within = fits;
    }

-- where a side ends too early, no whole frame stands
pub no_frame : (bytes payload : List ℕ) (place gate : ℕ) (front : Front) → IsFront bytes place front → front.end - place < 6 + front.size → ¬ HasFrame (drop place bytes) gate payload
no_frame bytes payload place gate front is short frame = let has = frame_size bytes payload place gate front is frame in omega (arith, short, has.size, has.within, is.end)

-- what was read behind a front is the payload of a whole frame
pub frame_is : (bytes payload : List ℕ) (place : ℕ) (front : Front) → IsFront bytes place front → 6 + front.size ≤ front.end - place → payload ≡ take front.size (drop (place + 5) bytes) → HasFrame (drop place bytes) (get_or (drop place bytes) 0 0) payload
unfolding framed
frame_is bytes payload place front is long was_read =
    let b = drop place bytes in
    let enough : place + 6 + front.size ≤ length bytes = omega (arith, is.end, long) in
    let len : length payload ≡ front.size = omega (arith, ap length was_read, length-take front.size (drop (place + 5) bytes), length-drop (place + 5) bytes, enough) in
    let last : ℕ = get_or (drop (place + 5) bytes) front.size 0 in
    let rest : List ℕ = drop (front.size + 1) (drop (place + 5) bytes) in
    let split_payload : drop (place + 5) bytes ≡ payload ++ last ∷ rest =
    sym (take-append-drop front.size (drop (place + 5) bytes)) ∙ ap (λ (l : List ℕ). l ++ drop front.size (drop (place + 5) bytes)) (sym was_read)
    ∙ ap (λ (l : List ℕ). payload ++ l) (drop_more (drop (place + 5) bytes) front.size 0 (omega (arith, length-drop (place + 5) bytes, enough))) in
    let behind_length : drop 4 (drop (place + 1) bytes) ≡ drop (place + 5) bytes = drop-drop 4 (place + 1) bytes ∙ ap (λ (k : ℕ). drop k bytes) (omega arith) in
    let sizes : to_be_bytes w32 front.size ≡ to_be_bytes w32 (length payload) = ap (to_be_bytes w32) (sym len) in
    let split_length : drop (place + 1) bytes ≡ to_be_bytes w32 (length payload) ++ (payload ++ last ∷ rest) =
    sym (take-append-drop 4 (drop (place + 1) bytes)) ∙ ap (λ (l : List ℕ). l ++ drop 4 (drop (place + 1) bytes)) (is.size (omega (arith, enough)) ∙ sizes)
    ∙ ap (λ (l : List ℕ). to_be_bytes w32 (length payload) ++ l) (behind_length ∙ split_payload) in
    let split_gate : b ≡ get_or b 0 0 ∷ drop (0 + 1) b = drop_more b 0 0 (omega (arith, length-drop place bytes, enough)) in
    record {
      next = last;
      rest = rest;
      fits = omega (arith, len, is.short);
      bytes_are = split_gate ∙ ap (λ (l : List ℕ). get_or b 0 0 ∷ l) (drop-drop 1 place bytes ∙ split_length ∙ sym (append_assoc (to_be_bytes w32 (length payload)) payload (last ∷ rest)));
    }

-- a room that was filled holds the bytes that stand there
pub filled_is : (bytes was filled behind : List ℕ) (place n size len : ℕ) → Reads bytes place n was filled → length was ≡ size → len ≡ size → len ≤ n → take len (filled ++ behind) ≡ take size (drop place bytes)
filled_is bytes was filled behind place n size len reads was_long is_len enough =
    let all : n ≡ size = omega (arith, reads.count, was_long, is_len, enough) in
    let nothing : drop n was ≡ [] = drop_all n was (omega (arith, all, was_long)) in
    let is : filled ≡ take size (drop place bytes) = reads.bytes ∙ ap (λ (l : List ℕ). take n (drop place bytes) ++ l) nothing ∙ append-nil (take n (drop place bytes)) ∙ ap (λ (k : ℕ). take k (drop place bytes)) all in
    let long : length filled ≡ len = omega (arith, ap length is, length-take size (drop place bytes), length-drop place bytes, reads.count, all, is_len) in
    take_at filled behind len long ∙ is
