-- What writes behind a byte, and over it, leave of a side.
use Rattle.std.proofs.Common.{◌≡◌, ℕ, ◌+◌, List, [], ◌∷◌, ◌++◌, length, get_or, take, drop, sym, ◌∙◌, ap, arith, append_assoc, length-append, take-append-drop}
use Rattle.std.proofs.lemmas.List.{take_at, drop_at, drop_more, length-drop}
use Rattle.station_api.specs.Disk.{written, Torn}

-- bytes in front, one byte at the place, and a rest
pub record HasByte (front : List ℕ) (bytes : List ℕ) : Type 0 where
  pub byte : ℕ
  pub rest : List ℕ
  pub bytes_are : bytes ≡ front ++ byte ∷ rest

-- bytes that end with one byte at a place are one longer
pub ends_there : (bytes : List ℕ) (place : ℕ) → drop place bytes ≡ 0 ∷ [] → length bytes ≡ place + 1
ends_there bytes place is = omega (arith, ap length is, length-drop place bytes)

module _ (front : List ℕ) (byte : ℕ) (rest : List ℕ) (place : ℕ) (at_place : place ≡ length front) where
  regroup : front ++ byte ∷ rest ≡ (front ++ byte ∷ []) ++ rest
  regroup = sym (append_assoc front (byte ∷ []) rest)

  long : length (front ++ byte ∷ []) ≡ place + 1
  long = omega (arith, length-append front (byte ∷ []))

  take_place : take place (front ++ byte ∷ rest) ≡ front
  take_place = take_at front (byte ∷ rest) place (sym at_place)

  pub take_more : take (place + 1) (front ++ byte ∷ rest) ≡ front ++ byte ∷ []
  take_more = ap (λ (l : List ℕ). take (place + 1) l) regroup ∙ take_at (front ++ byte ∷ []) rest (place + 1) long

  drop_more_place : drop (place + 1) (front ++ byte ∷ rest) ≡ rest
  drop_more_place = ap (λ (l : List ℕ). drop (place + 1) l) regroup ∙ drop_at (front ++ byte ∷ []) rest (place + 1) long

  pub length-whole : length (front ++ byte ∷ rest) ≡ place + 1 + length rest
  length-whole = omega (arith, length-append front (byte ∷ rest))

  -- where nothing up to the byte has changed, the byte stands
  pub kept_before : (c : List ℕ) → take (place + 1) c ≡ take (place + 1) (front ++ byte ∷ rest) → c ≡ front ++ byte ∷ drop (place + 1) c
  kept_before c same =
      sym (take-append-drop (place + 1) c) ∙ ap (λ (l : List ℕ). l ++ drop (place + 1) c) (same ∙ take_more) ∙ append_assoc front (byte ∷ []) (drop (place + 1) c)

  -- whatever a write behind the byte leaves, the byte stands
  pub torn_behind : (n : ℕ) (c : List ℕ) → Torn (place + 1) n (front ++ byte ∷ rest) c → c ≡ front ++ byte ∷ drop (place + 1) c
  torn_behind n c torn = kept_before c torn.before

  -- whatever a write of the byte leaves, all else stands
  pub torn_at : (c : List ℕ) → Torn place 1 (front ++ byte ∷ rest) c → c ≡ front ++ get_or c place 0 ∷ rest
  torn_at c torn =
      let back : drop place c ≡ get_or c place 0 ∷ rest =
      drop_more c place 0 (omega (arith, torn.no_shorter, length-whole)) ∙ ap (λ (l : List ℕ). get_or c place 0 ∷ l) (torn.after ∙ drop_more_place) in
      sym (take-append-drop place c) ∙ ap (λ (l : List ℕ). l ++ drop place c) (torn.before ∙ take_place) ∙ ap (λ (l : List ℕ). front ++ l) back

  pub written_behind : (bytes : List ℕ) → written (place + 1) bytes (front ++ byte ∷ rest) ≡ front ++ byte ∷ (bytes ++ drop (place + 1 + length bytes) (front ++ byte ∷ rest))
  written_behind bytes =
      ap (λ (l : List ℕ). l ++ bytes ++ drop (place + 1 + length bytes) (front ++ byte ∷ rest)) take_more
      ∙ append_assoc (front ++ byte ∷ []) bytes (drop (place + 1 + length bytes) (front ++ byte ∷ rest))
      ∙ append_assoc front (byte ∷ []) (bytes ++ drop (place + 1 + length bytes) (front ++ byte ∷ rest))

  pub written_at : (new : ℕ) → written place (new ∷ []) (front ++ byte ∷ rest) ≡ front ++ new ∷ rest
  written_at new =
      ap (λ (l : List ℕ). l ++ (new ∷ []) ++ drop (place + 1) (front ++ byte ∷ rest)) take_place
      ∙ ap (λ (l : List ℕ). front ++ (new ∷ []) ++ l) drop_more_place
      ∙ append_assoc front (new ∷ []) rest

  -- a byte and what stands behind it, written at once
  pub written_over : (new : ℕ) (bytes : List ℕ) → written place (new ∷ bytes) (front ++ byte ∷ rest) ≡ front ++ new ∷ (bytes ++ drop (place + 1 + length bytes) (front ++ byte ∷ rest))
  written_over new bytes =
      ap (λ (l : List ℕ). l ++ (new ∷ bytes) ++ drop (place + length (new ∷ bytes)) (front ++ byte ∷ rest)) take_place
      ∙ ap (λ (k : ℕ). front ++ (new ∷ bytes) ++ drop k (front ++ byte ∷ rest)) (omega arith)
      ∙ append_assoc front (new ∷ bytes) (drop (place + 1 + length bytes) (front ++ byte ∷ rest))
