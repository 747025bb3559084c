-- What single calls leave of a side that is cleared.
use Rattle.std.proofs.Common.{◌≡◌, ◌≢◌, inl, inr, ⊎_elim, ℕ, ◌+◌, ◌≤◌, List, [], ◌∷◌, ◌++◌, length, get_or, take, drop, refl, sym, ◌∙◌, ap, subst, arith}
use Rattle.std.proofs.lemmas.List.{append-nil, drop_all}
use Rattle.std.proofs.lemmas.Bool.{cases_eq}
use Rattle.station_api.specs.Disk.{Torn, Shortened, Reads, written}
use Rattle.journal_frame.specs.Frames.{IsBlank}
use Rattle.fleet_journal.specs.Sides.{IsClean}
use Rattle.fleet_journal.specs.Clearing.{IsShut, shut_of, IsCleared, ClearsLong, HasGate, GetsText}
use Rattle.fleet_journal.proofs.Bytes.{torn_at, written_at, written_behind}

-- the header gate is open
pub record HasOpenGate (bytes : List ℕ) : Type 0 where
  pub gate : ℕ
  pub rest : List ℕ
  pub is_open : gate ≢ 0
  pub bytes_are : bytes ≡ gate ∷ rest

-- what a read of the first byte says
pub open_gate : (stands filled : List ℕ) (n : ℕ) → Reads stands 0 n (0 ∷ []) filled → n ≢ 0 → get_or filled 0 0 ≢ 0 → HasOpenGate stands
open_gate [] filled n reads some first = absurd (some (omega (arith, reads.count)))
open_gate (byte ∷ rest) filled n reads some first =
    let one : n ≡ 1 = omega (arith, reads.count, some) in
    let same : filled ≡ byte ∷ [] = reads.bytes ∙ ap (λ (k : ℕ). take k (byte ∷ rest) ++ drop k (0 ∷ [])) one in
    record { gate = byte; rest = rest; is_open = λ z. first (ap (λ (l : List ℕ). get_or l 0 0) same ∙ z); bytes_are = refl }

pub torn_cleared : (old new : List ℕ) → HasOpenGate old → Torn 0 1 old new → IsCleared old new
torn_cleared old new has torn =
    inr (inr (has.gate, get_or new 0 0, has.rest, has.is_open, has.bytes_are, torn_at [] has.gate has.rest 0 refl new (subst (λ (l : List ℕ). Torn 0 1 l new) has.bytes_are torn)))

-- what a cut to the closed gate leaves
pub shortened_cleared : (old new : List ℕ) → IsShut old → Shortened 1 old new → IsCleared old new
shortened_cleared old [] is cut = inr (inl tt)
shortened_cleared old (x ∷ []) is cut = inr (inl tt)
shortened_cleared [] (x ∷ y ∷ new) is cut = absurd (cc cut.before)
shortened_cleared (z ∷ old) (x ∷ y ∷ new) is cut = let same : x ≡ z = cc cut.before in inr (inl (same ∙ is))

pub torn_empty : (old new : List ℕ) → length old ≤ 0 → Torn 0 1 old new → IsCleared old new
torn_empty old [] short torn = inr (inl tt)
torn_empty old (x ∷ []) short torn = inr (inl tt)
torn_empty old (x ∷ y ∷ new) short torn = absurd (omega (arith, torn.no_longer))

-- a closed gate stays, whatever a write behind it leaves
pub torn_text : (text old new : List ℕ) → old ≡ 0 ∷ [] → Torn 1 (length text) old new → IsBlank new
torn_text text old [] is torn = tt
torn_text text old (x ∷ []) is torn = tt
torn_text text old (x ∷ y ∷ new) is torn = let same : take 1 (x ∷ y ∷ new) ≡ 0 ∷ [] = torn.before ∙ ap (λ (l : List ℕ). take 1 l) is in cc same

pub written_text : (text old new : List ℕ) → old ≡ 0 ∷ [] → new ≡ written 1 text old → new ≡ 0 ∷ text
written_text text old new is done =
    done ∙ ap (λ (l : List ℕ). written 1 text l) is ∙ written_behind [] 0 [] 0 refl text
    ∙ ap (λ (l : List ℕ). 0 ∷ (text ++ l)) (drop_all (1 + length text) (0 ∷ []) (omega arith)) ∙ ap (λ (l : List ℕ). 0 ∷ l) (append-nil text)

pub torn_header : (text old new : List ℕ) → old ≡ 0 ∷ text → Torn 0 1 old new → GetsText text old new
torn_header text old new is torn =
    let found = torn_at [] 0 text 0 refl new (subst (λ (l : List ℕ). Torn 0 1 l new) is torn) in
    ⊎_elim
    (λ shut. inl (subst IsBlank (sym (found ∙ ap (λ (g : ℕ). g ∷ text) shut)) (shut_blank text)))
    (λ is_open. inr (get_or new 0 0, is_open, found))
    (cases_eq (get_or new 0 0) 0)
  where
    shut_blank : (l : List ℕ) → IsBlank (0 ∷ l)
    shut_blank [] = tt
    shut_blank (x ∷ l) = refl

pub written_gate : (text old new : List ℕ) → old ≡ 0 ∷ text → new ≡ written 0 (1 ∷ []) old → new ≡ 1 ∷ text
written_gate text old new is done = done ∙ ap (λ (l : List ℕ). written 0 (1 ∷ []) l) is ∙ written_at [] 0 text 0 refl 1

-- what is cleared of a side whose gate was closed is cleared of the side
pub cleared_shut : (old mid new : List ℕ) → mid ≡ shut_of old → IsCleared mid new → IsCleared old new
cleared_shut old mid new is (inr (inl blank)) = inr (inl blank)
cleared_shut [] mid new is (inl same) = inl (same ∙ is)
cleared_shut (x ∷ []) mid new is (inl same) = inr (inl (subst IsBlank (sym (same ∙ is)) tt))
cleared_shut (x ∷ y ∷ old) mid new is (inl same) = inr (inl (subst IsBlank (sym (same ∙ is)) refl))
cleared_shut [] mid new is (inr (inr gates)) = absurd (cc (is, gates.4))
cleared_shut (x ∷ old) mid new is (inr (inr gates)) = let zero_gate : gates.0 ≡ 0 = cc (is, gates.4) in absurd (gates.3 zero_gate)

pub shut_is_shut : (old new : List ℕ) → new ≡ shut_of old → IsShut new
shut_is_shut [] new is = subst IsShut (sym is) tt
shut_is_shut (x ∷ old) new is = subst IsShut (sym is) refl

-- a clean side is one that clearing may leave
pub clean_cleared : (old new : List ℕ) → IsClean new → IsCleared old new
clean_cleared old new (inl is) = inr (inl (subst IsBlank (sym is) tt))
clean_cleared old new (inr is) = inr (inl (subst IsBlank (sym is) tt))

pub gate_cleared : (old new : List ℕ) → HasGate old new → IsCleared old new
gate_cleared old new is = inr (inl (subst IsBlank (sym is) tt))

pub long_cleared : (old new : List ℕ) → ClearsLong old new → IsCleared old new
long_cleared old new is = is.cleared

-- a clean side has at most one byte
pub clean_short : (bytes : List ℕ) → IsClean bytes → length bytes ≤ 1
clean_short bytes (inl is) = omega (arith, ap length is)
clean_short bytes (inr is) = omega (arith, ap length is)

-- a side with a closed gate that is cut to one byte is clean
pub cut_clean : (old new : List ℕ) → IsShut old → new ≡ take 1 old → IsClean new
cut_clean [] new shut is = inl is
cut_clean (x ∷ old) new shut is = inr (is ∙ ap (λ (b : ℕ). b ∷ []) shut)

-- a cut that was cut short lost nothing before its length
pub shortened_self : (n : ℕ) (old : List ℕ) → Shortened n old old
shortened_self n old = record { before = refl; no_shorter = omega arith; no_longer = omega arith }
