-- Reading pairs one after the other, as a loop does.
use Rattle.std.proofs.Common.{◌≡◌, ℕ, suc, ◌-◌, ◌+◌, ◌≤◌, ◌<◌, List, [], ◌∷◌, ◌++◌, Option, Some, None, refl, sym, ap, ◌∙◌, append_assoc, arith}
use Rattle.std.specs.Int.{w32}
use Rattle.std.proofs.lemmas.List.{append-nil}
use Rattle.fleet_base.specs.declared.order.PairId.{PairId}
use Rattle.journal_frame.specs.declared.error.FrameError.{FrameError}
use Rattle.journal_frame.specs.declared.error.FrameError.TheVariants.{NotInGrammar, Memory}
use Rattle.journal_frame.specs.Reading.{◌>>=◌, Refuses, number_at, pairs_at}

-- what was read before, and what is still read
abbrev pub with_front : List PairId → Option (List PairId × List ℕ) → Option (List PairId × List ℕ)
with_front front read = read >>= λ x. Some (front ++ x.0, x.1)

regroup : (front : List PairId) (q : PairId) (read : Option (List PairId × List ℕ)) → with_front front (read >>= λ x. Some (q ∷ x.0, x.1)) ≡ with_front (front ++ q ∷ []) read
regroup front q (Some x) = ap (λ (qs : List PairId). Some (qs, x.1)) (simp append_assoc)
regroup front q None = refl

pub goes_on : (front : List PairId) (count i : ℕ) (bytes : List ℕ) (n : ℕ) (after : List ℕ) (total : Option (List PairId × List ℕ)) → i < count → number_at w32 bytes ≡ Some (n, after)
    → with_front front (pairs_at (count - i) bytes) ≡ total → with_front (front ++ record { 0 = n } ∷ []) (pairs_at (count - (i + 1)) after) ≡ total
unfolding pairs_at
goes_on front count i bytes n after total lt h so_far =
    let k : count - i ≡ suc (count - (i + 1)) = omega arith in
    let one : with_front front (pairs_at (count - i) bytes) ≡ with_front (front ++ record { 0 = n } ∷ []) (pairs_at (count - (i + 1)) after) = rw (k, h) (regroup front (record { 0 = n }) (pairs_at (count - (i + 1)) after)) in
    sym one ∙ so_far

pub ends : (e : FrameError) (front : List PairId) (count i : ℕ) (bytes : List ℕ) (total : Option (List PairId × List ℕ)) → i < count → Refuses e (number_at w32 bytes)
    → with_front front (pairs_at (count - i) bytes) ≡ total → Refuses e total
unfolding pairs_at
ends Memory front count i bytes total lt h so_far = tt
ends NotInGrammar front count i bytes total lt h so_far =
    let k : count - i ≡ suc (count - (i + 1)) = omega arith in
    let one : with_front front (pairs_at (count - i) bytes) ≡ None = rw (k, h) refl in
    sym so_far ∙ one

pub is_done : (front : List PairId) (count i : ℕ) (bytes : List ℕ) (total : Option (List PairId × List ℕ)) → count ≤ i → with_front front (pairs_at (count - i) bytes) ≡ total → total ≡ Some (front, bytes)
unfolding pairs_at
is_done front count i bytes total le so_far =
    let k : count - i ≡ 0 = omega arith in
    let one : with_front front (pairs_at (count - i) bytes) ≡ Some (front, bytes) = rw k (ap (λ (qs : List PairId). Some (qs, bytes)) (append-nil front)) in
    sym so_far ∙ one
