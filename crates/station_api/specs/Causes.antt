-- Counts of faults, and what an answer says of them.
use Rattle.std.specs.Prelude.{◌≡◌, ◌⊎◌, ℕ, ◌+◌, ◌-◌, ◌^◌, ◌≤◌, min, Bool, ◌&&◌, ◌==◌, List, length, IsTrue, Result, OnErr}

-- one more, up to the last value of a count
abbrev pub one_more : ℕ → ℕ
one_more count = min (count + 1) (2 ^ 64 - 1)

-- The count rose. At its last value it counts as risen.
abbrev pub Rose : ℕ → ℕ → Type 0
Rose before now = one_more before ≤ now

-- How often an object has failed, how often want of memory was the cause, and whether it fails for no other cause.
pub record Counts : Type 0 where
  pub faults : ℕ
  pub starved : ℕ
  pub flawless : Bool

-- Counts never fall. An object that fails for want of memory alone stays so.
pub record Counted (old new : Counts) : Type 0 where
  pub later : old.faults ≤ new.faults
  pub starved_later : old.starved ≤ new.starved
  pub stays : IsTrue old.flawless → IsTrue new.flawless
  pub starves : IsTrue old.flawless → (new.faults ≡ old.faults) ⊎ Rose old.starved new.starved

-- The count of faults rose, and where the object fails for want of memory alone, that count rose too.
pub record IsToBlame (old new : Counts) : Type 0 where
  pub counted : Counted old new
  pub rose : Rose old.faults new.faults
  pub starved : IsTrue old.flawless → Rose old.starved new.starved

-- a fault is answered only where the object is to blame
pub record HasCause {T E : Type 0} (old new : Counts) (result : Result T E) : Type 0 where
  pub counted : Counted old new
  pub failed : OnErr result (IsToBlame old new)

-- of an object that is set to fail at these of its calls, and otherwise only for want of memory, once it is ready
abbrev pub counts_of : ℕ → ℕ → Bool → List ℕ → Counts
counts_of faults starved ready failing = record { faults = faults; starved = starved; flawless = ready && (length failing == 0) }
