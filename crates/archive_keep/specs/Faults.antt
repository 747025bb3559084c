-- How often a keeper has failed, and what an answer says of it.
use Rattle.std.specs.Prelude.{ℕ, ◌+◌, ◌-◌, ◌^◌, ◌≤◌, min, Result, IsErrOf}
use Rattle.archive_keep.specs.declared.keeper.KeepFault.{KeepFault}
use Rattle.archive_keep.specs.declared.keeper.KeepFault.TheVariants.{Failed}

-- one more, up to the last value of a count
abbrev pub one_more : ℕ → ℕ
one_more count = min (count + 1) (2 ^ 64 - 1)

-- the count rose; at its last value it counts as risen
abbrev pub Rose : ℕ → ℕ → Type 0
Rose before now = one_more before ≤ now

-- the count never falls, and where the keeper failed it rose
pub record HasCause {T : Type 0} (old new : ℕ) (result : Result T KeepFault) : Type 0 where
  pub later : old ≤ new
  pub failed : IsErrOf result Failed → Rose old new
