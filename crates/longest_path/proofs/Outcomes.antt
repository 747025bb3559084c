-- What follows from the clauses on an answer.
use Rattle.std.proofs.Common.{◌≡◌, true, refl}
use Rattle.std.specs.Prelude.{Result, Ok, Err, IsOk, IsErr, OnOk, IfOk}
use Rattle.std.specs.Result.{is_err}

-- what holds of every answer but an error holds where there is none
pub where_ok : {A E : Type 0} (P : Type 0) (r : Result A E) → (IsErr r → ⊥) → OnOk r P → P
where_ok P (Ok a) never h = h
where_ok P (Err e) never h = absurd (never refl)

-- two facts of an answer give a third
pub both_ok : {A E : Type 0} (P Q R : A → Type 0) → ((a : A) → P a → Q a → R a) → (r : Result A E) → IfOk r P → IfOk r Q → IfOk r R
both_ok P Q R f (Ok a) p q = f a p q
both_ok P Q R f (Err e) p q = q

-- an answer is not both
pub never_both : {A E : Type 0} (r : Result A E) → IsOk r → is_err r ≡ true → ⊥
never_both (Ok a) o e = cc
never_both (Err x) o e = cc
