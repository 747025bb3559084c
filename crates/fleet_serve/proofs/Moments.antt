-- How counts and clocks go on from call to call.
use Rattle.std.proofs.Common.{ℕ, ◌⊎◌, ◌≤◌, refl, ◌∙◌, inl, ⊎_elim, arith}
use Rattle.station_api.specs.Causes.{Counts, Counted, Rose, IsToBlame}
use Rattle.station_api.specs.Clock.{Clock}
use Rattle.station_api.specs.Disk.{IsSending}
use Rattle.station_api.proofs.Moments.{passes_self, passes_on}
use Rattle.fleet_recovery.proofs.Passing.{counted_on}

-- a count that rose later rose in the whole, and so did one that rose before
pub rose_later : (a b c : ℕ) → a ≤ b → Rose b c → Rose a c
rose_later a b c le r = omega (arith, le, r)

pub rose_before : (a b c : ℕ) → Rose a b → b ≤ c → Rose a c
rose_before a b c r le = omega (arith, r, le)

-- no call at all
pub counted_self : (a : Counts) → Counted a a
counted_self a = record { later = omega arith; starved_later = omega arith; stays = λ t. t; starves = λ t. inl refl }

-- an object that is to blame for the last call is to blame for the whole
pub blamed_on : (a b c : Counts) → Counted a b → IsToBlame b c → IsToBlame a c
blamed_on a b c x y = record {
  counted = counted_on a b c x y.counted;
  rose = rose_later a.faults b.faults c.faults x.later y.rose;
  starved = λ t. rose_later a.starved b.starved c.starved x.starved_later (y.starved (x.stays t));
}

-- calls that send, one after another
pub sending_self : (clock : Clock) → IsSending clock clock
sending_self clock = record { passes = passes_self clock; a = refl; b = refl; stop = λ c left. (c, clock.only_now c left, refl, refl) }

pub sending_on : (old mid new : Clock) → IsSending old mid → IsSending mid new → IsSending old new
sending_on old mid new first second = record {
  passes = passes_on old mid new first.passes second.passes;
  a = second.a ∙ first.a;
  b = second.b ∙ first.b;
  stop = λ c left. ⊎_elim (λ before. first.stop c before)
      (λ during.
      let s = second.stop c during in
      let f = first.stop s.0 (mid.counts_now old.moment s.0 first.passes.later s.1) in
      (f.0, f.1, s.2 ∙ f.2, s.3 ∙ f.3))
      (second.passes.adds_up old.moment c first.passes.later left);
}
