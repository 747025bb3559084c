-- From kind to kind, and from tick to tick.
use Rattle.std.proofs.Common.{ℕ, suc, zero, ◌≡◌, ◌-◌, ◌<◌, ◌≤◌, ◌⊎◌, List, None, refl, inl, inr, arith, length}
use Rattle.std.specs.Prelude.{Result, Ok, Err, OnOk}
use Rattle.fleet_base.specs.declared.geometry.Cell.{Cell}
use Rattle.fleet_base.specs.Lists.{row_of}
use Rattle.fleet_base.specs.Grid.{OccupancyGrid}
use Rattle.fleet_base.specs.Plan.{IsWithinLimits}
use Rattle.plan_check.specs.declared.fault.Unsound.{Unsound}
use Rattle.plan_check.specs.declared.fault.Unsound.TheVariants.{TooLarge, Share}
use Rattle.plan_check.specs.Faults.{IsTooLarge, IsFaultless, IsFirstFault, tick_of, kind_of}
use Rattle.plan_check.specs.Occupants.{SharesFrom}
use Rattle.plan_check.specs.Ticks.{NoneBefore, NoneOf, MovesApart, IsFirstPair, Swaps, IsFirstRotation}
use Rattle.plan_check.proofs.Order.{none_at_start, next_kind, next_tick, never_later, first_of_all, of_large, of_swap, of_rotation}
use Rattle.plan_check.proofs.Firsts.{share_none, swap_none, rotation_none}
use Rattle.plan_check.proofs.Accepted.{not_large}
use Rattle.plan_check.proofs.Staying.{none_after}

module _ (grid : OccupancyGrid) (plan : List (List Cell)) where
  -- a plan that is above a limit has that as its first fault
  pub large_first : (w : _) (c : ℕ) → IsTooLarge plan c w → IsFirstFault grid plan (TooLarge w c)
  large_first w c f = first_of_all grid plan 0 0 (TooLarge w c) (none_at_start grid plan) (record {
    same = record { tick = refl; kind = refl };
    here = f;
    first = λ v o g. tt;
  })

  -- a plan within the limits has none of these
  pub none_large : IsWithinLimits plan → NoneBefore grid plan 0 1
  none_large limits = next_kind grid plan 0 0 (none_at_start grid plan) (of_large grid plan (λ v. ⊥) (λ w c f. not_large grid plan limits w c f))

  module _ (t : ℕ) where
    pub none_alone : NoneBefore grid plan t 1 → NoneOf grid plan t 1 → NoneOf grid plan t 2 → NoneBefore grid plan t 3
    none_alone before blocked jump = next_kind grid plan t 2 (next_kind grid plan t 1 before blocked) jump

    pub none_shares : NoneBefore grid plan t 3 → IsFirstPair (SharesFrom plan t 0) None → NoneBefore grid plan t 4
    none_shares before share = next_kind grid plan t 3 before (share_none grid plan t share)

    pub none_swaps : NoneBefore grid plan t 4 → IsFirstPair (Swaps plan t) None → NoneBefore grid plan t 5
    none_swaps before swap = next_kind grid plan t 4 before (swap_none grid plan t swap)

    after_tick : NoneBefore grid plan t 6 → NoneBefore grid plan (suc t) 1
    after_tick before = next_kind grid plan (suc t) 0 (next_tick grid plan t before) (never_later grid plan (suc t) (omega arith))

    pub none_rotates : NoneBefore grid plan t 5 → IsFirstRotation plan (t - 1) None → NoneBefore grid plan (suc t) 1
    none_rotates before rotation = after_tick (next_kind grid plan t 5 before (rotation_none grid plan t rotation))

    -- at tick 0 no cell is entered
    pub none_enters : t ≡ 0 → NoneBefore grid plan t 4 → NoneBefore grid plan (suc t) 1
    none_enters e before =
        let swap = of_swap grid plan (λ v. ⊥) t (λ i j f. let h = f.2 in omega arith) in
        let rotation = of_rotation grid plan (λ v. ⊥) t (λ robots f. let h = f.0 in omega arith) in
        after_tick (next_kind grid plan t 5 (next_kind grid plan t 4 before swap) rotation)

    -- no two share a cell at the tick before, nor then
    pub moves_apart : 1 ≤ t → NoneBefore grid plan t 4 → MovesApart plan t
    moves_apart later before = record {
      tick = later;
      before = λ i j lt h e. before (Share i j (t - 1)) (lt, h, e) (inl (omega arith));
      after = λ i j lt h e. before (Share i j t) (lt, h, e) (inr (refl, omega arith));
    }

  -- after all ticks that are listed there is none
  pub none_at_end : (ticks : ℕ) → 1 ≤ ticks → ((i : ℕ) → i < length plan → length (row_of plan i) ≤ ticks) → NoneBefore grid plan ticks 1 → IsFaultless grid plan
  none_at_end zero some all before = absurd (omega (arith, some))
  none_at_end (suc last) some all before = none_after grid plan last all (λ u f o. before u f (earlier u o))
    where
      earlier : (u : Unsound) → (tick_of u < suc last) ⊎ ((tick_of u ≡ suc last) × (kind_of u < 0)) → (tick_of u < suc last) ⊎ ((tick_of u ≡ suc last) × (kind_of u < 1))
      earlier u (inl lt) = inl lt
      earlier u (inr h) = absurd (omega (arith, h.1))

-- what holds holds where a result is good
pub on_ok : {T E : Type 0} → (r : Result T E) (P : Type 0) → P → OnOk r P
on_ok (Ok x) P p = p
on_ok (Err e) P p = tt
