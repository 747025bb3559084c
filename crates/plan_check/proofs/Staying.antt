-- Where the robots of a plan are: at listed ticks, and after the last one.
use Rattle.std.proofs.Common.{ℕ, suc, ◌≡◌, ◌-◌, ◌<◌, ◌≤◌, ◌⊎◌, List, [], ◌∷◌, sym, ap, ◌∙◌, inl, inr, arith, length, min}
use Rattle.std.specs.Prelude.{slice_index_or}
use Rattle.std.proofs.lemmas.Bool.{cases_lt}
use Rattle.fleet_base.specs.declared.geometry.Cell.{Cell}
use Rattle.fleet_base.specs.Lists.{Ring, row_of}
use Rattle.fleet_base.specs.Grid.{OccupancyGrid}
use Rattle.fleet_base.specs.Plan.{cell_at, no_cell, Follows, IsRotation}
use Rattle.plan_check.specs.declared.fault.Unsound.TheVariants.{TooLarge, Blocked, Jump, Share, Swap, Rotation}
use Rattle.plan_check.specs.Faults.{IsFaultless}
use Rattle.plan_check.specs.Ticks.{NoneBefore}

module _ (plan : List (List Cell)) (i : ℕ) where
  -- from its last listed tick on a robot stays
  pub stays_from : (s t : ℕ) → length (row_of plan i) ≤ suc s → s ≤ t → cell_at plan i t ≡ cell_at plan i s
  stays_from s t h k =
      let e : min t (length (row_of plan i) - 1) ≡ min s (length (row_of plan i) - 1) = omega arith in
      ap (λ (n : ℕ). slice_index_or (row_of plan i) n no_cell) e

  -- at a listed tick it is in the cell that is listed there
  pub listed_at : (t : ℕ) → t < length (row_of plan i) → cell_at plan i t ≡ slice_index_or (row_of plan i) t no_cell
  listed_at t h =
      let e : min t (length (row_of plan i) - 1) ≡ t = omega arith in
      ap (λ (n : ℕ). slice_index_or (row_of plan i) n no_cell) e

-- one follows another in a ring
pub first_of_ring : {X : Type 0} (R : X → X → Type 0) (xs : List X) → Ring R xs → (x : X) × (y : X) × R x y
first_of_ring R [] r = absurd r
first_of_ring R (x ∷ []) r = (x, x, r)
first_of_ring R (x ∷ y ∷ ys) r = (x, y, r.0)

-- who rotates moves
pub rotation_moves : (plan : List (List Cell)) (t : ℕ) (robots : List ℕ) → IsRotation plan t robots → (i : ℕ) × (i < length plan) × (cell_at plan i (suc t) ≡ cell_at plan i t → ⊥)
rotation_moves plan t robots r = let f = first_of_ring (Follows plan t) robots r.round in (f.0, f.2.here, f.2.changes)

-- after the last listed tick of all robots no fault begins
pub none_after : (grid : OccupancyGrid) (plan : List (List Cell)) (last : ℕ) → ((i : ℕ) → i < length plan → length (row_of plan i) ≤ suc last) → NoneBefore grid plan (suc last) 0 → IsFaultless grid plan
none_after grid plan last short before (TooLarge w c) f = before (TooLarge w c) f (inl (omega arith))
none_after grid plan last short before (Blocked i t) f = before (Blocked i t) f (inl (let h = short i f.0 in let k = f.1 in omega arith))
none_after grid plan last short before (Jump i t) f = before (Jump i t) f (inl (let h = short i f.0 in let k = f.2 in omega arith))
none_after grid plan last short before (Share i j t) f = go (cases_lt t (suc last))
  where
    go : (t < suc last) ⊎ (suc last ≤ t) → ⊥
    go (inl lt) = before (Share i j t) f (inl lt)
    go (inr le) =
        let k : last ≤ t = omega arith in
        let lt : i < length plan = let a = f.0 in let b = f.1 in omega arith in
        let e : cell_at plan i last ≡ cell_at plan j last = sym (stays_from plan i last t (short i lt) k) ∙ (f.2 ∙ stays_from plan j last t (short j f.1) k) in
        before (Share i j last) (f.0, f.1, e) (inl (omega arith))
none_after grid plan last short before (Swap i j t) f = go (cases_lt t (suc last))
  where
    go : (t < suc last) ⊎ (suc last ≤ t) → ⊥
    go (inl lt) = before (Swap i j t) f (inl lt)
    go (inr le) =
        let k : last ≤ t = omega arith in
        let k' : last ≤ t - 1 = omega arith in
        let lt : i < length plan = let a = f.0 in let b = f.1 in omega arith in
        let e : cell_at plan i last ≡ cell_at plan j last = sym (stays_from plan i last t (short i lt) k) ∙ (f.3 ∙ stays_from plan j last (t - 1) (short j f.1) k') in
        before (Share i j last) (f.0, f.1, e) (inl (omega arith))
none_after grid plan last short before (Rotation robots t) f = go (cases_lt t (suc last))
  where
    go : (t < suc last) ⊎ (suc last ≤ t) → ⊥
    go (inl lt) = before (Rotation robots t) f (inl lt)
    go (inr le) =
        let k : last ≤ t - 1 = omega arith in
        let k' : last ≤ suc (t - 1) = omega arith in
        let m = rotation_moves plan (t - 1) robots f.1 in
        m.2 (stays_from plan m.0 last (suc (t - 1)) (short m.0 m.1) k' ∙ sym (stays_from plan m.0 last (t - 1) (short m.0 m.1) k))
