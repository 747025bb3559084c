-- The ticks of a least schedule are small.
use Rattle.std.proofs.Common.{ℕ, suc, zero, ◌≡◌, ◌+◌, ◌*◌, ◌^◌, ◌<◌, ◌≤◌, ◌⊎◌, max, List, [], Option, Some, inl, inr, refl, ap, ◌∙◌, subst, arith, length, get_or}
use Rattle.std.specs.Prelude.{slice_get}
use Rattle.std.proofs.lemmas.Bool.{cases_lt}
use Rattle.std.proofs.lemmas.List.{get_or_past}
use Rattle.std.proofs.lemmas.Option.{slice_get-get_or}
use Rattle.fleet_base.specs.declared.geometry.Visit.{Visit}
use Rattle.fleet_base.specs.declared.order.Side.{Side}
use Rattle.fleet_base.specs.Lists.{row_of}
use Rattle.fleet_base.specs.Order.{Graph, IsVisit, IsSorted}
use Rattle.fleet_base.specs.State.{FleetState, HasArrived, arrived_count, arrival_tick_of, duration_of}
use Rattle.fleet_base.specs.Rules.{IsFleetState}
use Rattle.fleet_base.specs.Schedule.{IsLeastSchedule, own_tick}
use Rattle.fleet_base.proofs.Members.{element_at}
use Rattle.fleet_base.proofs.Costs.{one_least}
use Rattle.fleet_base.specs.VisitRows.{tick_in, AreRowsFor}
use Rattle.longest_path.specs.Closed.{AgreesOnClosed}
use Rattle.longest_path.specs.Kept.{AreSmall}
use Rattle.longest_path.specs.Earliest.{IsEarliestAt}
use Rattle.longest_path.proofs.Places.{visit}
use Rattle.longest_path.proofs.Own.{earliest_ahead, earliest_at_ahead, earliest_at_arrived}
use Rattle.longest_path.proofs.Reasons.{latest}
use Rattle.longest_path.proofs.Numbering.{sorted_length}
use Rattle.longest_path.proofs.Levels.{obeyed_sorted}
use Rattle.longest_path.proofs.Working.{cell_visit}
use Rattle.longest_path.proofs.Writing.{IsWritten, written, write_next, least_written}
use Rattle.longest_path.proofs.Zeros.{zero_rows, zero_rows_for, zeros_small}
use Rattle.plan_graph.specs.Limits.{IsGraphWithinLimits}

module _ (g : Graph) (x : FleetState) (state : IsFleetState g x) (limits : IsGraphWithinLimits g) (order : ℕ → Option Side) (list : List Visit) (sorted : IsSorted g order list) where
  -- each visit has an earliest tick
  an_earliest : (s : Visit → ℕ) (v : Visit) → IsVisit g v → (m : ℕ) × IsEarliestAt g x order s v m
  an_earliest s v is = go (cases_lt v.index (arrived_count x v.robot))
    where
      go : (v.index < arrived_count x v.robot) ⊎ (arrived_count x v.robot ≤ v.index) → (m : ℕ) × IsEarliestAt g x order s v m
      go (inl h) = (arrival_tick_of x v, earliest_at_arrived g x order s v (arrival_tick_of x v) h refl)
      go (inr le) =
          let l = latest g state.fleet.graph order s v is in
          (max (own_tick x v) (l.0 + duration_of x v), earliest_at_ahead g x order s v (max (own_tick x v) (l.0 + duration_of x v)) le (earliest_ahead g x state order s v l.0 l.1))

  -- so many visits of the list can be given their earliest ticks
  write_some : (n : ℕ) → n ≤ length list → (rows : List (List ℕ)) × IsWritten g x order list n rows
  write_some zero le = (zero_rows g, record { rows_are = zero_rows_for g; small = zeros_small g; each = λ k v lt. absurd (omega (arith, lt)); early = λ k v lt. absurd (omega (arith, lt)) })
  write_some (suc n) le = go (write_some n (omega (arith, le)))
    where
      v : Visit
      v = get_or list n (visit 0 0)

      at : slice_get list n ≡ Some v
      at = slice_get-get_or list n (visit 0 0) (omega (arith, le))

      few : n < 65536
      few = omega (arith, le, sorted_length g order list sorted, limits.visits)

      next : n + 1 ≡ suc n
      next = omega arith

      go : ((rows : List (List ℕ)) × IsWritten g x order list n rows) → (rows : List (List ℕ)) × IsWritten g x order list (suc n) rows
      go (rows, w) =
          let e = an_earliest (tick_in rows) v (sorted.visits v (element_at list n v at)) in
          (written rows v e.0, subst (λ k. IsWritten g x order list k (written rows v e.0)) next (write_next g x state order list sorted n rows v e.0 few at w e.1))

  pub least_small : (s : Visit → ℕ) → IsLeastSchedule g x order s → (v : Visit) → IsVisit g v → s v < 2 * 10 ^ 12
  least_small s least v is =
      let w = write_some (length list) (omega arith) in
      let written_least = least_written g x state order list sorted (length list) w.0 w.1 (omega arith) in
      let z = least.least (tick_in w.0) written_least.schedule written_least.obeys v is in
      let k = w.1.small v in
      omega (arith, z, k)

-- rows with small ticks at the visits are small
pub small_rows : (g : Graph) (rows : List (List ℕ)) → AreRowsFor g rows → ((v : Visit) → IsVisit g v → tick_in rows v < 2 * 10 ^ 12) → AreSmall rows
small_rows g rows are each v = go (cases_lt v.robot (length rows)) (cases_lt v.index (length (row_of rows v.robot)))
  where
    go : (v.robot < length rows) ⊎ (length rows ≤ v.robot) → (v.index < length (row_of rows v.robot)) ⊎ (length (row_of rows v.robot) ≤ v.index) → tick_in rows v < 2 * 10 ^ 12
    go (inl r) (inl i) = each v (cell_visit g rows v are (r, i))
    go r (inr i) = let z = get_or_past (row_of rows v.robot) v.index 0 i in omega (arith, z)
    go (inr r) (inl i) = absurd (let z = ap (λ (row : List ℕ). length row) (get_or_past rows v.robot [] r) in omega (arith, z, i))

-- the ticks of a least schedule in rows are small
pub least_rows_small : (g : Graph) (x : FleetState) → IsFleetState g x → IsGraphWithinLimits g → (order : ℕ → Option Side) → AgreesOnClosed g x order → (rows : List (List ℕ)) → AreRowsFor g rows → IsLeastSchedule g x order (tick_in rows) → AreSmall rows
least_rows_small g x state limits order closed rows are least =
    small_rows g rows are (least_small g x state limits order _ (obeyed_sorted g x state order closed (tick_in rows) least.obeys) (tick_in rows) least)
