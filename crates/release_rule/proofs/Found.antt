-- What is found of one robot.
use Rattle.std.proofs.Common.{ℕ, ◌≡◌, ◌+◌, ◌-◌, ◌<◌, ◌≤◌, min, List, [], ◌∷◌, ◌++◌, sym, ap, ◌∙◌, subst, inl, inr, ◌⊎◌, arith, length, length-append, append_assoc, append-nil}
use Rattle.std.specs.Prelude.{map}
use Rattle.std.specs.List.{range_with_len}
use Rattle.std.proofs.lemmas.List.FromFn.{map-range_with_len_more, length-map-range_with_len}
use Rattle.std.proofs.lemmas.Bool.{cases_lt}
use Rattle.fleet_base.specs.declared.geometry.Visit.{Visit}
use Rattle.fleet_base.specs.Order.{Graph, last_in}
use Rattle.fleet_base.specs.State.{FleetState, order_at, arrived, released, released_count}
use Rattle.fleet_base.specs.Release.{IsClearTo, IsLastReleasable}
use Rattle.release_rule.specs.Releasing.{IsReadyToRelease, IsClear, released_until}
use Rattle.release_rule.proofs.Pairs.{clear_to_next, clear_at}

abbrev visit : ℕ → ℕ → Visit
visit i k = record { robot = i; index = k }

-- up to which visit a robot may be released at most
abbrev pub reach_of : Graph → FleetState → ℕ → ℕ
reach_of g x i = min (arrived x i + x.window) (last_in g i)

-- the robot's visits below this number may be released, and those of them that were not are appended to a list
pub record IsFoundUntil (g : Graph) (x : FleetState) (i end : ℕ) (before list : List Visit) : Type 0 where
  pub from : released_count x i ≤ end
  pub some : 1 ≤ end
  pub within : end - 1 ≤ reach_of g x i
  pub clear : IsClearTo g (order_at g x) x i (end - 1)
  pub list_is : list ≡ before ++ released_until x i end

module _ (g : Graph) (x : FleetState) (i : ℕ) where
  none_until : (end : ℕ) → end ≤ released_count x i → released_until x i end ≡ []
  none_until end h =
      let none : end - released_count x i ≡ 0 = omega (arith, h) in
      ap (λ (n : ℕ). map (visit i) (range_with_len (released_count x i) n)) none

  one_more : (k : ℕ) → released_count x i ≤ k → released_until x i (k + 1) ≡ released_until x i k ++ visit i k ∷ []
  one_more k h =
      let more : (k + 1) - released_count x i ≡ (k - released_count x i) + 1 = omega (arith, h) in
      ap (λ (n : ℕ). map (visit i) (range_with_len (released_count x i) n)) more
      ∙ map-range_with_len_more (visit i) (released_count x i) (k - released_count x i) k (omega (arith, h))

  clear_from : (k m : ℕ) → k ≡ m → IsClearTo g (order_at g x) x i k → IsClearTo g (order_at g x) x i m
  clear_from k m e c = subst (λ (n : ℕ). IsClearTo g (order_at g x) x i n) e c

  clear_here : (k m : ℕ) → k ≡ m → IsClear g x (visit i k) → IsClear g x (visit i m)
  clear_here k m e c = subst (λ (n : ℕ). IsClear g x (visit i n)) e c

  -- nothing is found yet
  pub found_none : (list : List Visit) → i < length g.lasts → IsReadyToRelease g x → IsFoundUntil g x i (released x i + 1) list list
  found_none list h ready = record {
    from = omega arith;
    some = omega arith;
    within = omega (arith, ready.reach i h);
    clear = clear_from (released x i) ((released x i + 1) - 1) (omega arith) (ready.clear i h);
    list_is = sym (append-nil list) ∙ ap (λ (vs : List Visit). list ++ vs) (sym (none_until (released x i + 1) (omega (arith, ready.started i h, ready.within i h))));
  }

  -- one visit more is
  pub found_more : (k : ℕ) (before list : List Visit) → IsFoundUntil g x i k before list → k ≤ reach_of g x i → IsClear g x (visit i k) → IsFoundUntil g x i (k + 1) before (list ++ visit i k ∷ [])
  found_more k before list f le here = record {
    from = omega (arith, f.from);
    some = omega arith;
    within = omega (arith, le);
    clear = clear_from ((k - 1) + 1) ((k + 1) - 1) (omega (arith, f.some)) (clear_to_next g x i (k - 1) f.clear (clear_here k ((k - 1) + 1) (omega (arith, f.some)) here));
    list_is = ap (λ (vs : List Visit). vs ++ visit i k ∷ []) f.list_is ∙ append_assoc before (released_until x i k) (visit i k ∷ []) ∙ ap (λ (vs : List Visit). before ++ vs) (sym (one_more k f.from));
  }

  -- what is found of a robot
  abbrev pub IsFound : List Visit → List Visit → Type 0
  IsFound before list = (k : ℕ) × IsLastReleasable g (order_at g x) x i k × (list ≡ before ++ released_until x i (k + 1))

  -- all is found where no further visit may be released
  pub found_all : (end : ℕ) (before list : List Visit) → IsFoundUntil g x i end before list → ((m : ℕ) → m ≤ reach_of g x i → IsClearTo g (order_at g x) x i m → m ≤ end - 1) → IsFound before list
  found_all end before list f greatest =
      let whole : end ≡ (end - 1) + 1 = omega (arith, f.some) in
      (end - 1, record { within = f.within; clear = f.clear; greatest = greatest }, f.list_is ∙ ap (λ (n : ℕ). before ++ released_until x i n) whole)

  -- where all visits in reach are
  pub found_reach : (end : ℕ) (before list : List Visit) → IsFoundUntil g x i end before list → reach_of g x i < end → IsFound before list
  found_reach end before list f h = found_all end before list f (λ m le c. omega (arith, le, h))

  -- or where the next one is not clear
  pub found_held : (end : ℕ) (before list : List Visit) → IsFoundUntil g x i end before list → (IsClear g x (visit i end) → ⊥) → IsFound before list
  found_held end before list f held = found_all end before list f (λ m le c. cases m c (cases_lt m end))
    where
      cases : (m : ℕ) → IsClearTo g (order_at g x) x i m → (m < end) ⊎ (end ≤ m) → m ≤ end - 1
      cases m c (inl lt) = omega (arith, lt)
      cases m c (inr ge) = absurd (held (clear_at g x i end m c ge))

  -- how many are found
  pub found_count : (end : ℕ) (before list : List Visit) → IsFoundUntil g x i end before list → length list ≡ length before + (end - released_count x i)
  found_count end before list f =
      ap (λ (vs : List Visit). length vs) f.list_is ∙ length-append before (released_until x i end)
      ∙ ap (λ (n : ℕ). length before + n) (length-map-range_with_len (visit i) (released_count x i) (end - released_count x i))
