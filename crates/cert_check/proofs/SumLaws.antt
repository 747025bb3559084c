-- How long the moves of a robot last, summed up from its first visit on.
use Rattle.std.proofs.Common.{ℕ, suc, zero, ◌≡◌, ◌+◌, ◌-◌, ◌*◌, ◌<◌, ◌≤◌, ◌⊎◌, List, sym, ap, ◌∙◌, subst, inl, inr, arith, length, set}
use Rattle.std.proofs.lemmas.Bool.{cases_eq}
use Rattle.fleet_base.specs.declared.geometry.Visit.{Visit}
use Rattle.fleet_base.specs.Lists.{row_of}
use Rattle.fleet_base.specs.Order.{Graph, IsVisit, last_in}
use Rattle.fleet_base.specs.State.{FleetState}
use Rattle.fleet_base.specs.Paths.{travel}
use Rattle.fleet_base.proofs.Walking.{travel_none}
use Rattle.fleet_base.specs.VisitRows.{tick_in}
use Rattle.cert_tree.proofs.EdgeLaws.{visit}
use Rattle.cert_tree.proofs.Walks.{travel_more}
use Rattle.cert_check.specs.Sums.{first_of, HasRowSums, AreSums}
use Rattle.cert_check.proofs.RoundLaws.{set_same, set_other}

-- the moves up to a visit, and those from there on
pub travel_parts : (x : FleetState) (v : Visit) (d : ℕ) → travel x (first_of v.robot) (v.index + d) ≡ travel x (first_of v.robot) v.index + travel x v (v.index + d)
travel_parts x v zero =
    let z : v.index + 0 ≡ v.index = omega arith in
    let a = ap (travel x (first_of v.robot)) z in
    let b = ap (travel x v) z in
    let c = travel_none x v in
    omega arith
travel_parts x v (suc d) =
    let z : v.index + d + 1 ≡ v.index + suc d = omega arith in
    let h = travel_parts x v d in
    let a = travel_more x (first_of v.robot) (v.index + d) (omega arith) in
    let b = travel_more x v (v.index + d) (omega arith) in
    let c = ap (travel x (first_of v.robot)) z in
    let e = ap (travel x v) z in
    omega arith

module _ (x : FleetState) (rows now : List (List ℕ)) (i : ℕ) where
  -- the first visit of a robot
  pub row_start : i < length rows → 0 < length (row_of rows i) → now ≡ set rows i (set (row_of rows i) 0 0) → HasRowSums x now i 0
  row_start inside there is k le =
      let e : k ≡ 0 = omega (arith, le) in
      let v = first_of i in
      let t = ap (λ n. tick_in now (visit i n)) e in
      let s = ap (λ r. tick_in r v) is ∙ set_same rows v 0 inside there in
      let a = ap (travel x v) e in
      let b = travel_none x v in
      (omega arith, omega arith)

  -- one visit more
  pub row_more : (n sum : ℕ) → i < length rows → n + 1 < length (row_of rows i) → now ≡ set rows i (set (row_of rows i) (n + 1) sum) → sum ≡ travel x (first_of i) (n + 1) → sum ≤ (n + 1) * 1000001 → HasRowSums x rows i n → HasRowSums x now i (n + 1)
  row_more n sum inside there is total short h k le = go (cases_eq k (n + 1))
    where
      v : Visit
      v = visit i (n + 1)

      go : (k ≡ n + 1) ⊎ (k ≡ n + 1 → ⊥) → (tick_in now (visit i k) ≡ travel x (first_of i) k) × (travel x (first_of i) k ≤ k * 1000001)
      go (inl e) =
          let t = ap (λ m. tick_in now (visit i m)) e in
          let s = ap (λ r. tick_in r v) is ∙ set_same rows v sum inside there in
          let a = ap (travel x (first_of i)) e in
          (omega arith, omega arith)
      go (inr ne) =
          let s = ap (λ r. tick_in r (visit i k)) is ∙ set_other rows v sum (visit i k) inside (λ e. ne (ap (λ (w : Visit). w.index) e)) in
          let r = h k (omega (arith, le, ne)) in
          (s ∙ r.0, r.1)

  -- the other robots' visits stay
  pub others_stay : (n sum : ℕ) (v : Visit) → i < length rows → now ≡ set rows i (set (row_of rows i) n sum) → (v.robot ≡ i → ⊥) → tick_in now v ≡ tick_in rows v
  others_stay n sum v inside is ne = ap (λ r. tick_in r v) is ∙ set_other rows (visit i n) sum v inside (λ e. ne (ap (λ (w : Visit). w.robot) e))

module _ (g : Graph) (x : FleetState) (rows : List (List ℕ)) (sums : AreSums g x rows) (v : Visit) (there : IsVisit g v) (k : ℕ) (on : v.index ≤ k) (last : k ≤ last_in g v.robot) where
  there_too : IsVisit g (visit v.robot k)
  there_too = record { robot = there.robot; index = last }

  parts : travel x (first_of v.robot) k ≡ travel x (first_of v.robot) v.index + travel x v k
  parts =
      let z : v.index + (k - v.index) ≡ k = omega arith in
      let h = travel_parts x v (k - v.index) in
      let a = ap (travel x (first_of v.robot)) z in
      let b = ap (travel x v) z in
      omega arith

  -- a later visit has no smaller sum
  pub sums_rise : tick_in rows v ≤ tick_in rows (visit v.robot k)
  sums_rise = let a = sums.sums v there in let b = sums.sums (visit v.robot k) there_too in let c = parts in omega (arith, a.0, b.0)

  -- the difference is how long the moves between last
  pub sums_differ : (along : ℕ) → along + tick_in rows v ≡ tick_in rows (visit v.robot k) → along ≡ travel x v k
  sums_differ along e = let a = sums.sums v there in let b = sums.sums (visit v.robot k) there_too in let c = parts in omega (arith, a.0, b.0, e)

  pub sums_short : travel x v k ≤ k * 1000001
  sums_short = let b = sums.sums (visit v.robot k) there_too in let c = parts in omega (arith, b.1)

  pub sums_within : k < length (row_of rows v.robot)
  sums_within = omega (arith, sums.rows.visits v.robot there.robot, last)

-- one robot more has its sums
pub all_more : (g : Graph) (x : FleetState) (rows now : List (List ℕ)) (i : ℕ) → HasRowSums x now i (last_in g i) → ((v : Visit) → (v.robot ≡ i → ⊥) → tick_in now v ≡ tick_in rows v)
    → ((v : Visit) → IsVisit g v → v.robot < i → (tick_in rows v ≡ travel x (first_of v.robot) v.index) × (travel x (first_of v.robot) v.index ≤ v.index * 1000001))
    → (v : Visit) → IsVisit g v → v.robot < i + 1 → (tick_in now v ≡ travel x (first_of v.robot) v.index) × (travel x (first_of v.robot) v.index ≤ v.index * 1000001)
all_more g x rows now i row others before v is lt = go (cases_eq v.robot i)
  where
    go : (v.robot ≡ i) ⊎ (v.robot ≡ i → ⊥) → (tick_in now v ≡ travel x (first_of v.robot) v.index) × (travel x (first_of v.robot) v.index ≤ v.index * 1000001)
    go (inl e) =
        subst (λ j. (tick_in now (visit j v.index) ≡ travel x (first_of j) v.index) × (travel x (first_of j) v.index ≤ v.index * 1000001)) (sym e) (row v.index (omega (arith, is.index, ap (last_in g) e)))
    go (inr ne) = let r = before v is (omega (arith, lt, ne)) in (others v ne ∙ r.0, r.1)
