-- The paths of a Bound, robot by robot.
use Rattle.std.proofs.Common.{ℕ, suc, zero, ◌≡◌, ◌≢◌, ◌+◌, ◌-◌, ◌*◌, ◌^◌, ◌<◌, ◌≤◌, ◌⊎◌, List, [], ◌∷◌, Some, None, Option, cond, refl, sym, ap, ◌∙◌, subst, inl, inr, arith, length, map, drop, get_or}
use Rattle.std.specs.Prelude.{slice_get, sum_by, unwrap_or, IsSome}
use Rattle.std.proofs.lemmas.Option.{slice_get-get_or}
use Rattle.std.specs.List.{range_with_len}
use Rattle.std.specs.List.Sorted.{IsStrictlyIncreasing}
use Rattle.std.proofs.lemmas.Bool.{cases_lt, cases_eq, eq-eqb, ne_eqb}
use Rattle.fleet_base.specs.declared.order.PairId.{PairId}
use Rattle.fleet_base.specs.declared.order.Side.{Side}
use Rattle.fleet_base.specs.Order.{Graph}
use Rattle.fleet_base.specs.State.{FleetState}
use Rattle.cert_tree.specs.declared.node.CertPath.{CertPath}
use Rattle.fleet_base.specs.Paths.{path_length}
use Rattle.cert_tree.specs.Paths.{path_for, length_for, ArePaths, total_length}
use Rattle.cert_check.specs.Judging.{TakesPath}
use Rattle.cert_tree.proofs.Walks.{sum_more}

abbrev pub robots_of : List CertPath → List ℕ
robots_of paths = map (λ p. p.robot) paths

-- the paths from a place on are those of later robots alone, and tell the pairs of each
pub record HasTaken (paths : List CertPath) (place robot : ℕ) : Type 0 where
  pub within : place ≤ length paths
  pub later : (k : ℕ) (p : CertPath) → place ≤ k → slice_get paths k ≡ Some p → robot ≤ p.robot
  pub earlier : (k : ℕ) (p : CertPath) → k < place → slice_get paths k ≡ Some p → p.robot < robot
  pub rest : (i : ℕ) → robot ≤ i → path_for paths i ≡ path_for (drop place paths) i

pub nothing_taken : (paths : List CertPath) → HasTaken paths 0 0
nothing_taken paths = record { within = omega arith; later = λ k p le e. omega arith; earlier = λ k p lt e. absurd (omega (arith, lt)); rest = λ i le. refl }

rises_to : (xs : List ℕ) → IsStrictlyIncreasing xs → (d j : ℕ) → j + suc d < length xs → get_or xs j 0 < get_or xs (j + suc d) 0
rises_to xs rises zero j h = omega (arith, rises j (omega (arith, h)), ap (λ k. get_or xs k 0) (let z : j + 1 ≡ j + suc zero = omega arith in z))
rises_to xs rises (suc d) j h =
    omega (arith, rises_to xs rises d j (omega (arith, h)), rises (j + suc d) (omega (arith, h)), ap (λ k. get_or xs k 0) (let z : j + suc d + 1 ≡ j + suc (suc d) = omega arith in z))

robot_at : (paths : List CertPath) (k : ℕ) (p : CertPath) → slice_get paths k ≡ Some p → (get_or (robots_of paths) k 0 ≡ p.robot) × (k < length (robots_of paths))
robot_at [] k p e = cc
robot_at (q ∷ paths) zero p e = let s : q ≡ p = cc in (ap (λ (r : CertPath). r.robot) s, omega arith)
robot_at (q ∷ paths) (suc k) p e = let r = robot_at paths k p e in (r.0, omega (arith, r.1))

rises : (paths : List CertPath) → IsStrictlyIncreasing (robots_of paths) → (j k : ℕ) (p q : CertPath) → j < k → slice_get paths j ≡ Some p → slice_get paths k ≡ Some q → p.robot < q.robot
rises paths up j k p q lt a b =
    let e : j + suc (k - j - 1) ≡ k = omega (arith, lt) in
    let x = robot_at paths j p a in
    let y = robot_at paths k q b in
    omega (arith, x.0, y.0, ap (λ i. get_or (robots_of paths) i 0) e, rises_to (robots_of paths) up (k - j - 1) j (omega (arith, e, y.1)))

none_for : (list : List CertPath) (i : ℕ) → ((k : ℕ) (p : CertPath) → slice_get list k ≡ Some p → p.robot ≢ i) → path_for list i ≡ []
none_for [] i none = refl
none_for (p ∷ list) i none = ap (λ b. cond b p.pairs (path_for list i)) (ne_eqb p.robot i (none 0 p refl)) ∙ none_for list i (λ k q e. none (suc k) q e)

get_drop : (paths : List CertPath) (n k : ℕ) → slice_get (drop n paths) k ≡ slice_get paths (n + k)
get_drop paths zero k = ap (slice_get paths) (let z : k ≡ 0 + k = omega arith in z)
get_drop [] (suc n) k = refl
get_drop (p ∷ paths) (suc n) k = get_drop paths n k ∙ ap (slice_get (p ∷ paths)) (let z : suc (n + k) ≡ suc n + k = omega arith in z)

split : (paths : List CertPath) (k : ℕ) (p : CertPath) → slice_get paths k ≡ Some p → drop k paths ≡ p ∷ drop (k + 1) paths
split [] k p e = cc
split (q ∷ paths) zero p e = let s : q ≡ p = cc in ap (λ (r : CertPath). r ∷ paths) s
split (q ∷ paths) (suc k) p e = split paths k p e ∙ ap (λ n. p ∷ drop n (q ∷ paths)) (let z : suc (k + 1) ≡ suc k + 1 = omega arith in z)

length-robots : (paths : List CertPath) → length (robots_of paths) ≡ length paths
length-robots [] = refl
length-robots (p ∷ paths) = ap suc (length-robots paths)

no_more : (paths : List CertPath) (k : ℕ) → slice_get paths k ≡ None → length paths ≤ k
no_more [] k e = omega arith
no_more (p ∷ paths) zero e = cc
no_more (p ∷ paths) (suc k) e = omega (arith, no_more paths k e)

same_place : (paths : List CertPath) (k : ℕ) (p : CertPath) → slice_get paths k ≡ Some p → get_or paths k p ≡ p
same_place [] k p e = cc
same_place (q ∷ paths) zero p e = let s : q ≡ p = cc in s
same_place (q ∷ paths) (suc k) p e = same_place paths k p e

pub take_path : (paths : List CertPath) (place robot after : ℕ) (pairs : List PairId) → IsStrictlyIncreasing (robots_of paths) → HasTaken paths place robot → TakesPath paths place robot pairs after → (pairs ≡ path_for paths robot) × HasTaken paths after (robot + 1)
take_path paths place robot after pairs up h (inl (p, is, same, ps, a)) = (
  ps ∙ sym (h.rest robot (omega arith) ∙ ap (λ (l : List CertPath). path_for l robot) (split paths place p is) ∙ ap (λ b. cond b p.pairs (path_for (drop (place + 1) paths) robot)) (eq-eqb p.robot robot same)),
  subst (λ n. HasTaken paths n (robot + 1)) (sym a) (record {
    within = omega (arith, (robot_at paths place p is).1, length-robots paths);
    later = λ k q le e. omega (arith, same, rises paths up place k p q (omega (arith, le)) is e);
    earlier = λ k q lt e. early k q e (cases_lt k place) lt;
    rest = λ i le. h.rest i (omega (arith, le)) ∙ ap (λ (l : List CertPath). path_for l i) (split paths place p is) ∙ ap (λ b. cond b p.pairs (path_for (drop (place + 1) paths) i)) (ne_eqb p.robot i (λ e. omega (arith, same, e, le)));
  }),
)
  where
    early : (k : ℕ) (q : CertPath) → slice_get paths k ≡ Some q → (k < place) ⊎ (place ≤ k) → k < place + 1 → q.robot < robot + 1
    early k q e (inl lt) l = omega (arith, h.earlier k q lt e)
    early k q e (inr ge) l =
        let z : k ≡ place = omega (arith, ge, l) in
        let s : q ≡ p = let t = ap (slice_get paths) z in cc in
        omega (arith, same, ap (λ (r : CertPath). r.robot) s)
take_path paths place robot after pairs up h (inr (none, ps, a)) = (
  ps ∙ sym (h.rest robot (omega arith) ∙ none_for (drop place paths) robot (λ k p e. other (place + k) p (omega arith) (sym (get_drop paths place k) ∙ e))),
  subst (λ n. HasTaken paths n (robot + 1)) (sym a) (record {
    within = h.within;
    later = λ k p le e. omega (arith, h.later k p le e, other k p le e);
    earlier = λ k p lt e. omega (arith, h.earlier k p lt e);
    rest = λ i le. h.rest i (omega (arith, le));
  }),
)
  where
    other : (k : ℕ) (p : CertPath) → place ≤ k → slice_get paths k ≡ Some p → p.robot ≢ robot
    other k p le e s = go (cases_eq k place)
      where
        go : (k ≡ place) ⊎ (k ≡ place → ⊥) → ⊥
        go (inl z) = none p (ap (slice_get paths) (sym z) ∙ e) s
        go (inr n) = first (slice_get paths place) refl
          where
            first : (o : Option CertPath) → slice_get paths place ≡ o → ⊥
            first None f = absurd (let r = robot_at paths k p e in omega (arith, r.1, le, n, length-robots paths, no_more paths place f))
            first (Some q) f = omega (arith, h.later place q (omega arith) f, rises paths up place k q p (omega (arith, le, n)) f e, s)

-- so far all robots have a path, whose lengths add up to this
pub record HasTotal (g : Graph) (x : FleetState) (order : ℕ → Option Side) (paths : List CertPath) (place robot total : ℕ) : Type 0 where
  pub taken : HasTaken paths place robot
  pub sum : total ≡ sum_by (λ i. unwrap_or (length_for g x order paths i) 0) (range_with_len 0 robot)
  pub short : total ≤ robot * 2 ^ 118
  pub each : (i : ℕ) → i < robot → IsSome (length_for g x order paths i)

module _ (g : Graph) (x : FleetState) (order : ℕ → Option Side) (paths : List CertPath) where
  pub no_total : HasTotal g x order paths 0 0 0
  no_total = record { taken = nothing_taken paths; sum = refl; short = omega arith; each = λ i lt. absurd (omega (arith, lt)) }

  length_is : (robot n : ℕ) (pairs : List PairId) → pairs ≡ path_for paths robot → Some n ≡ path_length g x order robot pairs → (IsSome (length_for g x order paths robot)) × (n ≡ unwrap_or (length_for g x order paths robot) 0)
  length_is robot n pairs e is = go (length_for g x order paths robot) (is ∙ ap (λ ps. path_length g x order robot ps) e)
    where
      go : (o : Option ℕ) → Some n ≡ o → IsSome o × (n ≡ unwrap_or o 0)
      go None f = cc
      go (Some m) f = (refl, let z : n ≡ m = cc in z)

  pub total_more : (place robot after total later n : ℕ) (pairs : List PairId) → IsStrictlyIncreasing (robots_of paths) → HasTotal g x order paths place robot total → TakesPath paths place robot pairs after → Some n ≡ path_length g x order robot pairs → n < 2 ^ 118 → later ≡ total + n → HasTotal g x order paths after (robot + 1) later
  total_more place robot after total later n pairs up h takes is few e =
      let t = take_path paths place robot after pairs up h.taken takes in
      let l = length_is robot n pairs t.0 is in
      let f : ℕ → ℕ = λ i. unwrap_or (length_for g x order paths i) 0 in
      let more = sum_more f robot 0 in
      let at = ap f (let z : 0 + robot ≡ robot = omega arith in z) in
      let len = ap (λ m. sum_by f (range_with_len 0 m)) (let z : robot + 1 ≡ suc robot = omega arith in z) in
      record {
        taken = t.1;
        sum = omega (arith, h.sum, l.1, e, more, at, len);
        short = omega (arith, h.short, few, e);
        each = λ i lt. go i lt (cases_eq i robot) l.0;
      }
    where
      go : (i : ℕ) → i < robot + 1 → (i ≡ robot) ⊎ (i ≡ robot → ⊥) → IsSome (length_for g x order paths robot) → IsSome (length_for g x order paths i)
      go i lt (inl s) k = subst (λ r. IsSome (length_for g x order paths r)) (sym s) k
      go i lt (inr m) k = h.each i (omega (arith, lt, m))

  pub no_length : (place robot after total : ℕ) (pairs : List PairId) → IsStrictlyIncreasing (robots_of paths) → HasTotal g x order paths place robot total → TakesPath paths place robot pairs after → None ≡ path_length g x order robot pairs → robot < length g.lasts → ArePaths g x order paths → ⊥
  no_length place robot after total pairs up h takes is lt are =
      let t = take_path paths place robot after pairs up h.taken takes in
      go (length_for g x order paths robot) (is ∙ ap (λ ps. path_length g x order robot ps) t.0) (are.each robot lt)
    where
      go : (o : Option ℕ) → None ≡ o → IsSome o → ⊥
      go None f k = cc
      go (Some m) f k = cc

  pub all_taken : (place robot total : ℕ) → HasTotal g x order paths place robot total → robot ≡ length g.lasts → place ≡ length paths → ArePaths g x order paths × (total ≡ total_length g x order paths)
  all_taken place robot total h e all = (
    record {
      known = λ k d lt. omega (arith, e, h.taken.earlier k (get_or paths k d) (omega (arith, lt, all)) (slice_get-get_or paths k d lt));
      each = λ i lt. h.each i (omega (arith, lt, e));
    },
    h.sum ∙ ap (λ n. sum_by (λ i. unwrap_or (length_for g x order paths i) 0) (range_with_len 0 n)) (let z : robot ≡ length g.lasts - 0 = omega (arith, e) in z),
  )

  pub not_all_taken : (place robot total : ℕ) → HasTotal g x order paths place robot total → robot ≡ length g.lasts → (place ≡ length paths → ⊥) → ArePaths g x order paths → ⊥
  not_all_taken place robot total h e ne are = go (slice_get paths place) refl
    where
      go : (o : Option CertPath) → slice_get paths place ≡ o → ⊥
      go None f = ne (omega (arith, h.taken.within, no_more paths place f))
      go (Some p) f =
          let r = robot_at paths place p f in
          omega (arith, e, h.taken.later place p (omega arith) f, are.known place p (omega (arith, r.1, length-robots paths)), ap (λ (q : CertPath). q.robot) (same_place paths place p f))
