-- Robots that depart in turn: their plan is sound, and no robot waits longer than it takes all before it to arrive.
use Rattle.std.proofs.Common.{ℕ, suc, zero, ◌≡◌, ◌+◌, ◌*◌, ◌<◌, ◌≤◌, ◌⊎◌, List, [], ◌∷◌, ◌++◌, sym, ap, ◌∙◌, subst, inl, inr, arith, length, take, length-append}
use Rattle.std.proofs.lemmas.Bool.{cases_lt}
use Rattle.std.proofs.lemmas.List.{get_or_append_left, get_or-take, length-take-le, take_all, take-append-le}
use Rattle.std.proofs.Math.Seq.{take-suc, get_or-append_seam, take-append_seam}
use Rattle.fleet_base.specs.declared.geometry.Cell.{Cell}
use Rattle.fleet_base.specs.Lists.{row_of}
use Rattle.fleet_base.specs.Grid.{OccupancyGrid}
use Rattle.fleet_base.specs.Plan.{IsSound, IsRotation}
use Rattle.fleet_gen.specs.declared.road.Road.{Road}
use Rattle.fleet_gen.specs.Roads.{IsRoad, moves_of, path_of}
use Rattle.fleet_gen.specs.Departures.{road_at, AreRoads, IsLeastWait, IsEarliest, AreEarliest, AreBeside}
use Rattle.plan_steps.proofs.Chains.{first_step}
use Rattle.fleet_gen.proofs.Ways.{length-path, sound_late}

pub few_moves : (r : Road) → IsRoad r → moves_of r ≤ 62
few_moves r lies = let a = lies.row in let b = lies.goal in omega (arith, a, b)

module _ (grid : OccupancyGrid) where
  -- the plan without robots is sound
  pub sound_none : IsSound grid []
  sound_none = record {
    free = λ i t h. absurd (omega (arith, h));
    steps = λ i t h. absurd (omega (arith, h));
    apart = record {
      shares = λ i j t lt h. absurd (omega (arith, h));
      swaps = λ i j t lt h. absurd (omega (arith, h));
      rotations = still;
    };
  }
    where
      still : (t : ℕ) (robots : List ℕ) → IsRotation [] t robots → ⊥
      still t [] r = r.round
      still t (a ∷ ys) r = absurd (omega (arith, (first_step [] t a ys a r.round).1.here))

module _ (grid : OccupancyGrid) (roads : List Road) (ok : AreRoads grid roads) where
  module _ (plan : List (List Cell)) (turns : AreEarliest grid roads plan) where
    -- the first so many robots are sound together
    pub sound_front : (k : ℕ) → k ≤ length plan → IsSound grid (take k plan)
    sound_front zero h = sound_none grid
    sound_front (suc k) h =
        let e = turns k h in
        let l = e.least in
        subst (λ (p : List (List Cell)). IsSound grid p) (sym (take-suc plan k [] h ∙ ap (λ (row : List Cell). take k plan ++ row ∷ []) e.path)) l.sound

    pub all_sound : IsSound grid plan
    all_sound = subst (λ (p : List (List Cell)). IsSound grid p) (take_all (length plan) plan (omega arith)) (sound_front (length plan) (omega arith))

    -- a robot departs when all before it could have arrived, or earlier
    abbrev pub InTime : ℕ → Type 0
    InTime i = (wait : ℕ) × (row_of plan i ≡ path_of (road_at roads i) wait) × (wait ≤ 62 * i)

    front_beside : (k : ℕ) → k ≤ length plan → k < length roads → ((i : ℕ) → i < k → InTime i) → AreBeside (road_at roads k) (62 * k) (take k plan)
    front_beside k h there in_time i lt =
        let few : i < k = omega (arith, lt, length-take-le k plan h) in
        let t = in_time i few in
        let here : i < length roads = omega (arith, few, there) in
        record {
          other = road_at roads i;
          wait = t.0;
          is = get_or-take k plan i [] few ∙ t.1;
          lies = ok.lie i here;
          row = ok.rows i k few there;
          goal = ok.goals i k few there;
          in_time = omega (arith, t.2, few, few_moves (road_at roads i) (ok.lie i here));
        }

    module _ (few : length plan ≤ length roads) where
      pub in_time_upto : (k : ℕ) → k ≤ length plan → (i : ℕ) → i < k → InTime i
      in_time_upto zero h i lt = absurd (omega (arith, lt))
      in_time_upto (suc k) h i lt = go (cases_lt i k) (in_time_upto k (omega (arith, h)))
        where
          there : k < length roads
          there = omega (arith, h, few)

          here : ((j : ℕ) → j < k → InTime j) → InTime k
          here before =
              let e = turns k h in
              let l = e.least in
              let late = sound_late grid (take k plan) (road_at roads k) (62 * k) (ok.lie k there) (front_beside k (omega (arith, h)) there before) (62 * k) (sound_front k (omega (arith, h))) (ok.free k there) (omega arith) in
              (e.wait, e.path, l.least (62 * k) late)

          go : (i < k) ⊎ (k ≤ i) → ((j : ℕ) → j < k → InTime j) → InTime i
          go (inl below) before = before i below
          go (inr le) before = let e : k ≡ i = omega (arith, le, lt) in subst (λ (j : ℕ). InTime j) e (here before)

      pub in_time : (i : ℕ) → i < length plan → InTime i
      in_time = in_time_upto (length plan) (omega arith)

      -- so each path is short
      pub short_path : (i : ℕ) → i < length plan → (1 ≤ length (row_of plan i)) × (length (row_of plan i) ≤ 62 * i + 63)
      short_path i h =
          let t = in_time i h in
          let m = few_moves (road_at roads i) (ok.lie i (omega (arith, h, few))) in
          let l = ap length t.1 ∙ length-path (road_at roads i) t.0 in
          (omega (arith, l), omega (arith, l, m, t.2))

    -- beside them the next robot departs
    pub next_beside : (k : ℕ) → length plan ≡ k → k < length roads → AreBeside (road_at roads k) (62 * length plan) plan
    next_beside k is more =
        let few : length plan ≤ length roads = omega (arith, is, more) in
        let there : length plan < length roads = omega (arith, is, more) in
        let all : take (length plan) plan ≡ plan = take_all (length plan) plan (omega arith) in
        subst (λ (i : ℕ). AreBeside (road_at roads i) (62 * length plan) plan) is
        (subst (λ (p : List (List Cell)). AreBeside (road_at roads (length plan)) (62 * length plan) p) all
        (front_beside (length plan) (omega arith) there (in_time few)))

    module _ (wait : ℕ) where
      abbrev longer : List (List Cell)
      longer = plan ++ path_of (road_at roads (length plan)) wait ∷ []

      old_turn : (i : ℕ) → i < length plan → IsEarliest grid roads longer i
      old_turn i h =
          let e = turns i h in
          record {
            wait = e.wait;
            path = get_or_append_left plan (path_of (road_at roads (length plan)) wait ∷ []) [] i h ∙ e.path;
            least = subst (λ (p : List (List Cell)). IsLeastWait grid p (road_at roads i) e.wait) (sym (take-append-le i plan (path_of (road_at roads (length plan)) wait ∷ []) (omega (arith, h)))) e.least;
          }

      new_turn : IsLeastWait grid plan (road_at roads (length plan)) wait → IsEarliest grid roads longer (length plan)
      new_turn l = record {
        wait = wait;
        path = get_or-append_seam plan (path_of (road_at roads (length plan)) wait) [] [];
        least = subst (λ (p : List (List Cell)). IsLeastWait grid p (road_at roads (length plan)) wait) (sym (take-append_seam plan (path_of (road_at roads (length plan)) wait ∷ []))) l;
      }

      turns_after : IsLeastWait grid plan (road_at roads (length plan)) wait → AreEarliest grid roads longer
      turns_after l i h = go (cases_lt i (length plan))
        where
          go : (i < length plan) ⊎ (length plan ≤ i) → IsEarliest grid roads longer i
          go (inl lt) = old_turn i lt
          go (inr le) =
              let e : length plan ≡ i = omega (arith, le, h, length-append plan (path_of (road_at roads (length plan)) wait ∷ [])) in
              subst (λ (j : ℕ). IsEarliest grid roads longer j) e (new_turn l)

    pub turns_more : (k wait : ℕ) (path : List Cell) (new : List (List Cell)) → length plan ≡ k → IsLeastWait grid plan (road_at roads k) wait → path ≡ path_of (road_at roads k) wait → new ≡ plan ++ path ∷ []
        → AreEarliest grid roads new
    turns_more k wait path new is l p e =
        let here = subst (λ (i : ℕ). IsLeastWait grid plan (road_at roads i) wait) (sym is) l in
        let same : new ≡ plan ++ path_of (road_at roads (length plan)) wait ∷ [] =
        e ∙ (ap (λ (q : List Cell). plan ++ q ∷ []) p ∙ ap (λ (i : ℕ). plan ++ path_of (road_at roads i) wait ∷ []) (sym is)) in
        subst (λ (q : List (List Cell)). AreEarliest grid roads q) (sym same) (turns_after wait here)

    pub one_robot_more : (k : ℕ) (path : List Cell) (new : List (List Cell)) → length plan ≡ k → new ≡ plan ++ path ∷ [] → length new ≡ k + 1
    one_robot_more k path new is e = omega (arith, is, ap length e, length-append plan (path ∷ []))
