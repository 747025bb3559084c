-- An accepted delay, with the pairs that it switches, leads to a state that keeps the rules.
use Rattle.std.proofs.Common.{ℕ, ◌≡◌, ◌≢◌, ◌^◌, ◌<◌, ◌≤◌, ◌⊎◌, List, [], Some, Option, true, false, Bool, leb, ltb, eqb, set, refl, sym, ap, ◌∙◌, subst, inl, inr, arith, length, get_or}
use Rattle.std.specs.Prelude.{Contains, slice_get, ◌||◌, ◌&&◌, not, slice_index}
use Rattle.std.specs.Option.{option_map_or}
use Rattle.std.proofs.Math.ListN.{get_or-eq_default}
use Rattle.std.proofs.lemmas.Bool.{cases_lt, cases_eq, leb-false, ltb-false}
use Rattle.std.proofs.lemmas.List.{get_or-set_same, get_or-set_other, length-set}
use Rattle.fleet_base.specs.declared.geometry.Visit.{Visit}
use Rattle.fleet_base.specs.declared.order.Pair.{Pair}
use Rattle.fleet_base.specs.declared.order.PairId.{PairId}
use Rattle.fleet_base.specs.declared.order.Side.{Side}
use Rattle.fleet_base.specs.declared.order.Side.TheVariants.{Lower, Higher}
use Rattle.fleet_base.specs.declared.report.Report.{Report}
use Rattle.fleet_base.specs.declared.report.Report.TheVariants.{Arrive, Delay}
use Rattle.fleet_base.specs.declared.report.Why.TheVariants.{Robot, Index, Arrived, Tick, Size}
use Rattle.fleet_base.specs.Lists.{row_of}
use Rattle.fleet_base.specs.Order.{Graph, IsVisit, HasEdge, order_of, second_visit, turned}
use Rattle.fleet_base.specs.Open.{is_open, is_settled}
use Rattle.fleet_base.specs.State.{FleetState, arrived, released, released_count, delay_of}
use Rattle.fleet_base.specs.Rules.{IsFleetState}
use Rattle.fleet_base.proofs.Settling.{IsHeard, settles}
use Rattle.fleet_base.proofs.Turning.{turned_or_old, length-turned}
use Rattle.fleet_base.specs.Limits.{delay_limit, moment_limit, report_limit}
use Rattle.fleet_base.proofs.OpenPairs.{open_unsettled}
use Rattle.fleet_core.specs.declared.judging.Judged.TheVariants.{Accept, Known, Refused}
use Rattle.fleet_core.specs.Judgement.{judgement_of, is_bad_tick}
use Rattle.fleet_core.specs.Step.{Step, IsChoice, heard_of}
use Rattle.fleet_core.proofs.Arriving.{passed, neither, arrival_keeps_rules}

-- what an accepted delay says
pub record IsDelay (x : FleetState) (i k extra tick : ℕ) : Type 0 where
  pub robot : i < length x.lasts
  pub ahead : arrived x i < k
  pub after : x.clock ≤ tick
  pub before : tick ≤ moment_limit
  pub size : extra ≤ delay_limit

pub accepted_delay : (x : FleetState) (i k extra tick : ℕ) → judgement_of x (Delay i k extra tick) ≡ Accept → IsDelay x i k extra tick
accepted_delay x i k extra tick e =
    let a = passed (leb (length x.lasts) i) (Refused Robot) _ (λ h. cc) e in
    let b = passed (ltb (get_or x.lasts i 0) k) (Refused Index) _ (λ h. cc) a.1 in
    let c = passed (ltb (arrived x i) k && eqb extra (delay_of x (record { robot = i; index = k }))) Known _ (λ h. cc) b.1 in
    let d = passed (leb k (arrived x i)) (Refused Arrived) _ (λ h. cc) c.1 in
    let f = passed (is_bad_tick x tick) (Refused Tick) _ (λ h. cc) d.1 in
    let z = passed (ltb delay_limit extra) (Refused Size) Accept (λ h. cc) f.1 in
    let t = neither (ltb tick x.clock) (ltb moment_limit tick) f.0 in
    record { robot = leb-false _ _ a.0; ahead = leb-false _ _ d.0; after = ltb-false _ _ t.0; before = ltb-false _ _ t.1; size = ltb-false _ _ z.0 }

-- ---- open pairs

-- no visit of an open pair is released
open_unreleased : (g : Graph) (x : FleetState) (q : ℕ) (p : Pair) → slice_get g.pairs q ≡ Some p → is_open g x q ≡ true → (released_count x p.lower.robot ≤ p.lower.index) × (released_count x p.higher.robot ≤ p.higher.index)
open_unreleased g x q p e o =
    let b = open_unsettled g x q p e o in
    (ltb-false _ _ (neither _ _ b.0).0, ltb-false _ _ (neither _ _ b.1).0)

second_unreleased : (x : FleetState) (p : Pair) (s : Side) → (released_count x p.lower.robot ≤ p.lower.index) × (released_count x p.higher.robot ≤ p.higher.index) → released_count x (second_visit p s).robot ≤ (second_visit p s).index
second_unreleased x p Lower h = h.1
second_unreleased x p Higher h = h.0

module _ (g : Graph) (x : FleetState) (i k extra tick : ℕ) (switched : List PairId) (s : IsFleetState g x) (a : IsDelay x i k extra tick) (few : x.count < report_limit) (choice : IsChoice g x (Delay i k extra tick) switched) where
  abbrev heard : FleetState
  heard = record (heard_of x (Delay i k extra tick)) { sides = turned x.sides switched }

  there : i < length g.lasts
  there = omega (arith, a.robot, ap length s.fleet.lasts)

  -- an edge of the new order is one of the old order, or its head is not released
  old_edge : (q : ℕ) (u v : Visit) → HasEdge g (order_of heard.sides) q u v → HasEdge g (order_of x.sides) q u v ⊎ (released_count x v.robot ≤ v.index)
  old_edge q u v e = go (turned_or_old x.sides switched q)
    where
      shut : (p : PairId) → Contains switched p → p.0 ≡ q → released_count x v.robot ≤ v.index
      shut p h same =
          let o : is_open g (heard_of x (Delay i k extra tick)) p.0 ≡ true = subst (λ (r : PairId). is_open g (heard_of x (Delay i k extra tick)) r.0 ≡ true) h.2 (choice.are_open h.0 p h.1) in
          let w = open_unreleased g x q e.pair e.listed (subst (λ (n : ℕ). is_open g (heard_of x (Delay i k extra tick)) n ≡ true) same o) in
          subst (λ (z : Visit). released_count x z.robot ≤ z.index) (sym e.head) (second_unreleased x e.pair e.side w)

      go : (order_of (turned x.sides switched) q ≡ order_of x.sides q) ⊎ ((p : PairId) × Contains switched p × (p.0 ≡ q)) → HasEdge g (order_of x.sides) q u v ⊎ (released_count x v.robot ≤ v.index)
      go (inl same) = inl (record { pair = e.pair; side = e.side; listed = e.listed; sided = sym same ∙ e.sided; tail = e.tail; head = e.head })
      go (inr r) = inr (shut r.0 r.1 r.2)

  -- of a released visit it is one of the old order
  edge_of_released : (q : ℕ) (u v : Visit) → HasEdge g (order_of heard.sides) q u v → v.index < released_count x v.robot → HasEdge g (order_of x.sides) q u v
  edge_of_released q u v e h = go (old_edge q u v e)
    where
      go : HasEdge g (order_of x.sides) q u v ⊎ (released_count x v.robot ≤ v.index) → HasEdge g (order_of x.sides) q u v
      go (inl old) = old
      go (inr le) = absurd (omega (arith, le, h))

  -- the delays
  other_row : (j : ℕ) → j ≢ i → row_of heard.delays j ≡ row_of x.delays j
  other_row j ne = get_or-set_other x.delays i j (set (row_of x.delays i) k extra) [] ne

  own_row : row_of heard.delays i ≡ set (row_of x.delays i) k extra
  own_row = get_or-set_same x.delays i (set (row_of x.delays i) k extra) [] (omega (arith, there, s.fleet.delays))

  row_length : (j : ℕ) → length (row_of heard.delays j) ≡ length (row_of x.delays j)
  row_length j = go (cases_eq j i)
    where
      go : (j ≡ i) ⊎ (j ≡ i → ⊥) → length (row_of heard.delays j) ≡ length (row_of x.delays j)
      go (inl e) = subst (λ (n : ℕ). length (row_of heard.delays n) ≡ length (row_of x.delays n)) (sym e) (ap length own_row ∙ length-set (row_of x.delays i) k extra)
      go (inr ne) = ap length (other_row j ne)

  -- the delay of a visit is the old one, or the report's
  old_or_new : (v : Visit) → (delay_of heard v ≡ delay_of x v) ⊎ ((v.robot ≡ i) × (v.index ≡ k))
  old_or_new v = go (cases_eq v.robot i) (cases_eq v.index k)
    where
      go : (v.robot ≡ i) ⊎ (v.robot ≡ i → ⊥) → (v.index ≡ k) ⊎ (v.index ≡ k → ⊥) → (delay_of heard v ≡ delay_of x v) ⊎ ((v.robot ≡ i) × (v.index ≡ k))
      go (inl e) (inl f) = inr (e, f)
      go (inl e) (inr ne) = inl (subst (λ (n : ℕ). slice_index (row_of heard.delays n) v.index ≡ slice_index (row_of x.delays n) v.index) (sym e) (ap (λ (r : List ℕ). get_or r v.index 0) own_row ∙ get_or-set_other (row_of x.delays i) k v.index extra 0 ne))
      go (inr ne) o = inl (ap (λ (r : List ℕ). get_or r v.index 0) (other_row v.robot ne))

  small : (v : Visit) → delay_of heard v ≤ delay_limit
  small v = go (old_or_new v) (cases_lt k (length (row_of x.delays i)))
    where
      go : (delay_of heard v ≡ delay_of x v) ⊎ ((v.robot ≡ i) × (v.index ≡ k)) → (k < length (row_of x.delays i)) ⊎ (length (row_of x.delays i) ≤ k) → delay_of heard v ≤ delay_limit
      go (inl e) o = omega (arith, e, s.delays v)
      go (inr e) (inl h) =
          let d : delay_of heard v ≡ extra = ap (λ (j : ℕ). get_or (row_of heard.delays j) v.index 0) e.0 ∙ ap (λ (m : ℕ). get_or (row_of heard.delays i) m 0) e.1 ∙ ap (λ (r : List ℕ). get_or r k 0) own_row ∙ get_or-set_same (row_of x.delays i) k extra 0 h in
          omega (arith, d, a.size)
      go (inr e) (inr h) =
          let d : delay_of heard v ≡ 0 = ap (λ (j : ℕ). get_or (row_of heard.delays j) v.index 0) e.0 ∙ ap (λ (m : ℕ). get_or (row_of heard.delays i) m 0) e.1 ∙ get_or-eq_default (row_of heard.delays i) 0 (omega (arith, h, row_length i)) in
          omega (arith, d)

  none_first : (j : ℕ) → j < length g.lasts → delay_of heard (record { robot = j; index = 0 }) ≡ 0
  none_first j h = go (old_or_new (record { robot = j; index = 0 }))
    where
      go : (delay_of heard (record { robot = j; index = 0 }) ≡ delay_of x (record { robot = j; index = 0 })) ⊎ ((j ≡ i) × (0 ≡ k)) → delay_of heard (record { robot = j; index = 0 }) ≡ 0
      go (inl e) = e ∙ s.no_delay j h
      go (inr e) = absurd (omega (arith, e.1, a.ahead))

  pub heard_keeps : IsHeard g heard
  heard_keeps = record {
    fleet = record {
      graph = s.fleet.graph;
      lasts = s.fleet.lasts;
      plan_sides = s.fleet.plan_sides;
      sides = length-turned x.sides switched ∙ s.fleet.sides;
      arrivals = s.fleet.arrivals;
      releases = s.fleet.releases;
      delays = length-set x.delays i _ ∙ s.fleet.delays;
      visits = λ j h. row_length j ∙ s.fleet.visits j h;
    };
    window = s.releases.window;
    started = s.releases.started;
    within = s.releases.within;
    reach = λ j h. (s.releases.last j h).within;
    clear = λ j h q u v e r m. (s.releases.last j h).clear q u v (edge_of_released q u v e (free j h v r m)) r m;
    ticks = record {
      start = s.ticks.start;
      arrivals_rise = s.ticks.arrivals_rise;
      releases_rise = s.ticks.releases_rise;
      after_window = s.ticks.after_window;
      before_arrival = s.ticks.before_arrival;
      arrivals_past = λ v h. omega (arith, s.ticks.arrivals_past v h, a.after);
      releases_past = λ v h. omega (arith, s.ticks.releases_past v h, a.after);
      clock = a.before;
      waited = λ q u v e h. s.ticks.waited q u v (edge_of_released q u v e h) h;
    };
    no_delay = none_first;
    delays = small;
    order = choice.sound;
    starts = λ q u v e. later q u v e (old_edge q u v e);
    count = omega (arith, few);
  }
    where
      free : (j : ℕ) → j < length g.lasts → (v : Visit) → v.robot ≡ j → v.index ≤ released x j → v.index < released_count x v.robot
      free j h v r m = subst (λ (n : ℕ). v.index < released_count x n) (sym r) (omega (arith, m, s.releases.started j h, s.releases.within j h))

      second_there : (p : Pair) (d : Side) → IsVisit g p.lower → IsVisit g p.higher → (second_visit p d).robot < length g.lasts
      second_there p Lower l h = h.robot
      second_there p Higher l h = l.robot

      head_there : (q : ℕ) (u v : Visit) → HasEdge g (order_of heard.sides) q u v → v.robot < length g.lasts
      head_there q u v e = subst (λ (z : Visit). z.robot < length g.lasts) (sym e.head) (second_there e.pair e.side (s.fleet.graph.lower q e.pair e.listed) (s.fleet.graph.higher q e.pair e.listed))

      later : (q : ℕ) (u v : Visit) → HasEdge g (order_of heard.sides) q u v → HasEdge g (order_of x.sides) q u v ⊎ (released_count x v.robot ≤ v.index) → 1 ≤ v.index
      later q u v e (inl old) = s.starts q u v old
      later q u v e (inr le) = omega (arith, le, s.releases.started v.robot (head_there q u v e), s.releases.within v.robot (head_there q u v e))

-- a step of a delay keeps the rules of a fleet state
pub delay_keeps_rules : (g : Graph) (x : FleetState) (i k extra tick : ℕ) (switched : List PairId) (releases : List Visit) (x' : FleetState)
    → IsFleetState g x → Step g x (Delay i k extra tick) switched releases x' → IsFleetState g x'
delay_keeps_rules g x i k extra tick switched releases x' s step =
    settles g (heard g x i k extra tick switched s a step.proposal.count step.choice) x' (heard_keeps g x i k extra tick switched s a step.proposal.count step.choice) step.state
  where
    a : IsDelay x i k extra tick
    a = accepted_delay x i k extra tick step.proposal.accepted

-- a step keeps the rules of a fleet state
pub step_keeps_rules : (g : Graph) (x : FleetState) (report : Report) (switched : List PairId) (releases : List Visit) (x' : FleetState) → IsFleetState g x → Step g x report switched releases x' → IsFleetState g x'
step_keeps_rules g x (Arrive i k tick) switched releases x' s step =
    arrival_keeps_rules g x i k tick releases x' s (subst (λ (qs : List PairId). Step g x (Arrive i k tick) qs releases x') step.proposal.switches step)
step_keeps_rules g x (Delay i k extra tick) switched releases x' s step = delay_keeps_rules g x i k extra tick switched releases x' s step

-- the state with the delay applied keeps them before any switch and release: what is released is a matter of arrivals and sides alone
pub heard_delay_keeps_rules : (g : Graph) (x : FleetState) (i k extra tick : ℕ) → IsFleetState g x → judgement_of x (Delay i k extra tick) ≡ Accept → x.count < report_limit → IsFleetState g (heard_of x (Delay i k extra tick))
heard_delay_keeps_rules g x i k extra tick s accepted few = record {
  fleet = h.fleet;
  releases = record { window = h.window; started = h.started; within = h.within; last = λ j l. let m = s.releases.last j l in record { within = m.within; clear = m.clear; greatest = m.greatest } };
  ticks = h.ticks;
  no_delay = h.no_delay;
  delays = h.delays;
  order = h.order;
  starts = h.starts;
  count = h.count;
}
  where
    h : IsHeard g (heard_of x (Delay i k extra tick))
    h = heard_keeps g x i k extra tick [] s (accepted_delay x i k extra tick accepted) few (record { are_open = λ n d lt. absurd (omega (arith, lt)); sound = s.order })
