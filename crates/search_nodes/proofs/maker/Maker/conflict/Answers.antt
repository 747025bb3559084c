use Rattle.std.proofs.Common.{ℕ, ◌≡◌, ◌+◌, ◌<◌, ◌≤◌, ◌⊎◌, ◌↔◌, None, Bool, false, inl, inr, sym, subst, arith, length}
use Rattle.std.specs.Prelude.{IsTrue}
use Rattle.std.proofs.lemmas.Bool.{cases_eq}
use Rattle.fleet_base.specs.declared.geometry.Visit.{Visit}
use Rattle.fleet_base.specs.Order.{Graph}
use Rattle.fleet_base.specs.Rules.{IsFleetState}
use Rattle.fleet_base.specs.Schedule.{IsLeastSchedule}
use Rattle.longest_path.specs.Decisions.{order_on}
use Rattle.longest_path.proofs.LiveLaws.{open_within}
use Rattle.search_nodes.specs.Making.{Making}
use Rattle.search_nodes.specs.Weighing.{IsUndecidable}
use Rattle.search_nodes.proofs.Inside.{from_live, live_rules}
use Rattle.search_nodes.proofs.Sides.{free_of_none}
use Rattle.search_nodes.proofs.Conflicts.{least_given, conflict_there, conflict_back}
use Rattle.search_nodes.proofs.maker.Maker.conflict.Goals as goal

-- one pair more is not in conflict
more : (now : Making) (n : ℕ) (b : Bool) → ((s : Visit → ℕ) → IsLeastSchedule now.graph now.state (order_on now.graph now.state now.decisions) s → IsTrue b ↔ IsUndecidable now.graph now.state (order_on now.graph now.state now.decisions) s n) → b ≡ false
    → ((q : ℕ) (s : Visit → ℕ) → q < n → IsLeastSchedule now.graph now.state (order_on now.graph now.state now.decisions) s → IsUndecidable now.graph now.state (order_on now.graph now.state now.decisions) s q → ⊥)
    → (q : ℕ) (s : Visit → ℕ) → q < n + 1 → IsLeastSchedule now.graph now.state (order_on now.graph now.state now.decisions) s → IsUndecidable now.graph now.state (order_on now.graph now.state now.decisions) s q → ⊥
more now n b told isnt below q s less least u = go (cases_eq q n)
  where
    go : (q ≡ n) ⊎ (q ≡ n → ⊥) → ⊥
    go (inl e) = let t = (told s least).1 (subst (λ (k : ℕ). IsUndecidable now.graph now.state (order_on now.graph now.state now.decisions) s k) e u) in cc
    go (inr ne) = below q s (omega (arith, less, ne)) least u

pub in_conflict-requires-clause-graph : goal.in_conflict-requires-clause-graph
in_conflict-requires-clause-graph c = sym c.self.invariant.live_graph

pub in_conflict-requires-clause-state : goal.in_conflict-requires-clause-state
in_conflict-requires-clause-state c = live_rules c.self.inside c.self.invariant c.args.self.now c.self.view_is

pub in_conflict-requires-clause-fleet : goal.in_conflict-requires-clause-fleet
in_conflict-requires-clause-fleet c = sym c.self.invariant.live_state

pub in_conflict-requires-clause-there : goal.in_conflict-requires-clause-there
in_conflict-requires-clause-there c = subst (λ (g : Graph). c.loop-number.number < length g.pairs) (sym c.self.invariant.live_graph) (omega (arith, c.loop-number-test.true, c.pair_count-number-end.ensures))

pub returns-then-in_conflict-clause-there : goal.returns-then-in_conflict-clause-there
returns-then-in_conflict-clause-there c = subst (λ (m : Making). c.loop-number.number < length m.graph.pairs) c.self.view_is (omega (arith, c.loop-number-test.true, c.pair_count-number-end.ensures))

pub returns-then-in_conflict-clause-free : goal.returns-then-in_conflict-clause-free
returns-then-in_conflict-clause-free c =
    let m = c.self.inside in
    let i = c.self.invariant in
    let now = c.args.self.now in
    let e = c.self.view_is in
    let lt : c.loop-number.number < length now.graph.pairs = subst (λ (n : Making). c.loop-number.number < length n.graph.pairs) e (omega (arith, c.loop-number-test.true, c.pair_count-number-end.ensures)) in
    let rules : IsFleetState now.graph now.state = from_live m i now e (λ g x ds. IsFleetState g x) (live_rules m i now e) in
    free_of_none now.graph now.state now.decisions rules c.loop-number.number lt (from_live m i now e (λ g x ds. order_on g x ds c.loop-number.number ≡ None) (c.in_conflict.ensures.none c.if-in_conflict.true))

pub returns-then-in_conflict-clause-conflict : goal.returns-then-in_conflict-clause-conflict
returns-then-in_conflict-clause-conflict c =
    let m = c.self.inside in
    let i = c.self.invariant in
    let now = c.args.self.now in
    let e = c.self.view_is in
    let q = c.loop-number.number in
    let lt : q < length now.graph.pairs = subst (λ (n : Making). q < length n.graph.pairs) e (omega (arith, c.loop-number-test.true, c.pair_count-number-end.ensures)) in
    let rules : IsFleetState now.graph now.state = from_live m i now e (λ g x ds. IsFleetState g x) (live_rules m i now e) in
    let told = from_live m i now e (λ g x ds. (s : Visit → ℕ) → IsLeastSchedule g x (order_on g x ds) s → IsTrue c.in_conflict.result ↔ IsUndecidable g x (order_on g x ds) s q) c.in_conflict.ensures.conflict in
    λ way s on least. conflict_there now.graph now.state now.decisions way on s rules q lt ((told s (least_given now.graph now.state now.decisions way on s least)).0 c.if-in_conflict.true)

pub loop-number-preserved : goal.loop-number-preserved
loop-number-preserved c =
    let m = c.self.inside in
    let i = c.self.invariant in
    let now = c.args.self.now in
    let e = c.self.view_is in
    let n = c.loop-number.number in
    let told = from_live m i now e (λ g x ds. (s : Visit → ℕ) → IsLeastSchedule g x (order_on g x ds) s → IsTrue c.in_conflict.result ↔ IsUndecidable g x (order_on g x ds) s n) c.in_conflict.ensures.conflict in
    more now n c.in_conflict.result told c.if-in_conflict.false c.loop-number.invariant

pub returns-clause-none : goal.returns-clause-none
returns-clause-none c =
    let now = c.args.self.now in
    let all : length now.graph.pairs ≤ c.loop-number.number = subst (λ (n : Making). length n.graph.pairs ≤ c.loop-number.number) c.self.view_is (omega (arith, c.loop-number-test.false, c.pair_count-number-end.ensures)) in
    λ way s q on least u.
    let lt = open_within now.graph now.state q u.free.0 in
    c.loop-number.invariant q s (omega (arith, lt, all)) (least_given now.graph now.state now.decisions way on s least) (conflict_back now.graph now.state now.decisions way on s q u)
