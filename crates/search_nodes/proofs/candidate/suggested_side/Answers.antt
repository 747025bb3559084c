use Rattle.std.proofs.Common.{ℕ, ◌≡◌, ◌<◌, Some, sym, subst, ap, arith, length}
use Rattle.std.specs.Prelude.{slice_get}
use Rattle.fleet_base.specs.declared.order.Side.{Side}
use Rattle.fleet_base.specs.Order.{other_side}
use Rattle.fleet_base.specs.State.{FleetState}
use Rattle.fleet_base.specs.Schedule.{ObeysSide}
use Rattle.longest_path.specs.Deciding.{order_in_force}
use Rattle.order_choice.specs.Candidates.{IsSuggested}
use Rattle.order_choice.specs.Candidates.IsSuggested.{obeys_old, obeys_other, obeys_neither}
use Rattle.search_nodes.proofs.Sides.{free_of_none}
use Rattle.search_nodes.proofs.Conflicts.{free_side}
use Rattle.search_nodes.proofs.candidate.suggested_side.Goals as goal

pub side-old-requires : goal.side-old-requires
side-old-requires c = subst (λ (y : FleetState). c.args.q.0 < length y.sides) (sym c.requires.fleet) (omega (arith, c.requires.state.fleet.sides, c.requires.there))

pub obeys-requires-clause-open : goal.obeys-requires-clause-open
obeys-requires-clause-open c = (free_of_none c.args.live.now.graph c.args.live.now.state c.args.live.now.decisions c.requires.state c.args.q.0 c.requires.there c.requires.none).0

pub obeys-requires-2-clause-open : goal.obeys-requires-2-clause-open
obeys-requires-2-clause-open c = (free_of_none c.args.live.now.graph c.args.live.now.state c.args.live.now.decisions c.requires.state c.args.q.0 c.requires.there c.requires.none).0

-- the side that was read is the state's
same_old : (x y : FleetState) (q : ℕ) (read old : Side) → y ≡ x → slice_get y.sides q ≡ Some read → slice_get x.sides q ≡ Some old → read ≡ old
same_old x y q read old e a b = let z = ap (λ (f : FleetState). slice_get f.sides q) e in cc

pub returns-then-obeys : goal.returns-then-obeys
returns-then-obeys c =
    let g = c.args.live.now.graph in
    let x = c.args.live.now.state in
    free_side g x (order_in_force c.args.live.now) c.args.q.0 c.side-old.result c.requires.none (λ pair old s l o least.
    let e = same_old x c.args.fleet.now c.args.q.0 c.side-old.result old c.requires.fleet c.side-old.ensures o in
    let h : ObeysSide x s pair c.side-old.result = (c.obeys.ensures pair s l least).0 c.if-obeys.true in
    subst (λ (d : Side). IsSuggested x s pair d c.side-old.result) e (obeys_old h))

pub returns-then-obeys-2 : goal.returns-then-obeys-2
returns-then-obeys-2 c =
    let g = c.args.live.now.graph in
    let x = c.args.live.now.state in
    free_side g x (order_in_force c.args.live.now) c.args.q.0 c.other-then-obeys-2.result c.requires.none (λ pair old s l o least.
    let e = same_old x c.args.fleet.now c.args.q.0 c.side-old.result old c.requires.fleet c.side-old.ensures o in
    let no : ObeysSide x s pair c.side-old.result → ⊥ = λ h. let t = (c.obeys.ensures pair s l least).1 h in let f = c.if-obeys.false in cc in
    let turned : c.other.result ≡ other_side c.side-old.result = c.other.ensures in
    let again : c.other-then-obeys-2.result ≡ other_side c.side-old.result = c.other-then-obeys-2.ensures in
    let h : ObeysSide x s pair (other_side c.side-old.result) = subst (λ (d : Side). ObeysSide x s pair d) turned ((c.obeys-2.ensures pair s l least).0 c.if-obeys-2.true) in
    subst (λ (d : Side). IsSuggested x s pair d c.other-then-obeys-2.result) e (subst (λ (d : Side). IsSuggested x s pair c.side-old.result d) (sym again) (obeys_other no h)))

pub returns : goal.returns
returns c =
    let g = c.args.live.now.graph in
    let x = c.args.live.now.state in
    free_side g x (order_in_force c.args.live.now) c.args.q.0 c.side-old.result c.requires.none (λ pair old s l o least.
    let e = same_old x c.args.fleet.now c.args.q.0 c.side-old.result old c.requires.fleet c.side-old.ensures o in
    let no : ObeysSide x s pair c.side-old.result → ⊥ = λ h. let t = (c.obeys.ensures pair s l least).1 h in let f = c.if-obeys.false in cc in
    let turned : c.other.result ≡ other_side c.side-old.result = c.other.ensures in
    let nor : ObeysSide x s pair (other_side c.side-old.result) → ⊥ = λ h. let t = (c.obeys-2.ensures pair s l least).1 (subst (λ (d : Side). ObeysSide x s pair d) (sym turned) h) in let f = c.if-obeys-2.false in cc in
    subst (λ (d : Side). IsSuggested x s pair d c.side-old.result) e (obeys_neither no nor))
