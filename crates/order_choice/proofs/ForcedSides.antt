-- Sides that mates force, and what is left when forcing is at its end.
use Rattle.std.proofs.Common.{ℕ, ◌≡◌, List, [], ◌∷◌, Some, true, false, Bool, cond, refl, sym, ap, ◌∙◌, subst, inl, inr, arith, eqb}
use Rattle.std.specs.Prelude.{slice_get}
use Rattle.std.proofs.lemmas.Bool.{eqb-true, eq-eqb}
use Rattle.fleet_base.specs.declared.geometry.Visit.{Visit}
use Rattle.fleet_base.specs.declared.order.PairId.{PairId}
use Rattle.fleet_base.specs.declared.order.Side.{Side}
use Rattle.fleet_base.specs.Lists.{Chain}
use Rattle.fleet_base.specs.Order.{Graph, IsVisit, IsCycle, order_of, other_side}
use Rattle.fleet_base.specs.State.{FleetState}
use Rattle.fleet_base.specs.Open.{is_open}
use Rattle.fleet_base.specs.Rules.{IsFleetState}
use Rattle.cert_tree.specs.Decisions.{Decision, side_on, order_on, IsFree}
use Rattle.fleet_base.specs.Groups.{AreMates, AreOneApart, AreGrouped, GoesOn}
use Rattle.cert_tree.specs.Trees.{force_to}
use Rattle.order_choice.specs.Searching.{IsForcedOut}
use Rattle.cert_tree.specs.GroupRules.{HasGroupLeft, IsNewGroup}
use Rattle.fleet_base.proofs.OpenPairs.{open_goes_on}
use Rattle.edge_groups.proofs.Agreeing.{mates_close}
use Rattle.cert_tree.proofs.Branches.{decided}
use Rattle.cert_tree.proofs.TreeBound.{order_keeps}

-- all pairs of a free pair's group are free
free_along : (g : Graph) (x : FleetState) (way : List Decision) → IsForcedOut g x way → (between : List ℕ) (q r : ℕ) → IsFree g x way q → Chain (AreMates g) q between r → IsFree g x way r
free_along g x way forced [] q r f c = forced q r f c
free_along g x way forced (y ∷ ys) q r f c = free_along g x way forced ys y r (forced q y f c.0) c.1

pub free_group : (g : Graph) (x : FleetState) (way : List Decision) → IsForcedOut g x way → (q r : ℕ) → IsFree g x way q → AreGrouped g q r → IsFree g x way r
free_group g x way forced q r f (inl e) = subst (λ (w : ℕ). IsFree g x way w) e f
free_group g x way forced q r f (inr (between, c)) = free_along g x way forced between q r f c

-- a free pair lies in an open group without decisions, and in another one than each Branch pair above
pub group_left : (g : Graph) (x : FleetState) (way : List Decision) (q : ℕ) → IsForcedOut g x way → IsFree g x way q → HasGroupLeft g x way
group_left g x way q forced f = (q, λ r j. (free_group g x way forced q r f j).0, λ r j. (free_group g x way forced q r f j).1)

pub new_group : (g : Graph) (x : FleetState) (way : List Decision) (q : ℕ) → IsForcedOut g x way → IsFree g x way q → IsNewGroup g x way q
new_group g x way q forced f = (λ r j. (free_group g x way forced q r f j).0, λ r in_way j. decided way r in_way (free_group g x way forced q r f j).1)

-- a pair has the side of a mate that has one: the mate, then the pair, is a cycle where it has the other
pub mates_force : (g : Graph) (x : FleetState) (way : List Decision) (m q : PairId) (side : Side) → IsFleetState g x → IsFree g x way q.0 → AreMates g m.0 q.0 → order_on g x way m.0 ≡ Some side
    → IsCycle g (order_on g x (force_to q (other_side side) ∷ way)) (m ∷ q ∷ [])
mates_force g x way m q side state free mates s =
    mates_close g (order_on g x (force_to q (other_side side) ∷ way)) m q side mates of_mate of_pair (goes m.0) (goes q.0)
  where
    -- a pair and its mate are two
    apart : m.0 ≡ q.0 → ⊥
    apart e = near mates.lower_visits (ap (λ (p : Rattle.fleet_base.specs.declared.order.Pair.Pair). p.lower.index) same)
      where
        same : mates.one ≡ mates.two
        same = let a = mates.one_listed in let b = mates.two_listed in let c = ap (slice_get g.pairs) e in cc

        near : {a b : ℕ} → AreOneApart a b → a ≡ b → ⊥
        near (inl f) h = omega arith
        near (inr f) h = omega arith

    of_pair : order_on g x (force_to q (other_side side) ∷ way) q.0 ≡ Some (other_side side)
    of_pair = ap (λ b. cond b (cond (eqb q.0 q.0) (Some (other_side side)) (side_on way q.0)) (order_of x.sides q.0)) free.0 ∙ ap (λ b. cond b (Some (other_side side)) (side_on way q.0)) (eq-eqb q.0 q.0 refl)

    of_mate : order_on g x (force_to q (other_side side) ∷ way) m.0 ≡ Some side
    of_mate = go (eqb q.0 m.0) refl
      where
        go : (b : Bool) → eqb q.0 m.0 ≡ b → cond (is_open g x m.0) (cond (eqb q.0 m.0) (Some (other_side side)) (side_on way m.0)) (order_of x.sides m.0) ≡ Some side
        go true e = absurd (apart (sym (eqb-true q.0 m.0 e)))
        go false e = ap (λ b. cond (is_open g x m.0) (cond b (Some (other_side side)) (side_on way m.0)) (order_of x.sides m.0)) e ∙ s

    goes : (p : ℕ) → GoesOn g (order_on g x (force_to q (other_side side) ∷ way)) p
    goes p u v e = go (is_open g x p) refl
      where
        go : (b : Bool) → is_open g x p ≡ b → IsVisit g u
        go true o = subst (λ (w : Visit). IsVisit g w) (sym e.tail) (open_goes_on g x p e.pair e.side state.fleet.graph e.listed o)
        go false o = state.order.follows p u v (record { pair = e.pair; side = e.side; listed = e.listed; sided = sym (order_keeps g x (force_to q (other_side side) ∷ way) p o) ∙ e.sided; tail = e.tail; head = e.head })
