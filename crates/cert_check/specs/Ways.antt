-- The decisions on the way to a node as they are kept, and the ways that are still to come.
use Rattle.std.specs.Prelude.{ℕ, ◌≡◌, ◌<◌, ◌≤◌, List, [], ◌∷◌, map, reverse, Bool, true, false, Option, Some, None, vec_len}
use Rattle.std.specs.Vec.{vec_capacity}
use Rattle.fleet_base.specs.declared.order.PairId.{PairId}
use Rattle.fleet_base.specs.declared.order.Side.{Side}
use Rattle.fleet_base.specs.declared.order.Side.TheVariants as side
use Rattle.cert_tree.specs.declared.node.Node.{Node}
use Rattle.cert_tree.specs.declared.node.Node.TheVariants.{Branch, Force, Cyclic, Bound, OpenLeaf}
use Rattle.cert_check.specs.declared.way.Step.{Step}
use Rattle.cert_check.specs.declared.way.Step.TheVariants.{Lower, Higher, Forced}
use Rattle.cert_check.specs.declared.way.Way.{Way}
use Rattle.cert_tree.specs.Decisions.{Decision, side_on}
use Rattle.cert_tree.specs.Trees.{branch_to, force_to}
use Rattle.cert_check.specs.Sides.{decided}

-- the pair of a step
abbrev pub step_pair : Step → PairId
step_pair (Lower q) = q
step_pair (Higher q) = q
step_pair (Forced q s) = q

-- the side of a step
abbrev pub step_side : Step → Side
step_side (Lower q) = side.Lower
step_side (Higher q) = side.Higher
step_side (Forced q s) = s

-- the pair that a step branched on
abbrev pub branch_of : Step → Option PairId
branch_of (Lower q) = Some q
branch_of (Higher q) = Some q
branch_of (Forced q s) = None

-- the decision of a step
abbrev pub decision_of : Step → Decision
decision_of (Lower q) = branch_to q side.Lower
decision_of (Higher q) = branch_to q side.Higher
decision_of (Forced q s) = force_to q s

-- the decisions of steps, of which the last one is first
abbrev pub way_of : List Step → List Decision
way_of steps = map decision_of steps

-- the ways that are to come behind the trees at hand
abbrev pub ways_behind : List Step → List (List Decision)
ways_behind [] = []
ways_behind (Lower q ∷ steps) = (branch_to q side.Higher ∷ way_of steps) ∷ ways_behind steps
ways_behind (Higher q ∷ steps) = ways_behind steps
ways_behind (Forced q s ∷ steps) = ways_behind steps

-- the way at hand and those behind
abbrev pub ways_of : List Step → List (List Decision)
ways_of steps = way_of steps ∷ ways_behind steps

-- no step decides a pair that an earlier one decided
abbrev pub AreApart : List Step → Type 0
AreApart [] = Unit {0}
AreApart (s ∷ steps) = (side_on (way_of steps) (step_pair s).0 ≡ None) × AreApart steps

-- each step is of a pair that is there
abbrev pub AreWithin : ℕ → List Step → Type 0
AreWithin pairs [] = Unit {0}
AreWithin pairs (s ∷ steps) = ((step_pair s).0 < pairs) × AreWithin pairs steps

-- these steps are kept, the last one first, with the sides that they give, and there is room for one for each pair
pub record HasWay (way : Way) (steps : List Step) : Type 0 where
  pub kept : reverse way.steps.items ≡ steps
  pub sides : (q : ℕ) → decided way.sides.items q ≡ side_on (way_of steps) q
  pub apart : AreApart steps
  pub within : AreWithin (vec_len way.sides) steps
  pub room : vec_len way.sides ≤ vec_capacity way.steps

-- the way that is kept is the next one, or there is none
abbrev pub NextWay : List (List Decision) → Way → Bool → Type 0
NextWay ways way true = ways ≡ ways_of (reverse way.steps.items)
NextWay ways way false = ways ≡ []

-- a Branch or a Force decides a pair that is there and undecided
abbrev pub DecidesFree : Way → Node → Type 0
DecidesFree way (Branch q) = (q.0 < vec_len way.sides) × (decided way.sides.items q.0 ≡ None)
DecidesFree way (Force q s cycle) = (q.0 < vec_len way.sides) × (decided way.sides.items q.0 ≡ None)
DecidesFree way (Cyclic cycle) = Unit {0}
DecidesFree way (Bound paths) = Unit {0}
DecidesFree way (OpenLeaf least) = Unit {0}
