-- Where nodes come from, and which of them lie below which.
use Rattle.std.proofs.Common.{ℕ, ◌≡◌, ◌≢◌, ◌<◌, ◌≤◌, ◌∙◌, ◌⊎◌, List, [], ◌∷◌, ◌++◌, length, refl, sym, ap, subst, inl, inr, arith}
use Rattle.std.specs.Prelude.{slice_get, Some, None}
use Rattle.std.proofs.lemmas.Bool.{cases_lt}
use Rattle.std.proofs.lemmas.Option.{slice_get_within}
use Rattle.cert_tree.specs.Decisions.{Decision}
use Rattle.cert_tree.specs.Trees.{branch_to}
use Rattle.order_choice.specs.declared.made.Stand.{Stand}
use Rattle.order_choice.specs.declared.made.Stand.TheVariants.{Expanded}
use Rattle.order_choice.specs.Searching.{forced_on}
use Rattle.search_line.specs.declared.kept.Kept.{Kept}
use Rattle.search_line.specs.declared.kept.Origin.{Origin}
use Rattle.search_line.specs.Lines.{HasCost}
use Rattle.search_line.specs.Nodes.{IsWayTo}
use Rattle.search_line.specs.Nodes.IsWayTo.{to_root, to_child}
use Rattle.search_line.specs.Going.{EachHasWay, IsFrom, LeadUp, LiesBelow, HasNoCycle}
use Rattle.search_line.proofs.Linking.{same_some}

pub record IsRootWay (nodes : List Kept) (number : ℕ) (way : List Decision) : Type 0 where
  pub root : Kept
  pub there : slice_get nodes number ≡ Some root
  pub first : root.origin ≡ None
  pub number_is : number ≡ 0
  pub way_is : way ≡ []

pub record IsChildWay (nodes : List Kept) (number : ℕ) (way : List Decision) : Type 0 where
  pub cost : ℕ
  pub kept : Kept
  pub parent : Kept
  pub origin : Origin
  pub before : List Decision
  pub there : slice_get nodes number ≡ Some kept
  pub from : kept.origin ≡ Some origin
  pub above : slice_get nodes origin.parent ≡ Some parent
  pub less : origin.parent < number
  pub stand : parent.node.stand ≡ Expanded cost origin.pair
  pub leads : IsWayTo nodes origin.parent before
  pub way_is : way ≡ branch_to origin.pair origin.side ∷ forced_on parent.node.forced before

pub way_cases : (nodes : List Kept) (number : ℕ) (way : List Decision) → IsWayTo nodes number way → IsRootWay nodes number way ⊎ IsChildWay nodes number way
way_cases nodes _ _ (to_root root there first) = inl (record { root = root; there = there; first = first; number_is = refl; way_is = refl })
way_cases nodes _ _ (to_child number cost kept parent origin before there from above less stand leads) = inr (record { cost = cost; kept = kept; parent = parent; origin = origin; before = before; there = there; from = from; above = above; less = less; stand = stand; leads = leads; way_is = refl })

same_origin : (nodes : List Kept) (number : ℕ) (a b : Kept) (o p : Origin) → slice_get nodes number ≡ Some a → slice_get nodes number ≡ Some b → a.origin ≡ Some o → b.origin ≡ Some p → o ≡ p
same_origin nodes number a b o p there other from of =
    let same : a ≡ b = same_some (slice_get nodes number) a b there other in
    same_some a.origin o p from (ap (λ (z : Kept). z.origin) same ∙ of)

-- one way leads to a node
pub one_way : (nodes : List Kept) (number : ℕ) (a b : List Decision) → IsWayTo nodes number a → IsWayTo nodes number b → a ≡ b
one_way nodes _ _ b (to_root root there first) w = at (way_cases nodes 0 b w)
  where
    at : IsRootWay nodes 0 b ⊎ IsChildWay nodes 0 b → [] ≡ b
    at (inl r) = sym r.way_is
    at (inr k) = absurd (let lt : k.origin.parent < 0 = k.less in omega arith)
one_way nodes _ _ b (to_child number cost kept parent origin before there from above less stand leads) w = at (λ other o. one_way nodes origin.parent before other leads o) (way_cases nodes number b w)
  where
    at : ((other : List Decision) → IsWayTo nodes origin.parent other → before ≡ other) → IsRootWay nodes number b ⊎ IsChildWay nodes number b → branch_to origin.pair origin.side ∷ forced_on parent.node.forced before ≡ b
    at one (inl r) =
        let same : kept ≡ r.root = same_some (slice_get nodes number) kept r.root there r.there in
        let two : Some origin ≡ None = sym from ∙ ap (λ (z : Kept). z.origin) same ∙ r.first in
        cc
    at one (inr k) =
        let origins : origin ≡ k.origin = same_origin nodes number kept k.kept origin k.origin there k.there from k.from in
        let parents : parent ≡ k.parent = same_some (slice_get nodes origin.parent) parent k.parent above (subst (λ (o : Origin). slice_get nodes o.parent ≡ Some k.parent) (sym origins) k.above) in
        let ways : before ≡ k.before = one k.before (subst (λ (o : Origin). IsWayTo nodes o.parent k.before) (sym origins) k.leads) in
        ap (λ (o : Origin). branch_to o.pair o.side ∷ forced_on parent.node.forced before) origins ∙ ap (λ (p : Kept). branch_to k.origin.pair k.origin.side ∷ forced_on p.node.forced before) parents ∙ ap (λ (v : List Decision). branch_to k.origin.pair k.origin.side ∷ forced_on k.parent.node.forced v) ways ∙ sym k.way_is

-- a node that is not the root is a child
pub record HasChildWay (nodes : List Kept) (number : ℕ) : Type 0 where
  pub way : List Decision
  pub leads : IsWayTo nodes number way
  pub child : IsChildWay nodes number way

pub child_way : (nodes : List Kept) → EachHasWay nodes → (number : ℕ) → number < length nodes → 0 < number → HasChildWay nodes number
child_way nodes ways number inside more = at (way_cases nodes number way.0 way.1)
  where
    way : (w : List Decision) × IsWayTo nodes number w
    way = ways number inside

    at : IsRootWay nodes number way.0 ⊎ IsChildWay nodes number way.0 → HasChildWay nodes number
    at (inl r) = absurd (omega (arith, r.number_is, more))
    at (inr k) = record { way = way.0; leads = way.1; child = k }

-- what is not from anywhere is the root
pub from_there : (nodes : List Kept) → EachHasWay nodes → (number : ℕ) (x : Kept) → number < length nodes → 0 < number → slice_get nodes number ≡ Some x → x.origin ≡ None → ⊥
from_there nodes ways number x inside more there none =
    let k = child_way nodes ways number inside more in
    let same : x ≡ k.child.kept = same_some (slice_get nodes number) x k.child.kept there k.child.there in
    let two : None ≡ Some k.child.origin = sym none ∙ ap (λ (z : Kept). z.origin) same ∙ k.child.from in
    cc

-- a parent was made before its child
pub from_earlier : (nodes : List Kept) → EachHasWay nodes → (number : ℕ) (origin : Origin) → number < length nodes → 0 < number → IsFrom nodes number origin → origin.parent < number
from_earlier nodes ways number origin inside more from =
    let k = child_way nodes ways number inside more in
    let same : k.child.origin ≡ origin = same_origin nodes number k.child.kept from.kept k.child.origin origin k.child.there from.there k.child.from from.from in
    subst (λ (o : Origin). o.parent < number) same k.child.less

-- the root is from nowhere
pub from_later : (nodes : List Kept) → EachHasWay nodes → (number : ℕ) (origin : Origin) → IsFrom nodes number origin → 0 < number
from_later nodes ways number origin from = at (cases_lt 0 number)
  where
    inside : number < length nodes
    inside = slice_get_within nodes number from.kept from.there

    way : (w : List Decision) × IsWayTo nodes number w
    way = ways number inside

    root : number ≤ 0 → IsRootWay nodes number way.0 ⊎ IsChildWay nodes number way.0 → 0 < number
    root le (inl r) =
        let same : r.root ≡ from.kept = same_some (slice_get nodes number) r.root from.kept r.there from.there in
        let two : None ≡ Some origin = sym r.first ∙ ap (λ (z : Kept). z.origin) same ∙ from.from in
        cc
    root le (inr k) = let lt : k.origin.parent < number = k.less in omega arith

    at : (0 < number) ⊎ (number ≤ 0) → 0 < number
    at (inl lt) = lt
    at (inr le) = root le (way_cases nodes number way.0 way.1)

pub one_from : (nodes : List Kept) (number : ℕ) (a b : Origin) → IsFrom nodes number a → IsFrom nodes number b → a ≡ b
one_from nodes number a b f h = same_origin nodes number f.kept h.kept a b f.there h.there f.from h.from

-- a path that goes one node further up
pub up_one : (nodes : List Kept) (number : ℕ) (path : List ℕ) (above : ℕ) (origin : Origin) → LeadUp nodes number path above → IsFrom nodes above origin → LeadUp nodes number (path ++ above ∷ []) origin.parent
up_one nodes number [] above origin h from = (h, origin, subst (λ (k : ℕ). IsFrom nodes k origin) (sym h) from, refl)
up_one nodes number (k ∷ path) above origin h from = (h.0, h.1, h.2, up_one nodes h.1.parent path above origin h.3 from)

-- a path whose last node is taken off
pub record EndsWith (nodes : List Kept) (number : ℕ) (path : List ℕ) (k above : ℕ) : Type 0 where
  pub origin : Origin
  pub from : IsFrom nodes k origin
  pub parent : origin.parent ≡ above
  pub rest : LeadUp nodes number path k

pub down_one : (nodes : List Kept) (number : ℕ) (path : List ℕ) (k above : ℕ) → LeadUp nodes number (path ++ k ∷ []) above → EndsWith nodes number path k above
down_one nodes number [] k above h = record { origin = h.1; from = subst (λ (j : ℕ). IsFrom nodes j h.1) h.0 h.2; parent = h.3; rest = h.0 }
down_one nodes number (j ∷ path) k above h =
    let e = down_one nodes h.1.parent path k above h.3 in
    record { origin = e.origin; from = e.from; parent = e.parent; rest = (h.0, h.1, h.2, e.rest) }

pub below_more : (nodes : List Kept) (number above : ℕ) (origin : Origin) → LiesBelow nodes number above → IsFrom nodes above origin → LiesBelow nodes number origin.parent
below_more nodes number above origin h from = (h.0 ++ above ∷ [], up_one nodes number h.0 above origin h.1 from)

-- a node below another one is from somewhere
pub record GoesUp (nodes : List Kept) (number above : ℕ) : Type 0 where
  pub origin : Origin
  pub from : IsFrom nodes number origin
  pub rest : LiesBelow nodes origin.parent above

pub goes_up : (nodes : List Kept) (number above : ℕ) → LiesBelow nodes number above → number ≢ above → GoesUp nodes number above
goes_up nodes number above h ne = at h.0 h.1
  where
    at : (path : List ℕ) → LeadUp nodes number path above → GoesUp nodes number above
    at [] e = absurd (ne e)
    at (k ∷ path) l = record { origin = l.1; from = l.2; rest = (path, l.3) }

pub below_less : (nodes : List Kept) (number above : ℕ) (origin : Origin) → LiesBelow nodes number above → number ≢ above → IsFrom nodes number origin → LiesBelow nodes origin.parent above
below_less nodes number above origin h ne from =
    let u = goes_up nodes number above h ne in
    subst (λ (o : Origin). LiesBelow nodes o.parent above) (one_from nodes number u.origin origin u.from from) u.rest

pub below_later : (nodes : List Kept) → EachHasWay nodes → (number above : ℕ) → LiesBelow nodes number above → number ≢ above → 0 < number
below_later nodes ways number above h ne = let u = goes_up nodes number above h ne in from_later nodes ways number u.origin u.from

-- a parent has no cycle, since it was expanded
pub parent_stands : (nodes : List Kept) → EachHasWay nodes → (number : ℕ) (origin : Origin) → IsFrom nodes number origin → HasNoCycle nodes origin.parent
parent_stands nodes ways number origin from =
    let k = child_way nodes ways number (slice_get_within nodes number from.kept from.there) (from_later nodes ways number origin from) in
    let same : k.child.origin ≡ origin = same_origin nodes number k.child.kept from.kept k.child.origin origin k.child.there from.there k.child.from from.from in
    subst (λ (o : Origin). HasNoCycle nodes o.parent) same (record { kept = k.child.parent; there = k.child.above; stand = subst (λ (s : Stand). HasCost s) (sym k.child.stand) tt })

pub stands_up : (nodes : List Kept) → EachHasWay nodes → (number : ℕ) (path : List ℕ) (above : ℕ) → LeadUp nodes number path above → HasNoCycle nodes number → HasNoCycle nodes above
stands_up nodes ways number [] above h stand = subst (λ (k : ℕ). HasNoCycle nodes k) h stand
stands_up nodes ways number (k ∷ path) above h stand = stands_up nodes ways h.1.parent path above h.3 (parent_stands nodes ways number h.1 h.2)

-- no way leads to the root
pub root_way : (nodes : List Kept) → EachHasWay nodes → (number : ℕ) → number ≡ 0 → number < length nodes → IsWayTo nodes number []
root_way nodes ways number zero_it inside = at (way_cases nodes number way.0 way.1)
  where
    way : (w : List Decision) × IsWayTo nodes number w
    way = ways number inside

    at : IsRootWay nodes number way.0 ⊎ IsChildWay nodes number way.0 → IsWayTo nodes number []
    at (inl r) = subst (λ (w : List Decision). IsWayTo nodes number w) r.way_is way.1
    at (inr k) = absurd (let lt : k.origin.parent < number = k.less in omega arith)

-- the root lies below no other node
pub root_top : (nodes : List Kept) → EachHasWay nodes → (number above : ℕ) → number ≡ 0 → LiesBelow nodes number above → above ≡ 0
root_top nodes ways number above zero_it h = at h.0 h.1
  where
    at : (path : List ℕ) → LeadUp nodes number path above → above ≡ 0
    at [] e = sym e ∙ zero_it
    at (k ∷ path) l = absurd (let lt : 0 < number = from_later nodes ways number l.1 l.2 in omega arith)
