-- The decisions in force, on the way up and down again.
use Rattle.std.proofs.Common.{ℕ, suc, ◌≡◌, ◌+◌, ◌<◌, ◌≤◌, ◌∙◌, List, [], ◌∷◌, length, drop, refl, sym, ap, subst, arith}
use Rattle.std.specs.Prelude.{slice_get, Option, Some}
use Rattle.std.proofs.lemmas.List.{drop-drop}
use Rattle.std.proofs.lemmas.Option.{slice_get_within}
use Rattle.fleet_base.specs.declared.order.PairId.{PairId}
use Rattle.fleet_base.specs.declared.order.Side.{Side}
use Rattle.fleet_base.specs.Order.{Graph, IsCyclic}
use Rattle.fleet_base.specs.State.{FleetState}
use Rattle.fleet_base.specs.Rules.{IsFleetState}
use Rattle.longest_path.specs.declared.decision.Decision.{Decision as Given}
use Rattle.longest_path.specs.Closed.{AgreesOnClosed}
use Rattle.longest_path.specs.Decisions.{order_on as given_order, IsFree as IsFreeGiven}
use Rattle.longest_path.specs.Extending.{Extends}
use Rattle.longest_path.proofs.Decided.{agrees_on}
use Rattle.longest_path.proofs.Extending.{cyclic_more}
use Rattle.longest_path.proofs.Levels.{obeyed_acyclic}
use Rattle.cert_tree.specs.Decisions.{Decision, order_on, IsFree}
use Rattle.cert_tree.specs.Trees.{branch_to, force_to}
use Rattle.order_choice.specs.declared.made.Forcing.{Forcing}
use Rattle.order_choice.specs.declared.made.Stand.{Stand}
use Rattle.order_choice.specs.declared.made.Stand.TheVariants.{Round, Waiting, Expanded}
use Rattle.order_choice.specs.Searching.{AreForced, IsRelaxed, StandsSo, IsMadeRight, forced_on}
use Rattle.order_choice.proofs.Expanding.{forced_extends}
use Rattle.search_nodes.specs.Making.{Making, given_on, KeepsBest}
use Rattle.search_nodes.proofs.Forcings.{given_forced}
use Rattle.search_nodes.proofs.Ways.{same_order, free_given}
use Rattle.search_line.specs.declared.kept.Kept.{Kept}
use Rattle.search_line.specs.declared.kept.Origin.{Origin}
use Rattle.search_line.specs.Lines.{HasCost}
use Rattle.search_line.specs.Nodes.{IsWayTo}
use Rattle.search_line.specs.Going.{EachHasWay, IsFrom, AreThoseOf, AreMadeRight, HasNoCycle, CanForce}
use Rattle.search_line.proofs.Linking.{same_some}
use Rattle.search_line.proofs.Climbing.{HasChildWay, child_way, one_way, one_from, root_way}
use Rattle.search_nodes.specs.Forcing.{given_to, given_after}

-- one step after another
pub best_itself : (m : Making) → KeepsBest m m
best_itself m = record { graph = refl; state = refl; best = refl; cost = refl; asked = omega arith }

pub best_then : (a b c : Making) → KeepsBest a b → KeepsBest b c → KeepsBest a c
best_then a b c one two = record {
  graph = two.graph ∙ one.graph;
  state = two.state ∙ one.state;
  best = two.best ∙ one.best;
  cost = two.cost ∙ one.cost;
  asked = omega (arith, one.asked, two.asked);
}

pub best_with : (a b : Making) (ds : List Given) → b ≡ record a { decisions = ds } → KeepsBest a b
best_with a b ds e = subst (λ (z : Making). KeepsBest a z) (sym e) (record { graph = refl; state = refl; best = refl; cost = refl; asked = omega arith })

-- forced decisions are taken back again
pub length_forced : (fs : List Forcing) (way : List Decision) → length (given_on (forced_on fs way)) ≡ length fs + length way
length_forced [] way = omega (arith, length_given way)
  where
    length_given : (w : List Decision) → length (given_on w) ≡ length w
    length_given [] = refl
    length_given (d ∷ w) = ap suc (length_given w)
length_forced (f ∷ fs) way = omega (arith, length_forced fs (force_to f.pair f.side ∷ way))

pub drop_forced : (fs : List Forcing) (way : List Decision) → drop (length fs) (given_on (forced_on fs way)) ≡ given_on way
drop_forced [] way = refl
drop_forced (f ∷ fs) way =
    let all = given_on (forced_on fs (force_to f.pair f.side ∷ way)) in
    let more : length (f ∷ fs) ≡ length fs + 1 = omega arith in
    ap (λ (n : ℕ). drop n all) more ∙ sym (drop-drop 1 (length fs) all) ∙ ap (λ (z : List Given). drop 1 z) (drop_forced fs (force_to f.pair f.side ∷ way))

-- a part decision with a relaxed cost has no cycle
pub relaxed_acyclic : (g : Graph) (x : FleetState) → IsFleetState g x → (way : List Decision) (cost : ℕ) → IsRelaxed g x way cost → IsCyclic g (order_on g x way) → ⊥
relaxed_acyclic g x state way cost r =
    let agrees : AgreesOnClosed g x (order_on g x way) = subst (λ (o : ℕ → Option Side). AgreesOnClosed g x o) (same_order g x way) (agrees_on g x (given_on way)) in
    obeyed_acyclic g x state (order_on g x way) agrees r.ticks r.least.obeys

pub standing_acyclic : (g : Graph) (x : FleetState) → IsFleetState g x → (way : List Decision) (stand : Stand) → HasCost stand → StandsSo g x way stand → IsCyclic g (order_on g x way) → ⊥
standing_acyclic g x state way (Round cycle) cost h = absurd cost
standing_acyclic g x state way (Waiting c) cost h = relaxed_acyclic g x state way c h
standing_acyclic g x state way (Expanded c q) cost h = relaxed_acyclic g x state way c h.0

-- the pair that a node was expanded on was free
pub expanded_free : (g : Graph) (x : FleetState) (way : List Decision) (stand : Stand) (cost : ℕ) (q : PairId) → stand ≡ Expanded cost q → StandsSo g x way stand → IsFree g x way q.0
expanded_free g x way stand cost q e h =
    let s : StandsSo g x way (Expanded cost q) = subst (λ (z : Stand). StandsSo g x way z) e h in
    (s.1 s.0.ticks s.0.least).free

-- what giving one decision asks for
pub record CanDescend (g : Graph) (x : FleetState) (ds : List Given) (q : PairId) (side : Side) : Type 0 where
  pub free : IsFreeGiven g x ds q.0
  pub acyclic : IsCyclic g (given_order g x (given_to q side ∷ ds)) → ⊥

pub can_descend : (g : Graph) (x : FleetState) (way : List Decision) (ds : List Given) (d : Decision) (q : PairId) (more : List Forcing) → ds ≡ given_on way → q.0 ≡ d.pair → IsFree g x way d.pair → AreForced g x more (d ∷ way) → (IsCyclic g (order_on g x (forced_on more (d ∷ way))) → ⊥) → CanDescend g x ds q d.side
can_descend g x way ds d q more is pair free forced acyclic = subst (λ (z : List Given). CanDescend g x z q d.side) (sym is) (record {
  free = free_given g x way q.0 (subst (λ (k : ℕ). IsFree g x way k) (sym pair) free);
  acyclic = λ cyclic. acyclic (cyclic_more g (order_on g x (d ∷ way)) (order_on g x (forced_on more (d ∷ way))) (forced_extends g x more (d ∷ way) forced) (subst (λ (o : ℕ → Option Side). IsCyclic g o) (same_order g x (d ∷ way)) (subst (λ (k : ℕ). IsCyclic g (given_order g x (record { pair = record { 0 = k }; side = d.side } ∷ given_on way))) pair cyclic)));
})

-- the first of some pairs is forced, and then the others
pub force_first : (g : Graph) (x : FleetState) (ds : List Given) (f : Forcing) (fs : List Forcing) → CanForce g x ds (f ∷ fs) → CanDescend g x ds f.pair f.side
force_first g x ds f fs h = can_descend g x h.way ds (force_to f.pair f.side) f.pair fs h.given refl h.free.0 h.free.3 h.acyclic

pub force_rest : (g : Graph) (x : FleetState) (ds : List Given) (f : Forcing) (fs : List Forcing) → CanForce g x ds (f ∷ fs) → CanForce g x (given_to f.pair f.side ∷ ds) fs
force_rest g x ds f fs h = record { way = force_to f.pair f.side ∷ h.way; given = ap (λ (z : List Given). given_to f.pair f.side ∷ z) h.given; free = h.free.3; acyclic = h.acyclic }

-- going down to a node
pub record CanEnter (g : Graph) (x : FleetState) (nodes : List Kept) (number : ℕ) (origin : Origin) (ds : List Given) (kept : Kept) : Type 0 where
  pub descend : CanDescend g x ds origin.pair origin.side
  pub force : CanForce g x (given_to origin.pair origin.side ∷ ds) kept.node.forced
  pub there : AreThoseOf nodes number (given_after kept.node.forced (given_to origin.pair origin.side ∷ ds))

pub can_enter : (g : Graph) (x : FleetState) (nodes : List Kept) (number : ℕ) (origin : Origin) (ds : List Given) (kept : Kept) → IsFleetState g x → EachHasWay nodes → AreMadeRight g x nodes → 0 < number → HasNoCycle nodes number → slice_get nodes number ≡ Some kept → IsFrom nodes number origin → AreThoseOf nodes origin.parent ds → CanEnter g x nodes number origin ds kept
can_enter g x nodes number origin ds kept state ways right more stands there from those =
    subst (λ (o : Origin). CanEnter g x nodes number o ds kept) same (record {
      descend = can_descend g x before ds branch k.child.origin.pair kept.node.forced is refl free made.0 acyclic;
      force = record { way = branch ∷ before; given = ap (λ (z : List Given). given_to k.child.origin.pair k.child.origin.side ∷ z) is; free = made.0; acyclic = acyclic };
      there = record { kept = kept; way = branch ∷ before; there = there; leads = leads; same = ap (λ (z : List Given). given_after kept.node.forced (given_to k.child.origin.pair k.child.origin.side ∷ z)) is ∙ given_forced kept.node.forced (branch ∷ before) };
    })
  where
    k : HasChildWay nodes number
    k = child_way nodes ways number (slice_get_within nodes number from.kept from.there) more

    same : k.child.origin ≡ origin
    same = one_from nodes number k.child.origin origin (record { kept = k.child.kept; there = k.child.there; from = k.child.from }) from

    branch : Decision
    branch = branch_to k.child.origin.pair k.child.origin.side

    before : List Decision
    before = forced_on k.child.parent.node.forced k.child.before

    leads : IsWayTo nodes number (branch ∷ before)
    leads = subst (λ (w : List Decision). IsWayTo nodes number w) k.child.way_is k.leads

    parents : those.kept ≡ k.child.parent
    parents = same_some (slice_get nodes origin.parent) those.kept k.child.parent those.there (subst (λ (o : Origin). slice_get nodes o.parent ≡ Some k.child.parent) same k.child.above)

    ways_same : those.way ≡ k.child.before
    ways_same = one_way nodes origin.parent those.way k.child.before those.leads (subst (λ (o : Origin). IsWayTo nodes o.parent k.child.before) same k.child.leads)

    is : ds ≡ given_on before
    is = those.same ∙ ap (λ (z : Kept). given_on (forced_on z.node.forced those.way)) parents ∙ ap (λ (w : List Decision). given_on (forced_on k.child.parent.node.forced w)) ways_same

    above : IsMadeRight g x k.child.before k.child.parent.node
    above = right k.child.origin.parent k.child.parent k.child.before k.child.above k.child.leads

    free : IsFree g x before k.child.origin.pair.0
    free = expanded_free g x before k.child.parent.node.stand k.child.cost k.child.origin.pair k.child.stand above.1

    made : IsMadeRight g x (branch ∷ before) kept.node
    made = right number kept (branch ∷ before) there leads

    standing : HasCost kept.node.stand
    standing = subst (λ (z : Kept). HasCost z.node.stand) (same_some (slice_get nodes number) stands.kept kept stands.there there) stands.stand

    acyclic : IsCyclic g (order_on g x (forced_on kept.node.forced (branch ∷ before))) → ⊥
    acyclic = standing_acyclic g x state (forced_on kept.node.forced (branch ∷ before)) kept.node.stand standing made.1

-- going down to the root
pub can_begin : (g : Graph) (x : FleetState) (nodes : List Kept) (ds : List Given) (kept : Kept) → IsFleetState g x → EachHasWay nodes → AreMadeRight g x nodes → HasNoCycle nodes 0 → slice_get nodes 0 ≡ Some kept → ds ≡ [] → CanForce g x ds kept.node.forced × AreThoseOf nodes 0 (given_after kept.node.forced ds)
can_begin g x nodes ds kept state ways right stands there none = (
  record { way = []; given = none; free = made.0; acyclic = acyclic },
  record { kept = kept; way = []; there = there; leads = leads; same = ap (λ (z : List Given). given_after kept.node.forced z) none ∙ given_forced kept.node.forced [] },
)
  where
    leads : IsWayTo nodes 0 []
    leads = root_way nodes ways 0 refl (slice_get_within nodes 0 kept there)

    made : IsMadeRight g x [] kept.node
    made = right 0 kept [] there leads

    standing : HasCost kept.node.stand
    standing = subst (λ (z : Kept). HasCost z.node.stand) (same_some (slice_get nodes 0) stands.kept kept stands.there there) stands.stand

    acyclic : IsCyclic g (order_on g x (forced_on kept.node.forced [])) → ⊥
    acyclic = standing_acyclic g x state (forced_on kept.node.forced []) kept.node.stand standing made.1

-- going up to the parent
pub record CanLeave (nodes : List Kept) (number : ℕ) (ds : List Given) (kept : Kept) : Type 0 where
  pub many : length kept.node.forced + 1 ≤ length ds
  pub there : (origin : Origin) → IsFrom nodes number origin → AreThoseOf nodes origin.parent (drop 1 (drop (length kept.node.forced) ds))

pub can_leave : (nodes : List Kept) (number : ℕ) (ds : List Given) (kept : Kept) → EachHasWay nodes → 0 < number → slice_get nodes number ≡ Some kept → AreThoseOf nodes number ds → CanLeave nodes number ds kept
can_leave nodes number ds kept ways more there those = record {
  many = omega (arith, ap length is, length_forced kept.node.forced those.way, ap length way_is);
  there = λ origin from. subst (λ (o : Origin). AreThoseOf nodes o.parent (drop 1 (drop (length kept.node.forced) ds))) (one_from nodes number k.child.origin origin (record { kept = k.child.kept; there = k.child.there; from = k.child.from }) from) (record {
    kept = k.child.parent;
    way = k.child.before;
    there = k.child.above;
    leads = k.child.leads;
    same = ap (λ (z : List Given). drop 1 (drop (length kept.node.forced) z)) is ∙ ap (λ (z : List Given). drop 1 z) (drop_forced kept.node.forced those.way) ∙ ap (λ (w : List Decision). drop 1 (given_on w)) way_is;
  });
}
  where
    k : HasChildWay nodes number
    k = child_way nodes ways number (slice_get_within nodes number kept there) more

    kepts : those.kept ≡ kept
    kepts = same_some (slice_get nodes number) those.kept kept those.there there

    is : ds ≡ given_on (forced_on kept.node.forced those.way)
    is = those.same ∙ ap (λ (z : Kept). given_on (forced_on z.node.forced those.way)) kepts

    way_is : those.way ≡ branch_to k.child.origin.pair k.child.origin.side ∷ forced_on k.child.parent.node.forced k.child.before
    way_is = one_way nodes number those.way k.way those.leads k.leads ∙ k.child.way_is

pub can_force_at : (a b : Graph) (x y : FleetState) (ds es : List Given) (fs gs : List Forcing) → b ≡ a → y ≡ x → es ≡ ds → gs ≡ fs → CanForce a x ds fs → CanForce b y es gs
can_force_at a b x y ds es fs gs graphs states decisions forced h =
    let one = subst (λ (g : Graph). CanForce g x ds fs) (sym graphs) h in
    let two = subst (λ (z : FleetState). CanForce b z ds fs) (sym states) one in
    let three = subst (λ (z : List Given). CanForce b y z fs) (sym decisions) two in
    subst (λ (z : List Forcing). CanForce b y es z) (sym forced) three
