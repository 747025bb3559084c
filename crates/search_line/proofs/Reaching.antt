-- What is said of a line, said of the nodes that are kept of it.
use Rattle.std.proofs.Common.{ℕ, ◌≡◌, ◌<◌, ◌∙◌, List, [], ◌∷◌, ◌++◌, length, refl, sym, ap, subst, arith}
use Rattle.std.specs.Prelude.{slice_get, Option, Some, None}
use Rattle.std.specs.BTreeSet.{BTreeSet}
use Rattle.std.proofs.lemmas.Option.{slice_get_within}
use Rattle.fleet_base.specs.Order.{Graph}
use Rattle.fleet_base.specs.State.{FleetState}
use Rattle.longest_path.specs.declared.decision.Decision.{Decision as Given}
use Rattle.cert_tree.specs.Decisions.{Decision}
use Rattle.order_choice.specs.declared.made.MadeNode.{MadeNode}
use Rattle.order_choice.specs.Searching.{EachOnLine, IsMadeRight, forced_on}
use Rattle.order_choice.proofs.Lines.{met}
use Rattle.search_nodes.specs.Making.{Making, given_on, KeepsBest}
use Rattle.search_line.specs.declared.kept.Kept.{Kept}
use Rattle.search_line.specs.declared.turns.Turn.{Turn}
use Rattle.search_line.specs.Lines.{Numbered, nodes_on, IsOn, IsAt, HasCost, HasCostAt}
use Rattle.search_line.specs.Nodes.{AreLinked, HaveWays, IsWayTo}
use Rattle.search_line.specs.Going.{StandsAt, EachHasWay, AreThoseOf, BeginsAt, AreMadeRight, HasNoCycle}
use Rattle.search_line.proofs.Linking.{numbered, same_some, linked_at, kept_on}
use Rattle.search_line.proofs.Growing.{HasWayAt, way_at}
use Rattle.search_line.proofs.Holding.{IsLineOf}
use Rattle.search_line.proofs.Climbing.{one_way}

pub nodes_split : (front back : List Numbered) (n : Numbered) → nodes_on (front ++ n ∷ back) ≡ nodes_on front ++ n.node ∷ nodes_on back
nodes_split [] back n = refl
nodes_split (m ∷ front) back n = ap (λ (z : List MadeNode). m.node ∷ z) (nodes_split front back n)

module _ (nodes : List Kept) (turns : BTreeSet Turn) (line : List Numbered) (h : IsLineOf nodes turns line) where
  way_on : (number : ℕ) (on : IsOn line number) → HasWayAt nodes on.front number ([] ∷ [])
  way_on number on = way_at nodes on.front on.back (numbered number on.node) ([] ∷ []) (subst (λ (z : List Numbered). HaveWays nodes z ([] ∷ [])) on.place h.ways)

  pub each_way : EachHasWay nodes
  each_way number lt = let w = way_on number (h.each number lt) in (w.way, w.leads)

  pub all_right : (g : Graph) (x : FleetState) → EachOnLine (IsMadeRight g x) (nodes_on line) ([] ∷ []) → AreMadeRight g x nodes
  all_right g x right number kept way there leads =
      let on = h.each number (slice_get_within nodes number kept there) in
      let w = way_on number on in
      let k = kept_on nodes (Some 0) line number on h.linked in
      let node : on.node ≡ kept.node = sym k.node ∙ ap (λ (z : Kept). z.node) (same_some (slice_get nodes number) k.kept kept k.there there) in
      let split : nodes_on line ≡ nodes_on on.front ++ on.node ∷ nodes_on on.back = ap (λ (z : List Numbered). nodes_on z) on.place ∙ nodes_split on.front on.back (numbered number on.node) in
      let here : IsMadeRight g x w.way on.node = met (IsMadeRight g x) (nodes_on on.front) (nodes_on on.back) on.node ([] ∷ []) w.way w.more w.past (subst (λ (z : List MadeNode). EachOnLine (IsMadeRight g x) z ([] ∷ [])) split right) in
      subst (λ (z : MadeNode). IsMadeRight g x way z) node (subst (λ (v : List Decision). IsMadeRight g x v on.node) (one_way nodes number w.way way w.leads leads) here)

  -- a node of the line, as it is kept
  pub record AtSlot (number : ℕ) (node : MadeNode) (way : List Decision) : Type 0 where
    pub kept : Kept
    pub there : slice_get nodes number ≡ Some kept
    pub node_is : kept.node ≡ node
    pub leads : IsWayTo nodes number way

  pub at_slot : (number : ℕ) (node : MadeNode) (way : List Decision) → IsAt line number node way → AtSlot number node way
  at_slot number node way at =
      let k = (linked_at nodes (Some 0) at.front at.back (numbered number node) (subst (λ (z : List Numbered). AreLinked nodes (Some 0) z) at.place h.linked)).1 in
      let w = way_at nodes at.front at.back (numbered number node) ([] ∷ []) (subst (λ (z : List Numbered). HaveWays nodes z ([] ∷ [])) at.place h.ways) in
      let both : w.way ∷ w.more ≡ way ∷ at.more = sym w.past ∙ at.ways in
      let same : w.way ≡ way = cc in
      record { kept = k.kept; there = k.there; node_is = k.node; leads = subst (λ (v : List Decision). IsWayTo nodes number v) same w.leads }

  pub begins_at : (from : Option ℕ) (ds : List Given) → StandsAt line from ds → BeginsAt nodes from ds
  begins_at None ds s = s
  begins_at (Some number) ds s =
      let t = at_slot number s.node s.way s.there in
      record { kept = t.kept; way = s.way; there = t.there; leads = t.leads; same = s.same ∙ ap (λ (z : MadeNode). given_on (forced_on z.forced s.way)) (sym t.node_is) }

  pub no_cycle : (number : ℕ) → HasCostAt line number → HasNoCycle nodes number
  no_cycle number s =
      let t = at_slot number s.node s.way s.there in
      record { kept = t.kept; there = t.there; stand = subst (λ (z : MadeNode). HasCost z.stand) (sym t.node_is) s.stand }

  pub arrived : (number : ℕ) (ds : List Given) → AreThoseOf nodes number ds → (node : MadeNode) (way : List Decision) → IsAt line number node way → ds ≡ given_on (forced_on node.forced way)
  arrived number ds those node way at =
      let t = at_slot number node way at in
      let node_same : those.kept.node ≡ node = ap (λ (z : Kept). z.node) (same_some (slice_get nodes number) those.kept t.kept those.there t.there) ∙ t.node_is in
      those.same ∙ ap (λ (z : MadeNode). given_on (forced_on z.forced those.way)) node_same ∙ ap (λ (v : List Decision). given_on (forced_on node.forced v)) (one_way nodes number those.way way those.leads t.leads)

-- the node that a search begins at, or the root
pub begins_within : (nodes : List Kept) (from : Option ℕ) (ds : List Given) (first : ℕ) → BeginsAt nodes from ds → (from ≡ None → first ≡ 0) → ((number : ℕ) → from ≡ Some number → first ≡ number) → 0 < length nodes → first < length nodes
begins_within nodes None ds first b none some inside = let e : first ≡ 0 = none refl in omega arith
begins_within nodes (Some number) ds first b none some inside =
    let e : first ≡ number = some number refl in
    let lt : number < length nodes = slice_get_within nodes number b.kept b.there in
    omega arith

pub right_kept : (a b : Making) (nodes : List Kept) → KeepsBest a b → AreMadeRight a.graph a.state nodes → AreMadeRight b.graph b.state nodes
right_kept a b nodes e right = subst (λ (x : FleetState). AreMadeRight b.graph x nodes) (sym e.state) (subst (λ (g : Graph). AreMadeRight g a.state nodes) (sym e.graph) right)
