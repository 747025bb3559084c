-- What a checker finds on its way through the nodes.
use Rattle.std.proofs.Common.{ℕ, ◌≡◌, ◌+◌, ◌<◌, List, [], ◌∷◌, Some, true, false, Bool, sym, ap, ◌∙◌, subst, arith, length, take, reverse, get_or}
use native.Mathlib.Numerals.{unary_clauses}
use Rattle.std.proofs.lemmas.List.{take_all}
use Rattle.std.proofs.lemmas.Option.{slice_get-get_or}
use Rattle.std.specs.Prelude.{Contains, All, ◌≤◌, slice_get, vec_len}
use Rattle.fleet_base.specs.Order.{Graph}
use Rattle.fleet_base.specs.State.{FleetState}
use Rattle.cert_tree.specs.declared.node.Node.{Node}
use Rattle.cert_tree.specs.declared.node.Node.TheVariants.{Branch, Force, Cyclic, Bound, OpenLeaf}
use Rattle.cert_check.specs.declared.judge.Kind.{Kind}
use Rattle.cert_check.specs.declared.judge.Kind.TheVariants as kind
use Rattle.cert_check.specs.declared.verdict.NoWhy.{NoWhy}
use Rattle.cert_check.specs.declared.verdict.NoWhy.TheVariants.{Shape}
use Rattle.cert_check.specs.declared.way.Way.{Way}
use Rattle.cert_tree.specs.Decisions.{Decision, side_on}
use Rattle.cert_check.specs.Sides.{decided}
use Rattle.fleet_base.specs.declared.geometry.Visit.{Visit}
use Rattle.fleet_base.specs.Rules.{IsFleetState}
use Rattle.fleet_base.specs.Schedule.{IsLawful, end_sum_of}
use Rattle.cert_tree.specs.GroupRules.{KeepsGroups, IsGroupedTree}
use Rattle.cert_tree.specs.Trees.{IsRight, IsSpent, Tree, nodes_of, left_costs, IsOptimalTree, IsSpentTree}
use Rattle.cert_check.specs.Judging.{IsWhole, IsWholeRight}
use Rattle.cert_check.specs.Verdicts.{rank_of, IsSpentFault, IsSpentWholeFault}
use Rattle.cert_tree.specs.Preorder.{branches_in, left_in}
use Rattle.cert_tree.proofs.TreeBound.{first_rule, second_rule, optimal_below, spent_below}
use Rattle.cert_check.specs.Ways.{NextWay, DecidesFree, way_of, ways_of, ways_behind}
use Rattle.cert_check.specs.Verdicts.{IsFirstFault, Fits}
use Rattle.cert_tree.specs.Preorder.{ways_at, ways_after, ways_left}
use Rattle.cert_check.specs.Judging.{Judges, MeetsAs, FailsAs, WholeFailsAs}
use Rattle.cert_tree.specs.Preorder.{EachListed}
use Rattle.cert_check.proofs.JudgeLaws.{of_kind}
use Rattle.cert_check.proofs.SideLaws.{open_within}
use Rattle.cert_check.proofs.OneVerdict.{optimal_excludes, spent_excludes}
use Rattle.cert_tree.proofs.Preorder.{whole_tree, branches_of_tree, left_of_tree, each_one_more, ways_one_more}
use Rattle.cert_check.proofs.FirstFault.{fails_at, fails_after, fails_early, fails_whole}

pub item_there : (nodes : List Node) (k : ℕ) (n : Node) → k < length nodes → n ≡ get_or nodes k n → slice_get nodes k ≡ Some n
item_there nodes k n lt e = slice_get-get_or nodes k n lt ∙ ap Some (sym e)

module _ (g : Graph) (x : FleetState) (cost : ℕ) (k : Kind) (nodes : List Node) where
  excludes : (way : List Decision) (node : Node) (why : NoWhy) → MeetsAs g x cost k way node → FailsAs g x cost k way node why → ⊥
  excludes way node why = of_kind (λ k. MeetsAs g x cost k way node → FailsAs g x cost k way node why → ⊥) (optimal_excludes g x cost way node why) (λ least. spent_excludes g x cost least way node why) k

  pub right_of : (way : List Decision) (node : Node) → MeetsAs g x cost k way node → IsRight g x cost way node
  right_of way node = of_kind (λ k. MeetsAs g x cost k way node → IsRight g x cost way node) (λ m. m.0) (λ least m. m.0.0) k

  module _ (at : ℕ) (right : EachListed (MeetsAs g x cost k) (take at nodes) ([] ∷ [])) where
    pub behind_the_end : (w : Way) (b : Bool) → b ≡ false → NextWay (ways_at nodes at) w b → at < length nodes → (budget : ℕ) → IsFirstFault (Fits (FailsAs g x cost k) (WholeFailsAs k budget nodes) nodes) at Shape
    behind_the_end w b e next lt budget = fails_after (MeetsAs g x cost k) (FailsAs g x cost k) (WholeFailsAs k budget nodes) excludes nodes at right lt (subst (λ b. NextWay (ways_at nodes at) w b) e next)

    pub node_fails : (w : Way) (b : Bool) (node : Node) (why : NoWhy) → b ≡ true → NextWay (ways_at nodes at) w b → slice_get nodes at ≡ Some node → Judges (MeetsAs g x cost k (way_of (reverse w.steps.items)) node) (FailsAs g x cost k (way_of (reverse w.steps.items)) node) (Some why) → (budget : ℕ) → IsFirstFault (Fits (FailsAs g x cost k) (WholeFailsAs k budget nodes) nodes) at why
    node_fails w b node why e next there j budget =
        fails_at (MeetsAs g x cost k) (FailsAs g x cost k) (WholeFailsAs k budget nodes) excludes nodes at node (way_of (reverse w.steps.items)) (ways_behind (reverse w.steps.items)) why right there (subst (λ b. NextWay (ways_at nodes at) w b) e next) j.0 j.1

    pub one_more_right : (w : Way) (b : Bool) (node : Node) → b ≡ true → NextWay (ways_at nodes at) w b → slice_get nodes at ≡ Some node → MeetsAs g x cost k (way_of (reverse w.steps.items)) node → EachListed (MeetsAs g x cost k) (take (at + 1) nodes) ([] ∷ [])
    one_more_right w b node e next there meets =
        simp unary_clauses (each_one_more (MeetsAs g x cost k) nodes ([] ∷ []) at node (way_of (reverse w.steps.items)) (ways_behind (reverse w.steps.items)) right there (subst (λ b. NextWay (ways_at nodes at) w b) e next) meets)

    pub next_way : (w : Way) (b : Bool) (node : Node) (v : Way) (goes : Bool) → b ≡ true → NextWay (ways_at nodes at) w b → slice_get nodes at ≡ Some node → NextWay (ways_after node (ways_of (reverse w.steps.items))) v goes → NextWay (ways_at nodes (at + 1)) v goes
    next_way w b node v goes e next there after =
        simp unary_clauses (subst (λ (ways : List (List Decision)). NextWay ways v goes) (sym (ways_one_more nodes ([] ∷ []) at node there ∙ ap (ways_after node) (subst (λ b. NextWay (ways_at nodes at) w b) e next))) after)

  pub ends_early : (n : ℕ) (right : EachListed (MeetsAs g x cost k) (take n nodes) ([] ∷ [])) (w : Way) (b : Bool) → n ≡ length nodes → b ≡ true → NextWay (ways_at nodes n) w b → (budget : ℕ) → IsFirstFault (Fits (FailsAs g x cost k) (WholeFailsAs k budget nodes) nodes) (length nodes) Shape
  ends_early n right w b all e next budget =
      let ways = subst (λ b. NextWay (ways_at nodes n) w b) e next in
      fails_early (MeetsAs g x cost k) (FailsAs g x cost k) (WholeFailsAs k budget nodes) excludes nodes (subst (λ (ns : List Node). EachListed (MeetsAs g x cost k) ns ([] ∷ [])) (ap (λ m. take m nodes) all ∙ take_all (length nodes) nodes (omega arith)) right) (λ none. let f = sym ways ∙ ap (λ m. ways_left (take m nodes) ([] ∷ [])) all ∙ ap (λ (ns : List Node). ways_left ns ([] ∷ [])) (take_all (length nodes) nodes (omega arith)) ∙ none in cc)

  pub decides_free : (w : Way) (node : Node) (way : List Decision) → ((q : ℕ) → decided w.sides.items q ≡ side_on way q) → vec_len w.sides ≡ length g.pairs → IsRight g x cost way node → DecidesFree w node
  decides_free w node way sides has right = go node right
    where
      go : (n : Node) → IsRight g x cost way n → DecidesFree w n
      go (Branch q) f = (subst (λ n. q.0 < n) (sym has) (open_within g x q.0 f.0), sides q.0 ∙ f.1)
      go (Force q s cycle) f = (subst (λ n. q.0 < n) (sym has) (open_within g x q.0 f.0.0), sides q.0 ∙ f.0.1)
      go (Cyclic cycle) f = tt
      go (Bound paths) f = tt
      go (OpenLeaf v) f = tt

-- an optimal tree, and what it shows
module _ (g : Graph) (x : FleetState) (cost : ℕ) (nodes : List Node) where
  pub optimal_tree : IsWhole g x cost kind.Optimal nodes → (tree : Tree) × (nodes ≡ nodes_of tree) × IsOptimalTree g x cost tree
  optimal_tree w = whole_tree (MeetsAs g x cost kind.Optimal) nodes w.0 w.1

  pub optimal_shows : IsFleetState g x → IsWhole g x cost kind.Optimal nodes → (s : Visit → ℕ) → IsLawful g x s → cost ≤ end_sum_of g s
  optimal_shows state w s lawful = let t = optimal_tree w in optimal_below g x cost t.0 s state t.2 lawful

  module _ (least budget : ℕ) (w : IsWhole g x cost (kind.Spent least) nodes) where
    pub spent_tree : IsWholeRight least budget nodes → (tree : Tree) × (nodes ≡ nodes_of tree) × IsSpentTree g x cost least budget tree × IsGroupedTree g x tree
    spent_tree r =
        let t = whole_tree (MeetsAs g x cost (kind.Spent least)) nodes w.0 w.1 in
        let other = first_rule (λ way node. IsRight g x cost way node × IsSpent g x cost least way node) (KeepsGroups g x) t.0 [] t.2 in
        let left : left_in nodes ≡ left_costs t.0 = ap left_in t.1 ∙ left_of_tree t.0 in (
          t.0,
          t.1,
          record {
            right = first_rule (IsRight g x cost) (IsSpent g x cost least) t.0 [] other;
            spent = second_rule (IsRight g x cost) (IsSpent g x cost least) t.0 [] other;
            branches = sym (branches_of_tree t.0) ∙ ap branches_in (sym t.1) ∙ r.0;
            reached = subst (λ (vs : List ℕ). Contains vs least) left r.1;
            least_left = subst (λ (vs : List ℕ). All (λ v. least ≤ v) vs) left r.2;
          },
          second_rule (λ way node. IsRight g x cost way node × IsSpent g x cost least way node) (KeepsGroups g x) t.0 [] t.2,
        )

    pub spent_shows : IsFleetState g x → IsWholeRight least budget nodes → (s : Visit → ℕ) → IsLawful g x s → least ≤ end_sum_of g s
    spent_shows state r s lawful = let t = spent_tree r in spent_below g x cost least budget t.0 s state t.2 lawful

    pub spent_fails : (why : NoWhy) → IsSpentWholeFault least budget nodes why → ((v : NoWhy) → rank_of v < rank_of why → ¬ IsSpentWholeFault least budget nodes v) → IsFirstFault (Fits (IsSpentFault g x cost least) (IsSpentWholeFault least budget nodes) nodes) (length nodes) why
    spent_fails why f first = fails_whole (MeetsAs g x cost (kind.Spent least)) (IsSpentFault g x cost least) (IsSpentWholeFault least budget nodes) (spent_excludes g x cost least) nodes why w.0 w.1 f first
