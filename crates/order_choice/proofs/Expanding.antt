-- Where a search begins, and how far it has come after one node more is expanded.
use Rattle.std.proofs.Common.{ℕ, ◌≡◌, ◌+◌, ◌≤◌, List, [], ◌∷◌, ◌++◌, Option, refl, sym, subst, arith}
use Rattle.fleet_base.specs.declared.geometry.Visit.{Visit}
use Rattle.fleet_base.specs.declared.order.PairId.{PairId}
use Rattle.fleet_base.specs.declared.order.Side.{Side}
use Rattle.fleet_base.specs.declared.order.Side.TheVariants.{Lower, Higher}
use Rattle.fleet_base.specs.Order.{Graph}
use Rattle.fleet_base.specs.State.{FleetState}
use Rattle.fleet_base.specs.Schedule.{IsLeastSchedule}
use Rattle.fleet_base.proofs.Costs.{sum_le}
use Rattle.cert_tree.specs.Decisions.{Decision, order_on, IsFree}
use Rattle.cert_tree.specs.Trees.{branch_to, force_to}
use Rattle.order_choice.specs.Candidates.{IsInConflict}
use Rattle.order_choice.specs.declared.made.Forcing.{Forcing}
use Rattle.order_choice.specs.declared.made.Stand.{Stand}
use Rattle.order_choice.specs.declared.made.MadeNode.{MadeNode}
use Rattle.order_choice.specs.Searching.{forced_on, AreForced, IsRelaxed, IsMadeRight, IsMadeDear, IsParted, AreParted, IsAbove, AreAbove, IsBest, IsSearched, IsMade, IsNew, ways_beyond, ways_past, expanded_of}
use Rattle.order_choice.specs.declared.made.Stand.TheVariants.{Round, Waiting, Expanded}
use Rattle.order_choice.specs.Searching.IsNew.{new_round, new_waiting}
use Rattle.longest_path.specs.Extending.{Extends}
use Rattle.longest_path.proofs.Extending.{obeys_fewer}
use Rattle.order_choice.proofs.Candidates.{one_extends}
use Rattle.order_choice.proofs.Lines.{node, met, spliced, one_more_expanded, dear_below}

-- with the root alone the search has begun
pub searched_none : (g : Graph) (x : FleetState) (root : MadeNode) (order : ℕ → Option Side) (best : ℕ) → IsMade g x best [] root → IsBest g x order best → IsSearched g x (root ∷ []) order best 0 0
searched_none g x root order best m is = record { right = (m.right, ends root.stand m.fresh); dear = (m.dear, ends root.stand m.fresh); parted = (parted root.stand m.fresh, tt); count = none root.stand m.fresh; best = is }
  where
    ends : (stand : Stand) → IsNew stand → ways_beyond stand (forced_on root.forced []) [] ≡ []
    ends _ (new_round cycle) = refl
    ends _ (new_waiting cost) = refl

    parted : (stand : Stand) → IsNew stand → IsParted 0 stand
    parted _ (new_round cycle) = tt
    parted _ (new_waiting cost) = omega arith

    none : (stand : Stand) → IsNew stand → expanded_of stand + 0 ≡ 0
    none _ (new_round cycle) = refl
    none _ (new_waiting cost) = refl

-- forcings keep the decisions before them
pub forced_extends : (g : Graph) (x : FleetState) (fs : List Forcing) (way : List Decision) → AreForced g x fs way → Extends (order_on g x way) (order_on g x (forced_on fs way))
forced_extends g x [] way a q side e = e
forced_extends g x (f ∷ fs) way a q side e = forced_extends g x fs (force_to f.pair f.side ∷ way) a.3 q side (one_extends g x way (force_to f.pair f.side) a.0 q side e)

-- so a child costs at least its parent, also after its forcings
pub child_costs_no_less : (g : Graph) (x : FleetState) (way : List Decision) (q : PairId) (side : Side) (fs : List Forcing) (c e : ℕ) → IsFree g x way q.0 → AreForced g x fs (branch_to q side ∷ way)
    → IsRelaxed g x way c → IsRelaxed g x (forced_on fs (branch_to q side ∷ way)) e → c ≤ e
child_costs_no_less g x way q side fs c e free forced r k =
    let less = obeys_fewer g (order_on g x way) (order_on g x (forced_on fs (branch_to q side ∷ way)))
    (λ p s h. forced_extends g x fs (branch_to q side ∷ way) forced p s (one_extends g x way (branch_to q side) free p s h)) x k.ticks k.least.obeys in
    let h = sum_le g r.ticks k.ticks (r.least.least k.ticks k.least.schedule less) in
    omega (arith, h, r.sum, k.sum)

-- a new child costs at least its parent
pub child_parted : (g : Graph) (x : FleetState) (way : List Decision) (q : PairId) (side : Side) (fs : List Forcing) (stand : Stand) (cost : ℕ) → IsNew stand → IsFree g x way q.0 → IsRelaxed g x way cost → IsMadeRight g x (branch_to q side ∷ way) (node fs stand) → IsParted cost stand
child_parted g x way q side fs _ cost (new_round cycle) free r m = tt
child_parted g x way q side fs _ cost (new_waiting c) free r m = child_costs_no_less g x way q side fs cost c free m.0 r m.1

-- what was expanded costs at most as much as a node with the least cost that is left
raised : (level cost : ℕ) (stand : Stand) → level ≤ cost → IsParted level stand → IsAbove cost stand → IsParted cost stand
raised level cost (Round cycle) le p a = tt
raised level cost (Waiting c) le p a = a
raised level cost (Expanded c q) le p a = omega (arith, le, p)

all_raised : (level cost : ℕ) (line : List MadeNode) → level ≤ cost → AreParted level line → AreAbove cost line → AreParted cost line
all_raised level cost [] le p a = tt
all_raised level cost (n ∷ line) le p a = (raised level cost n.stand le p.0 a.0, all_raised level cost line le p.1 a.1)

parted_more : (level cost : ℕ) (front back : List MadeNode) (forced lower higher : List Forcing) (q : PairId) (low high : Stand) → IsParted cost low → IsParted cost high
    → AreParted level (front ++ node forced (Waiting cost) ∷ back) → AreAbove cost (front ++ node forced (Waiting cost) ∷ back) → level ≤ cost → AreParted cost (front ++ node forced (Expanded cost q) ∷ node lower low ∷ node higher high ∷ back)
parted_more level cost [] back forced lower higher q low high a b p o le = (omega arith, (a, (b, all_raised level cost back le p.1 o.1)))
parted_more level cost (n ∷ front) back forced lower higher q low high a b p o le = (raised level cost n.stand le p.0 o.0, parted_more level cost front back forced lower higher q low high a b p.1 o.1 le)

-- a node that is left costs at least the level
level_below : (level cost : ℕ) (front back : List MadeNode) (forced : List Forcing) → AreParted level (front ++ node forced (Waiting cost) ∷ back) → level ≤ cost
level_below level cost [] back forced p = p.0
level_below level cost (n ∷ front) back forced p = level_below level cost front back forced p.1

-- the search has come one node further
pub searched_more : (g : Graph) (x : FleetState) (front back : List MadeNode) (forced : List Forcing) (cost : ℕ) (q : PairId) (lower higher : MadeNode) (way : List Decision) (more : List (List Decision)) (order next : ℕ → Option Side) (best less level expanded : ℕ)
    → IsSearched g x (front ++ record { forced = forced; stand = Waiting cost } ∷ back) order best level expanded
    → AreAbove cost (front ++ record { forced = forced; stand = Waiting cost } ∷ back)
    → ways_past front ([] ∷ []) ≡ way ∷ more
    → ((s : Visit → ℕ) → IsLeastSchedule g x (order_on g x (forced_on forced way)) s → IsInConflict g x (forced_on forced way) s q.0)
    → IsMade g x less (branch_to q Lower ∷ forced_on forced way) lower → IsMade g x less (branch_to q Higher ∷ forced_on forced way) higher
    → less ≤ best → IsBest g x next less
    → IsSearched g x (front ++ record { forced = forced; stand = Expanded cost q } ∷ lower ∷ higher ∷ back) next less cost (expanded + 1)
searched_more g x front back forced cost q lower higher way more order next best less level expanded s above at conflict a b le is = record {
  right = spliced (IsMadeRight g x) (IsMadeRight g x) front back forced lower.forced higher.forced cost q lower.stand higher.stand ([] ∷ []) (λ w n h. h)
      (λ w ms e h. let same : w ≡ way = cc in (
        (h.0, (h.1, λ t least. subst (λ (z : List Decision). IsInConflict g x (forced_on forced z) t q.0) (sym same) (conflict t (subst (λ (z : List Decision). IsLeastSchedule g x (order_on g x (forced_on forced z)) t) same least)))),
        subst (λ (z : List Decision). IsMadeRight g x (branch_to q Lower ∷ forced_on forced z) lower) (sym same) a.right,
        subst (λ (z : List Decision). IsMadeRight g x (branch_to q Higher ∷ forced_on forced z) higher) (sym same) b.right,
      ))
      a.fresh b.fresh s.right;
  dear = spliced (IsMadeDear g x best) (IsMadeDear g x less) front back forced lower.forced higher.forced cost q lower.stand higher.stand ([] ∷ []) (λ w n h. dear_below g x best less w n le h)
      (λ w ms e h. let same : w ≡ way = cc in (
        dear_below g x best less w (node forced (Waiting cost)) le h,
        subst (λ (z : List Decision). IsMadeDear g x less (branch_to q Lower ∷ forced_on forced z) lower) (sym same) a.dear,
        subst (λ (z : List Decision). IsMadeDear g x less (branch_to q Higher ∷ forced_on forced z) higher) (sym same) b.dear,
      ))
      a.fresh b.fresh s.dear;
  parted = parted_more level cost front back forced lower.forced higher.forced q lower.stand higher.stand
      (child_parted g x (forced_on forced way) q Lower lower.forced lower.stand cost a.fresh free relaxed a.right)
      (child_parted g x (forced_on forced way) q Higher higher.forced higher.stand cost b.fresh free relaxed b.right)
      s.parted above (level_below level cost front back forced s.parted);
  count = let h = one_more_expanded front back forced lower.forced higher.forced cost q lower.stand higher.stand a.fresh b.fresh in omega (arith, h, s.count);
  best = is;
}
  where
    relaxed : IsRelaxed g x (forced_on forced way) cost
    relaxed = (met (IsMadeRight g x) front back (node forced (Waiting cost)) ([] ∷ []) way more at s.right).1

    free : IsFree g x (forced_on forced way) q.0
    free = (conflict relaxed.ticks relaxed.least).free
