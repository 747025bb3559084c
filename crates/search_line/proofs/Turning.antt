-- The turns of the nodes that wait, while nodes are made and expanded.
use Rattle.std.proofs.Common.{ℕ, ◌≡◌, ◌≢◌, ◌+◌, ◌<◌, ◌≤◌, ◌∙◌, ◌⊎◌, ◌↔◌, Bool, true, false, cond, List, [], ◌∷◌, length, refl, sym, ap, subst, inl, inr, arith}
use Rattle.std.specs.Prelude.{slice_get, Option, Some, None}
use Rattle.std.specs.declared.cmp.Ordering.{Ordering}
use Rattle.std.specs.declared.cmp.Ordering.TheVariants.{Less, Equal, Greater}
use Rattle.std.specs.Ordering.{nat_cmp, ordering_then, is_eq, is_gt, MatchOrdering}
use Rattle.std.specs.BTreeSet.{BTreeSet, contains, Updates}
use Rattle.std.proofs.lemmas.Bool.{cases_eq}
use Rattle.std.proofs.lemmas.Cmp.{ranked, tied_itself, nat_cmp_total}
use Rattle.std.proofs.lemmas.Map.Lookups.{exact_unsigned}
use Rattle.std.proofs.lemmas.Option.{slice_get_within}
use Rattle.fleet_base.specs.declared.order.PairId.{PairId}
use Rattle.fleet_base.specs.declared.order.Side.TheVariants.{Lower, Higher}
use Rattle.order_choice.specs.declared.made.MadeNode.{MadeNode}
use Rattle.order_choice.specs.declared.made.Stand.{Stand}
use Rattle.order_choice.specs.declared.made.Stand.TheVariants.{Round, Waiting, Expanded}
use Rattle.search_line.specs.declared.kept.Kept.{Kept}
use Rattle.search_line.specs.declared.turns.Turn.{Turn}
use Rattle.search_line.specs.Nodes.{expanded_kept, child_kept}
use Rattle.search_line.specs.Turns.{turn_cmp, turn_for, IsTurn, AreAdded, AreRemoved, AreExchanged, WaitsWith, AreTurns}
use Rattle.search_line.proofs.Slots.{there_is}
use Rattle.search_line.proofs.Linking.{same_some}
use Rattle.search_line.proofs.Growing.{Grows}

abbrev pub turn : ℕ → ℕ → Turn
turn cost number = record { cost = cost; number = record { 0 = number } }

-- turns that are equal in the order are the same
same_order : (o : Ordering) → is_eq o ≡ true → o ≡ Equal
same_order Less h = cc
same_order Equal h = refl
same_order Greater h = cc

then_equal : (o p : Ordering) → ordering_then o p ≡ Equal → (o ≡ Equal) × (p ≡ Equal)
then_equal Less p h = cc
then_equal Equal p h = (refl, h)
then_equal Greater p h = cc

pub same_turn : (a b : Turn) → a.cost ≡ b.cost → a.number.0 ≡ b.number.0 → a ≡ b
same_turn a b costs numbers = λ i. record { cost = costs i; number = record { 0 = numbers i } }

pub equal_turns : (a b : Turn) → is_eq (turn_cmp a b) ≡ true → a ≡ b
equal_turns a b h =
    let e = then_equal (nat_cmp a.cost b.cost) (nat_cmp b.number.0 a.number.0) (same_order (turn_cmp a b) h) in
    let costs : a.cost ≡ b.cost = exact_unsigned a.cost b.cost e.0 in
    let numbers : b.number.0 ≡ a.number.0 = exact_unsigned b.number.0 a.number.0 e.1 in
    same_turn a b costs (sym numbers)

pub itself : (a : Turn) → is_eq (turn_cmp a a) ≡ true
itself a = ap (λ (o : Ordering). is_eq (ordering_then o (nat_cmp a.number.0 a.number.0))) (tied_itself nat_cmp_total a.cost) ∙ ap (λ (o : Ordering). is_eq o) (tied_itself nat_cmp_total a.number.0)

-- the first of two turns costs no more
pub least_cost : (a b : Turn) → is_gt (turn_cmp a b) ≡ false → a.cost ≤ b.cost
least_cost a b = go (nat_cmp a.cost b.cost) (nat_cmp b.number.0 a.number.0) (ranked a.cost b.cost (nat_cmp a.cost b.cost) refl)
  where
    go : (o p : Ordering) → MatchOrdering o (a.cost < b.cost) (a.cost ≡ b.cost) (b.cost < a.cost) → is_gt (ordering_then o p) ≡ false → a.cost ≤ b.cost
    go Less p m h = omega (arith, m)
    go Equal p m h = omega (arith, m)
    go Greater p m h = cc

-- a turn that is added
pub added_one : (old new : BTreeSet Turn) (t : Turn) → Updates turn_cmp old new t true → AreAdded old new (Some t)
added_one old new t up u = (
  (λ h. at (is_eq (turn_cmp t u)) refl h),
  (λ h. back h),
)
  where
    at : (b : Bool) → is_eq (turn_cmp t u) ≡ b → IsTurn new u → IsTurn old u ⊎ (Some t ≡ Some u)
    at true e h = inr (ap Some (equal_turns t u e))
    at false e h = inl (sym (up.2 u e) ∙ h)

    keep : (b : Bool) → is_eq (turn_cmp t u) ≡ b → IsTurn old u → IsTurn new u
    keep true e h = up.0 u ∙ ap (λ (z : Bool). cond z true (contains turn_cmp old u)) e
    keep false e h = up.2 u e ∙ h

    back : IsTurn old u ⊎ (Some t ≡ Some u) → IsTurn new u
    back (inl h) = keep (is_eq (turn_cmp t u)) refl h
    back (inr e) = let same : t ≡ u = cc in subst (λ (z : Turn). IsTurn new z) same up.1

pub added_none : (turns : BTreeSet Turn) → AreAdded turns turns None
added_none turns t = ((λ h. inl h), (λ h. at h))
  where
    at : IsTurn turns t ⊎ (None ≡ Some t) → IsTurn turns t
    at (inl h) = h
    at (inr e) = cc

-- a turn that is removed
pub removed_one : (old new : BTreeSet Turn) (t : Turn) → Updates turn_cmp old new t false → AreRemoved old new (Some t)
removed_one old new t up u = (
  (λ h. at (is_eq (turn_cmp t u)) refl h),
  (λ h. back (is_eq (turn_cmp t u)) refl h.0 h.1),
)
  where
    at : (b : Bool) → is_eq (turn_cmp t u) ≡ b → IsTurn new u → IsTurn old u × (Some t ≢ Some u)
    at true e h = let not_there : contains turn_cmp new u ≡ false = up.0 u ∙ ap (λ (z : Bool). cond z false (contains turn_cmp old u)) e in cc
    at false e h = (
      sym (up.2 u e) ∙ h,
      (λ s. let same : t ≡ u = cc in let yes : is_eq (turn_cmp t u) ≡ true = subst (λ (z : Turn). is_eq (turn_cmp t z) ≡ true) same (itself t) in cc),
    )

    back : (b : Bool) → is_eq (turn_cmp t u) ≡ b → IsTurn old u → Some t ≢ Some u → IsTurn new u
    back true e h ne = absurd (ne (ap Some (equal_turns t u e)))
    back false e h ne = up.2 u e ∙ h

pub removed_none : (turns : BTreeSet Turn) → AreRemoved turns turns None
removed_none turns t = ((λ h. (h, (λ e. cc))), (λ h. h.0))

-- turns with the same keys are the same
pub turns_stay : (old new : BTreeSet Turn) → new.keys ≡ old.keys → (t : Turn) → IsTurn new t ↔ IsTurn old t
turns_stay old new same t =
    let e : contains turn_cmp new t ≡ contains turn_cmp old t = ap (λ (z : List Turn). contains turn_cmp (record { keys = z }) t) same in
    ((λ h. sym e ∙ h), (λ h. e ∙ h))

-- two are added and one is removed
pub exchanged : (old one two new : BTreeSet Turn) (gone : Turn) (lower higher : Option Turn) → AreAdded old one lower → AreAdded one two higher → AreRemoved two new (Some gone) → AreExchanged old new gone lower higher
exchanged old one two new gone lower higher a b r t = (
  (λ h. let w = (r t).0 h in (more ((b t).0 w.0), (λ e. w.1 (ap Some e)))),
  (λ h. (r t).1 (less h.0, (λ e. let same : gone ≡ t = cc in h.1 same))),
)
  where
    more : IsTurn one t ⊎ (higher ≡ Some t) → (IsTurn old t ⊎ (lower ≡ Some t)) ⊎ (higher ≡ Some t)
    more (inl h) = inl ((a t).0 h)
    more (inr e) = inr e

    less : (IsTurn old t ⊎ (lower ≡ Some t)) ⊎ (higher ≡ Some t) → IsTurn two t
    less (inl h) = (b t).1 (inl ((a t).1 h))
    less (inr e) = (b t).1 (inr e)

-- one is added and removed again
pub restored : (old one two new : BTreeSet Turn) (lower : Option Turn) → ((t : Turn) → lower ≡ Some t → contains turn_cmp old t ≡ false) → AreAdded old one lower → two.keys ≡ one.keys → AreRemoved two new lower → (t : Turn) → IsTurn new t ↔ IsTurn old t
restored old one two new lower absent a same r t = (
  (λ h. let w = (r t).0 h in less ((a t).0 ((turns_stay one two same t).0 w.0)) w.1),
  (λ h. (r t).1 ((turns_stay one two same t).1 ((a t).1 (inl h)), (λ e. let not_there : contains turn_cmp old t ≡ false = absent t e in cc))),
)
  where
    less : IsTurn old t ⊎ (lower ≡ Some t) → lower ≢ Some t → IsTurn old t
    less (inl h) ne = h
    less (inr e) ne = absurd (ne e)

-- what the turn of a node says
pub turn_is : (number : ℕ) (stand : Stand) (t : Turn) → turn_for number stand ≡ Some t → (stand ≡ Waiting t.cost) × (t.number.0 ≡ number)
turn_is number (Round cycle) t e = cc
turn_is number (Waiting cost) t e =
    let same : turn cost number ≡ t = cc in
    (ap (λ (z : Turn). Waiting z.cost) same, ap (λ (z : Turn). z.number.0) (sym same))
turn_is number (Expanded cost q) t e = cc

pub is_turn : (number : ℕ) (stand : Stand) (t : Turn) → stand ≡ Waiting t.cost → t.number.0 ≡ number → turn_for number stand ≡ Some t
is_turn number stand t waits same = ap (λ (z : Stand). turn_for number z) waits ∙ ap (λ (k : ℕ). Some (turn t.cost k)) (sym same)

-- a node that is not there has no turn
pub absent_turn : (nodes : List Kept) (turns : BTreeSet Turn) (number : ℕ) (stand : Stand) → AreTurns nodes turns → length nodes ≤ number → (t : Turn) → turn_for number stand ≡ Some t → contains turn_cmp turns t ≡ false
absent_turn nodes turns number stand are past t e = at (contains turn_cmp turns t) refl
  where
    at : (b : Bool) → contains turn_cmp turns t ≡ b → contains turn_cmp turns t ≡ false
    at false is = is
    at true is =
        let w : WaitsWith nodes t.number.0 t.cost = (are t).0 is in
        let lt : t.number.0 < length nodes = slice_get_within nodes t.number.0 w.kept w.there in
        let same : t.number.0 ≡ number = (turn_is number stand t e).1 in
        absurd (omega arith)

-- the turns of the root alone
pub root_turns : (kept : Kept) (turns : BTreeSet Turn) → ((t : Turn) → IsTurn turns t ↔ (turn_for 0 kept.node.stand ≡ Some t)) → AreTurns (kept ∷ []) turns
root_turns kept turns are t = ((λ h. there ((are t).0 h)), (λ w. (are t).1 (back w)))
  where
    there : turn_for 0 kept.node.stand ≡ Some t → WaitsWith (kept ∷ []) t.number.0 t.cost
    there e =
        let is = turn_is 0 kept.node.stand t e in
        record { kept = kept; there = ap (λ (k : ℕ). slice_get (kept ∷ []) k) is.1; stand = is.0 }

    back : WaitsWith (kept ∷ []) t.number.0 t.cost → turn_for 0 kept.node.stand ≡ Some t
    back w =
        let lt : t.number.0 < 1 = slice_get_within (kept ∷ []) t.number.0 w.kept w.there in
        let zero_it : t.number.0 ≡ 0 = omega arith in
        let same : w.kept ≡ kept = same_some (slice_get (kept ∷ []) t.number.0) w.kept kept w.there (ap (λ (k : ℕ). slice_get (kept ∷ []) k) zero_it) in
        is_turn 0 kept.node.stand t (ap (λ (z : Kept). z.node.stand) (sym same) ∙ w.stand) zero_it

-- the turns after a node was expanded
pub grown_turns : (old new : List Kept) (number cost : ℕ) (q : PairId) (lower higher : MadeNode) (kept : Kept) (was now : BTreeSet Turn) → Grows old new number cost q lower higher kept → kept.node.stand ≡ Waiting cost → AreTurns old was
    → AreExchanged was now (turn cost number) (turn_for (length old) lower.stand) (turn_for (length old + 1) higher.stand) → AreTurns new now
grown_turns old new number cost q lower higher kept was now g waits are ex t = (
  (λ h. let x = (ex t).0 h in there x.0 x.1),
  (λ w. (ex t).1 (back w (cases_eq t.number.0 number))),
)
  where
    there : (IsTurn was t ⊎ (turn_for (length old) lower.stand ≡ Some t)) ⊎ (turn_for (length old + 1) higher.stand ≡ Some t) → turn cost number ≢ t → WaitsWith new t.number.0 t.cost
    there (inl (inl h)) ne =
        let w : WaitsWith old t.number.0 t.cost = (are t).0 h in
        let apart : t.number.0 ≢ number = (λ e.
        let same : w.kept ≡ kept = same_some (slice_get old t.number.0) w.kept kept w.there (ap (λ (k : ℕ). slice_get old k) e ∙ g.before) in
        let costs : Waiting t.cost ≡ Waiting cost = sym w.stand ∙ ap (λ (z : Kept). z.node.stand) same ∙ waits in
        let cost_same : cost ≡ t.cost = cc in
        ne (same_turn (turn cost number) t cost_same (sym e))) in
        record { kept = w.kept; there = g.others t.number.0 w.kept apart w.there; stand = w.stand }
    there (inl (inr e)) ne =
        let is = turn_is (length old) lower.stand t e in
        record { kept = child_kept number q Lower lower (Some (length old + 1)); there = ap (λ (k : ℕ). slice_get new k) is.1 ∙ g.low; stand = is.0 }
    there (inr e) ne =
        let is = turn_is (length old + 1) higher.stand t e in
        record { kept = child_kept number q Higher higher kept.next; there = ap (λ (k : ℕ). slice_get new k) is.1 ∙ g.high; stand = is.0 }

    gone : t.number.0 ≢ number → turn cost number ≢ t
    gone ne e = ne (ap (λ (z : Turn). z.number.0) (sym e))

    last : WaitsWith new t.number.0 t.cost → t.number.0 ≢ number → t.number.0 ≢ length old → (t.number.0 ≡ length old + 1) ⊎ (t.number.0 ≡ length old + 1 → ⊥) → (IsTurn was t ⊎ (turn_for (length old) lower.stand ≡ Some t)) ⊎ (turn_for (length old + 1) higher.stand ≡ Some t)
    last w ne low (inl e) =
        let same : w.kept ≡ child_kept number q Higher higher kept.next = same_some (slice_get new t.number.0) w.kept (child_kept number q Higher higher kept.next) w.there (ap (λ (k : ℕ). slice_get new k) e ∙ g.high) in
        inr (is_turn (length old + 1) higher.stand t (ap (λ (z : Kept). z.node.stand) (sym same) ∙ w.stand) e)
    last w ne low (inr high) =
        let lt : t.number.0 < length new = slice_get_within new t.number.0 w.kept w.there in
        let inside : t.number.0 < length old = omega (arith, lt, g.count, low, high) in
        let x = there_is old t.number.0 inside in
        let same : w.kept ≡ x.0 = same_some (slice_get new t.number.0) w.kept x.0 w.there (g.others t.number.0 x.0 ne x.1) in
        inl (inl ((are t).1 (record { kept = x.0; there = x.1; stand = ap (λ (z : Kept). z.node.stand) (sym same) ∙ w.stand })))

    other : WaitsWith new t.number.0 t.cost → t.number.0 ≢ number → (t.number.0 ≡ length old) ⊎ (t.number.0 ≡ length old → ⊥) → (IsTurn was t ⊎ (turn_for (length old) lower.stand ≡ Some t)) ⊎ (turn_for (length old + 1) higher.stand ≡ Some t)
    other w ne (inl e) =
        let same : w.kept ≡ child_kept number q Lower lower (Some (length old + 1)) = same_some (slice_get new t.number.0) w.kept (child_kept number q Lower lower (Some (length old + 1))) w.there (ap (λ (k : ℕ). slice_get new k) e ∙ g.low) in
        inl (inr (is_turn (length old) lower.stand t (ap (λ (z : Kept). z.node.stand) (sym same) ∙ w.stand) e))
    other w ne (inr low) = last w ne low (cases_eq t.number.0 (length old + 1))

    back : WaitsWith new t.number.0 t.cost → (t.number.0 ≡ number) ⊎ (t.number.0 ≡ number → ⊥) → ((IsTurn was t ⊎ (turn_for (length old) lower.stand ≡ Some t)) ⊎ (turn_for (length old + 1) higher.stand ≡ Some t)) × (turn cost number ≢ t)
    back w (inl e) =
        let same : w.kept ≡ expanded_kept kept cost q (length old) = same_some (slice_get new t.number.0) w.kept (expanded_kept kept cost q (length old)) w.there (ap (λ (k : ℕ). slice_get new k) e ∙ g.here) in
        let two : Waiting t.cost ≡ Expanded cost q = sym w.stand ∙ ap (λ (z : Kept). z.node.stand) same in
        cc
    back w (inr ne) = (other w ne (cases_eq t.number.0 (length old)), gone ne)

-- where there are no turns, no node has one
pub no_turn : (turns : BTreeSet Turn) (t : Turn) → (0 < length turns.keys → false ≡ true) → IsTurn turns t → ⊥
no_turn turns t few = at turns.keys few
  where
    at : (keys : List Turn) → (0 < length keys → false ≡ true) → contains turn_cmp (record { keys = keys }) t ≡ true → ⊥
    at [] few h = cc
    at (k ∷ keys) few h = let e : false ≡ true = few (omega arith) in cc
