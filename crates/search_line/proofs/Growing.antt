-- A node is expanded, and its two children are kept behind all other nodes: they stand behind it on the line.
use Rattle.std.proofs.Common.{ℕ, ◌≡◌, ◌≢◌, ◌+◌, ◌<◌, ◌≤◌, ◌∙◌, ◌⊎◌, suc, List, [], ◌∷◌, ◌++◌, length, set, refl, sym, ap, subst, inl, inr, arith, length-append, add-one}
use Rattle.std.specs.Prelude.{slice_get, Option, Some}
use Rattle.std.proofs.Math.ListN.{length-set}
use Rattle.std.proofs.lemmas.Bool.{cases_eq, cases_lt}
use Rattle.fleet_base.specs.declared.order.PairId.{PairId}
use Rattle.fleet_base.specs.declared.order.Side.TheVariants.{Lower, Higher}
use Rattle.cert_tree.specs.Decisions.{Decision}
use Rattle.cert_tree.specs.Trees.{branch_to}
use Rattle.order_choice.specs.declared.made.MadeNode.{MadeNode}
use Rattle.order_choice.specs.declared.made.Stand.{Stand}
use Rattle.order_choice.specs.declared.made.Stand.TheVariants.{Waiting, Expanded}
use Rattle.order_choice.specs.Searching.{IsNew, forced_on, ways_beyond, ways_past}
use Rattle.order_choice.specs.Searching.IsNew.{new_round, new_waiting}
use Rattle.search_line.specs.declared.kept.Kept.{Kept}
use Rattle.search_line.specs.Lines.{Numbered, nodes_on, IsOn}
use Rattle.search_line.specs.Nodes.{AreLinked, IsWayTo, HaveWays, AreGrown, expanded_kept, child_kept}
use Rattle.search_line.specs.Nodes.IsWayTo.{to_root, to_child}
use Rattle.search_line.proofs.Slots.{left, seam, behind_seam, written, other}
use Rattle.search_line.proofs.Linking.{numbered, same_some, HasNot}

-- what is kept at each number after a node was expanded
pub record Grows (old new : List Kept) (number cost : ℕ) (q : PairId) (lower higher : MadeNode) (kept : Kept) : Type 0 where
  pub before : slice_get old number ≡ Some kept
  pub others : (k : ℕ) (x : Kept) → k ≢ number → slice_get old k ≡ Some x → slice_get new k ≡ Some x
  pub here : slice_get new number ≡ Some (expanded_kept kept cost q (length old))
  pub low : slice_get new (length old) ≡ Some (child_kept number q Lower lower (Some (length old + 1)))
  pub high : slice_get new (length old + 1) ≡ Some (child_kept number q Higher higher kept.next)
  pub count : length new ≡ length old + 2

pub grows : (old new : List Kept) (number cost : ℕ) (q : PairId) (lower higher : MadeNode) (a : AreGrown old new number cost q lower higher) → Grows old new number cost q lower higher a.kept
grows old new number cost q lower higher a = record {
  before = a.there;
  others = λ k x ne e. at k x (left (set old number big) (low ∷ high ∷ []) k x (other old number k x big ne e));
  here = at number big (left (set old number big) (low ∷ high ∷ []) number big (written old number a.kept big a.there));
  low = at (length old) low (subst (λ (k : ℕ). slice_get (set old number big ++ low ∷ high ∷ []) k ≡ Some low) (length-set old number big) (seam (set old number big) low (high ∷ [])));
  high = at (length old + 1) high (subst (λ (k : ℕ). slice_get (set old number big ++ low ∷ high ∷ []) k ≡ Some high) (ap suc (length-set old number big) ∙ sym (add-one (length old))) (behind_seam (set old number big) low high []));
  count = ap length a.all ∙ length-append (set old number big) (low ∷ high ∷ []) ∙ ap (λ n. n + 2) (length-set old number big);
}
  where
    big : Kept
    big = expanded_kept a.kept cost q (length old)

    low : Kept
    low = child_kept number q Lower lower (Some (length old + 1))

    high : Kept
    high = child_kept number q Higher higher a.kept.next

    at : (k : ℕ) (x : Kept) → slice_get (set old number big ++ low ∷ high ∷ []) k ≡ Some x → slice_get new k ≡ Some x
    at k x e = ap (λ (z : List Kept). slice_get z k) a.all ∙ e

-- linked nodes without the one that is expanded are linked as before
pub linked_still : (old new : List Kept) (number cost : ℕ) (q : PairId) (lower higher : MadeNode) (kept : Kept) → Grows old new number cost q lower higher kept → (line : List Numbered) (at : Option ℕ) → HasNot number line → AreLinked old at line → AreLinked new at line
linked_still old new number cost q lower higher kept g [] at none h = h
linked_still old new number cost q lower higher kept g (n ∷ line) at none h = (
  h.0,
  record { kept = h.1.kept; there = g.others n.number h.1.kept none.0 h.1.there; node = h.1.node },
  linked_still old new number cost q lower higher kept g line h.1.kept.next none.1 h.2,
)

-- the expanded node, as it stands on the line
abbrev pub grown : MadeNode → ℕ → PairId → MadeNode
grown node cost q = record node { stand = Expanded cost q }

-- the children stand behind the expanded node
pub linked_grown : (old new : List Kept) (number cost : ℕ) (q : PairId) (lower higher : MadeNode) (kept : Kept) → Grows old new number cost q lower higher kept → (front back : List Numbered) (node : MadeNode) (at : Option ℕ) → HasNot number front → HasNot number back → AreLinked old at (front ++ numbered number node ∷ back)
    → AreLinked new at (front ++ numbered number (grown node cost q) ∷ numbered (length old) lower ∷ numbered (length old + 1) higher ∷ back)
linked_grown old new number cost q lower higher kept g [] back node at before behind h =
    let same : h.1.kept ≡ kept = same_some (slice_get old number) h.1.kept kept h.1.there g.before in
    let node_same : kept.node ≡ node = ap (λ (z : Kept). z.node) (sym same) ∙ h.1.node in
    let rest : AreLinked new kept.next back = linked_still old new number cost q lower higher kept g back kept.next behind (subst (λ (z : Kept). AreLinked old z.next back) same h.2) in (
      h.0,
      record { kept = expanded_kept kept cost q (length old); there = g.here; node = ap (λ (z : MadeNode). grown z cost q) node_same },
      (
        refl,
        record { kept = child_kept number q Lower lower (Some (length old + 1)); there = g.low; node = refl },
        (refl, record { kept = child_kept number q Higher higher kept.next; there = g.high; node = refl }, rest),
      ),
    )
linked_grown old new number cost q lower higher kept g (n ∷ front) back node at before behind h = (
  h.0,
  record { kept = h.1.kept; there = g.others n.number h.1.kept before.0 h.1.there; node = h.1.node },
  linked_grown old new number cost q lower higher kept g front back node h.1.kept.next before.1 behind h.2,
)

-- a node has the same origin and the same forcings as before
pub record StaysAs (new : List Kept) (k : ℕ) (x : Kept) : Type 0 where
  pub kept : Kept
  pub there : slice_get new k ≡ Some kept
  pub origin : kept.origin ≡ x.origin

pub stays : (old new : List Kept) (number cost : ℕ) (q : PairId) (lower higher : MadeNode) (kept : Kept) → Grows old new number cost q lower higher kept → (k : ℕ) (x : Kept) → slice_get old k ≡ Some x → StaysAs new k x
stays old new number cost q lower higher kept g k x e = at (cases_eq k number)
  where
    at : (k ≡ number) ⊎ (k ≡ number → ⊥) → StaysAs new k x
    at (inr ne) = record { kept = x; there = g.others k x ne e; origin = refl }
    at (inl same) =
        let is : x ≡ kept = same_some (slice_get old k) x kept e (ap (λ (j : ℕ). slice_get old j) same ∙ g.before) in
        record { kept = expanded_kept kept cost q (length old); there = ap (λ (j : ℕ). slice_get new j) same ∙ g.here; origin = ap (λ (z : Kept). z.origin) (sym is) }

-- a node that is expanded is not the one that waits
pub not_expanded : (old : List Kept) (number cost below : ℕ) (q : PairId) (kept : Kept) → slice_get old number ≡ Some kept → kept.node.stand ≡ Waiting cost → (k : ℕ) (x : Kept) → slice_get old k ≡ Some x → x.node.stand ≡ Expanded below q → k ≢ number
not_expanded old number cost below q kept there waits k x e stand same =
    let is : x ≡ kept = same_some (slice_get old k) x kept e (ap (λ (j : ℕ). slice_get old j) same ∙ there) in
    let two : Waiting cost ≡ Expanded below q = sym waits ∙ ap (λ (z : Kept). z.node.stand) (sym is) ∙ stand in
    cc

-- the way to a node stays
pub way_stays : (old new : List Kept) (number cost wait : ℕ) (q : PairId) (lower higher : MadeNode) (kept : Kept) → Grows old new number cost q lower higher kept → kept.node.stand ≡ Waiting wait → (k : ℕ) (way : List Decision) → IsWayTo old k way → IsWayTo new k way
way_stays old new number cost wait q lower higher kept g waits _ _ (to_root root there none) =
    let s : StaysAs new 0 root = stays old new number cost q lower higher kept g 0 root there in
    to_root s.kept s.there (s.origin ∙ none)
way_stays old new number cost wait q lower higher kept g waits _ _ (to_child k below x parent origin way there from above less stand rest) =
    let s : StaysAs new k x = stays old new number cost q lower higher kept g k x there in
    let ne : origin.parent ≢ number = not_expanded old number wait below origin.pair kept g.before waits origin.parent parent above stand in
    to_child k below s.kept parent origin way s.there (s.origin ∙ from) (g.others origin.parent parent ne above) less stand (way_stays old new number cost wait q lower higher kept g waits origin.parent way rest)

pub ways_stay : (old new : List Kept) (number cost wait : ℕ) (q : PairId) (lower higher : MadeNode) (kept : Kept) → Grows old new number cost q lower higher kept → kept.node.stand ≡ Waiting wait → (line : List Numbered) (ways : List (List Decision)) → HaveWays old line ways → HaveWays new line ways
ways_stay old new number cost wait q lower higher kept g waits [] ways h = tt
ways_stay old new number cost wait q lower higher kept g waits (n ∷ line) [] h = h
ways_stay old new number cost wait q lower higher kept g waits (n ∷ line) (way ∷ ways) h = (
  way_stays old new number cost wait q lower higher kept g waits n.number way h.0,
  ways_stay old new number cost wait q lower higher kept g waits line (ways_beyond n.node.stand (forced_on n.node.forced way) ways) h.1,
)

pub past_new : (nodes : List Kept) (line : List Numbered) (stand : Stand) (way : List Decision) (ways : List (List Decision)) → IsNew stand → HaveWays nodes line ways → HaveWays nodes line (ways_beyond stand way ways)
past_new nodes line _ way ways (new_round cycle) h = h
past_new nodes line _ way ways (new_waiting cost) h = h

-- the branches lead to the children
pub ways_grown : (old new : List Kept) (number cost : ℕ) (q : PairId) (lower higher : MadeNode) (kept : Kept) → Grows old new number cost q lower higher kept → kept.node.stand ≡ Waiting cost → number < length old → IsNew lower.stand → IsNew higher.stand
    → (front back : List Numbered) (ways : List (List Decision)) → HaveWays old (front ++ numbered number kept.node ∷ back) ways
    → HaveWays new (front ++ numbered number (grown kept.node cost q) ∷ numbered (length old) lower ∷ numbered (length old + 1) higher ∷ back) ways
ways_grown old new number cost q lower higher kept g waits inside fresh_low fresh_high [] back [] h = h
ways_grown old new number cost q lower higher kept g waits inside fresh_low fresh_high [] back (way ∷ ways) h = (
  here,
  (
    to_child (length old) cost (child_kept number q Lower lower (Some (length old + 1))) (expanded_kept kept cost q (length old)) (record { parent = number; pair = q; side = Lower }) way g.low refl g.here inside refl here,
    past_new new (numbered (length old + 1) higher ∷ back) lower.stand (forced_on lower.forced (branch_to q Lower ∷ on)) ((branch_to q Higher ∷ on) ∷ ways) fresh_low (
      to_child (length old + 1) cost (child_kept number q Higher higher kept.next) (expanded_kept kept cost q (length old)) (record { parent = number; pair = q; side = Higher }) way g.high refl g.here (omega arith) refl here,
      past_new new back higher.stand (forced_on higher.forced (branch_to q Higher ∷ on)) ways fresh_high rest,
    ),
  ),
)
  where
    on : List Decision
    on = forced_on kept.node.forced way

    here : IsWayTo new number way
    here = way_stays old new number cost cost q lower higher kept g waits number way h.0

    rest : HaveWays new back ways
    rest = ways_stay old new number cost cost q lower higher kept g waits back ways (subst (λ (z : Stand). HaveWays old back (ways_beyond z on ways)) waits h.1)
ways_grown old new number cost q lower higher kept g waits inside fresh_low fresh_high (n ∷ front) back [] h = h
ways_grown old new number cost q lower higher kept g waits inside fresh_low fresh_high (n ∷ front) back (way ∷ ways) h = (
  way_stays old new number cost cost q lower higher kept g waits n.number way h.0,
  ways_grown old new number cost q lower higher kept g waits inside fresh_low fresh_high front back (ways_beyond n.node.stand (forced_on n.node.forced way) ways) h.1,
)

-- who stands on the line
pub on_cases : (n : Numbered) (line : List Numbered) (k : ℕ) → IsOn (n ∷ line) k → (n.number ≡ k) ⊎ IsOn line k
on_cases n line k on = at on.front on.place
  where
    at : (front : List Numbered) → n ∷ line ≡ front ++ numbered k on.node ∷ on.back → (n.number ≡ k) ⊎ IsOn line k
    at [] e = let same : n ≡ numbered k on.node = cc in inl (ap (λ (z : Numbered). z.number) same)
    at (m ∷ front) e = let same : line ≡ front ++ numbered k on.node ∷ on.back = cc in inr (record { front = front; node = on.node; back = on.back; place = same })

pub on_first : (n : Numbered) (line : List Numbered) (k : ℕ) → n.number ≡ k → IsOn (n ∷ line) k
on_first n line k e = record { front = []; node = n.node; back = line; place = ap (λ (j : ℕ). numbered j n.node ∷ line) e }

pub on_behind : (n : Numbered) (line : List Numbered) (k : ℕ) → IsOn line k → IsOn (n ∷ line) k
on_behind n line k on = record { front = n ∷ on.front; node = on.node; back = on.back; place = ap (λ (z : List Numbered). n ∷ z) on.place }

pub on_back : (front line : List Numbered) (k : ℕ) → IsOn line k → IsOn (front ++ line) k
on_back [] line k on = on
on_back (n ∷ front) line k on = on_behind n (front ++ line) k (on_back front line k on)

-- each that stood on the line still does
pub on_grown : (front back : List Numbered) (number first : ℕ) (node big lower higher : MadeNode) (k : ℕ) → IsOn (front ++ numbered number node ∷ back) k → IsOn (front ++ numbered number big ∷ numbered first lower ∷ numbered (first + 1) higher ∷ back) k
on_grown [] back number first node big lower higher k on = at (on_cases (numbered number node) back k on)
  where
    at : (number ≡ k) ⊎ IsOn back k → IsOn (numbered number big ∷ numbered first lower ∷ numbered (first + 1) higher ∷ back) k
    at (inl e) = on_first (numbered number big) (numbered first lower ∷ numbered (first + 1) higher ∷ back) k e
    at (inr b) = on_back (numbered number big ∷ numbered first lower ∷ numbered (first + 1) higher ∷ []) back k b
on_grown (n ∷ front) back number first node big lower higher k on = at (on_grown front back number first node big lower higher k) (on_cases n (front ++ numbered number node ∷ back) k on)
  where
    at : (IsOn (front ++ numbered number node ∷ back) k → IsOn (front ++ numbered number big ∷ numbered first lower ∷ numbered (first + 1) higher ∷ back) k) → (n.number ≡ k) ⊎ IsOn (front ++ numbered number node ∷ back) k → IsOn (n ∷ (front ++ numbered number big ∷ numbered first lower ∷ numbered (first + 1) higher ∷ back)) k
    at rest (inl e) = on_first n (front ++ numbered number big ∷ numbered first lower ∷ numbered (first + 1) higher ∷ back) k e
    at rest (inr b) = on_behind n (front ++ numbered number big ∷ numbered first lower ∷ numbered (first + 1) higher ∷ back) k (rest b)

pub each_grown : (front back : List Numbered) (number first : ℕ) (node big lower higher : MadeNode) → ((k : ℕ) → k < first → IsOn (front ++ numbered number node ∷ back) k) → (k : ℕ) → k < first + 2 → IsOn (front ++ numbered number big ∷ numbered first lower ∷ numbered (first + 1) higher ∷ back) k
each_grown front back number first node big lower higher each k lt = at (cases_lt k first)
  where
    new : List Numbered
    new = numbered number big ∷ numbered first lower ∷ numbered (first + 1) higher ∷ back

    last : (k ≡ first) ⊎ (k ≡ first → ⊥) → first ≤ k → IsOn new k
    last (inl e) le = on_behind (numbered number big) (numbered first lower ∷ numbered (first + 1) higher ∷ back) k (on_first (numbered first lower) (numbered (first + 1) higher ∷ back) k (sym e))
    last (inr ne) le = on_behind (numbered number big) (numbered first lower ∷ numbered (first + 1) higher ∷ back) k (on_behind (numbered first lower) (numbered (first + 1) higher ∷ back) k (on_first (numbered (first + 1) higher) back k (omega (arith, lt, le, ne))))

    at : (k < first) ⊎ (first ≤ k) → IsOn (front ++ new) k
    at (inl l) = on_grown front back number first node big lower higher k (each k l)
    at (inr le) = on_back front new k (last (cases_eq k first) le)

-- the way that stands at a place of the line
pub record HasWayAt (nodes : List Kept) (front : List Numbered) (number : ℕ) (ways : List (List Decision)) : Type 0 where
  pub way : List Decision
  pub more : List (List Decision)
  pub past : ways_past (nodes_on front) ways ≡ way ∷ more
  pub leads : IsWayTo nodes number way

pub way_at : (nodes : List Kept) (front back : List Numbered) (n : Numbered) (ways : List (List Decision)) → HaveWays nodes (front ++ n ∷ back) ways → HasWayAt nodes front n.number ways
way_at nodes [] back n [] h = absurd h
way_at nodes [] back n (way ∷ ways) h = record { way = way; more = ways; past = refl; leads = h.0 }
way_at nodes (m ∷ front) back n [] h = absurd h
way_at nodes (m ∷ front) back n (way ∷ ways) h =
    let w : HasWayAt nodes front n.number (ways_beyond m.node.stand (forced_on m.node.forced way) ways) = way_at nodes front back n (ways_beyond m.node.stand (forced_on m.node.forced way) ways) h.1 in
    record { way = w.way; more = w.more; past = w.past; leads = w.leads }
