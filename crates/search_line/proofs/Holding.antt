-- A line that is kept: as it begins, and after a node was expanded.
use Rattle.std.proofs.Common.{ℕ, ◌≡◌, ◌+◌, ◌<◌, ◌^◌, ◌∙◌, List, [], ◌∷◌, ◌++◌, length, refl, sym, ap, subst, arith, length-append}
use Rattle.std.specs.Prelude.{slice_get, Option, Some, None, ◌↔◌}
use Rattle.std.specs.BTreeSet.{BTreeSet}
use Rattle.std.proofs.lemmas.Option.{slice_get_within}
use Rattle.fleet_base.specs.declared.order.PairId.{PairId}
use Rattle.order_choice.specs.declared.made.MadeNode.{MadeNode}
use Rattle.order_choice.specs.declared.made.Stand.TheVariants.{Waiting}
use Rattle.order_choice.specs.Searching.{IsNew}
use Rattle.search_line.specs.declared.kept.Kept.{Kept}
use Rattle.search_line.specs.declared.turns.Turn.{Turn}
use Rattle.search_line.specs.declared.line.Line.TheInside.{Inside}
use Rattle.search_line.specs.Lines.{Numbered, IsOn, IsWaiting}
use Rattle.search_line.specs.Nodes.{IsKept, AreLinked, HaveWays, AreGrown}
use Rattle.search_line.specs.Nodes.IsWayTo.{to_root}
use Rattle.search_line.specs.Turns.{turn_for, IsTurn, AreExchanged, AreTurns, WaitsWith}
use Rattle.search_line.specs.KeptLine.{line_of, IsLine}
use Rattle.search_line.proofs.Linking.{numbered, same_some, read_line, linked_at, not_before, not_behind, kept_on, kept_at}
use Rattle.search_line.proofs.Growing.{Grows, grows, grown, linked_grown, ways_grown, each_grown, on_first, HasWayAt, way_at}
use Rattle.search_line.proofs.Turning.{turn, root_turns, grown_turns}

-- these nodes and turns are kept of a line
pub record IsLineOf (nodes : List Kept) (turns : BTreeSet Turn) (line : List Numbered) : Type 0 where
  pub linked : AreLinked nodes (Some 0) line
  pub as_many : length line ≡ length nodes
  pub each : (number : ℕ) → number < length nodes → IsOn line number
  pub ways : HaveWays nodes line ([] ∷ [])
  pub turns_are : AreTurns nodes turns
  pub few : length nodes < 2 ^ 32

pub as_read : (l : Inside) (line : List Numbered) → IsLineOf l.nodes.items l.turns line → line_of l ≡ line
as_read l line h = read_line l.nodes.items (length l.nodes.items) (Some 0) line h.linked (omega (arith, h.as_many))

pub holds : (l : Inside) (line : List Numbered) → IsLineOf l.nodes.items l.turns line → IsLine l
holds l line h =
    let e : line ≡ line_of l = sym (as_read l line h) in
    record {
      linked = subst (λ (z : List Numbered). AreLinked l.nodes.items (Some 0) z) e h.linked;
      as_many = ap length (sym e) ∙ h.as_many;
      each = λ number lt. subst (λ (z : List Numbered). IsOn z number) e (h.each number lt);
      ways = subst (λ (z : List Numbered). HaveWays l.nodes.items z ([] ∷ [])) e h.ways;
      turns = h.turns_are;
      few = h.few;
    }

pub opened : (l : Inside) (line : List Numbered) → IsLine l → line_of l ≡ line → IsLineOf l.nodes.items l.turns line
opened l line h e = record {
  linked = subst (λ (z : List Numbered). AreLinked l.nodes.items (Some 0) z) e h.linked;
  as_many = ap length (sym e) ∙ h.as_many;
  each = λ number lt. subst (λ (z : List Numbered). IsOn z number) e (h.each number lt);
  ways = subst (λ (z : List Numbered). HaveWays l.nodes.items z ([] ∷ [])) e h.ways;
  turns_are = h.turns;
  few = h.few;
}

-- the root alone
pub root_line : (kept : Kept) (turns : BTreeSet Turn) → kept.origin ≡ None → kept.next ≡ None → ((t : Turn) → IsTurn turns t ↔ (turn_for 0 kept.node.stand ≡ Some t)) → IsLineOf (kept ∷ []) turns (numbered 0 kept.node ∷ [])
root_line kept turns first alone are = record {
  linked = (refl, record { kept = kept; there = refl; node = refl }, alone);
  as_many = refl;
  each = λ number lt. on_first (numbered 0 kept.node) [] number (omega arith);
  ways = (to_root kept refl first, tt);
  turns_are = root_turns kept turns are;
  few = omega arith;
}

-- a node is expanded
pub grown_line : (old new : List Kept) (number cost : ℕ) (q : PairId) (lower higher : MadeNode) (was now : BTreeSet Turn) (front back : List Numbered) (node : MadeNode) → AreGrown old new number cost q lower higher → IsLineOf old was (front ++ numbered number node ∷ back) → node.stand ≡ Waiting cost
    → AreExchanged was now (turn cost number) (turn_for (length old) lower.stand) (turn_for (length old + 1) higher.stand) → IsNew lower.stand → IsNew higher.stand → length old + 2 < 2 ^ 32
    → IsLineOf new now (front ++ numbered number (grown node cost q) ∷ numbered (length old) lower ∷ numbered (length old + 1) higher ∷ back)
grown_line old new number cost q lower higher was now front back node a h waits ex fresh_low fresh_high room = record {
  linked = linked_grown old new number cost q lower higher a.kept g front back node (Some 0) (not_before old (Some 0) front back (numbered number node) h.linked) (not_behind old (Some 0) front back (numbered number node) h.linked) h.linked;
  as_many = lengths;
  each = λ k lt. each_grown front back number (length old) node (grown node cost q) lower higher h.each k (omega (arith, lt, g.count));
  ways = subst (λ (z : MadeNode). HaveWays new (front ++ numbered number (grown z cost q) ∷ numbered (length old) lower ∷ numbered (length old + 1) higher ∷ back) ([] ∷ [])) same (ways_grown old new number cost q lower higher a.kept g stands inside fresh_low fresh_high front back ([] ∷ []) (subst (λ (z : MadeNode). HaveWays old (front ++ numbered number z ∷ back) ([] ∷ [])) (sym same) h.ways));
  turns_are = grown_turns old new number cost q lower higher a.kept was now g stands h.turns_are ex;
  few = omega (arith, g.count, room);
}
  where
    g : Grows old new number cost q lower higher a.kept
    g = grows old new number cost q lower higher a

    same : a.kept.node ≡ node
    same = (kept_at old (Some 0) (front ++ numbered number node ∷ back) front back number node a.kept h.linked refl a.there).1

    stands : a.kept.node.stand ≡ Waiting cost
    stands = ap (λ (z : MadeNode). z.stand) same ∙ waits

    inside : number < length old
    inside = slice_get_within old number a.kept a.there

    lengths : length (front ++ numbered number (grown node cost q) ∷ numbered (length old) lower ∷ numbered (length old + 1) higher ∷ back) ≡ length new
    lengths =
        let one : length front + length (numbered number node ∷ back) ≡ length old = sym (length-append front (numbered number node ∷ back)) ∙ h.as_many in
        let two : length (front ++ numbered number (grown node cost q) ∷ numbered (length old) lower ∷ numbered (length old + 1) higher ∷ back) ≡ length front + length (numbered number (grown node cost q) ∷ numbered (length old) lower ∷ numbered (length old + 1) higher ∷ back) = length-append front (numbered number (grown node cost q) ∷ numbered (length old) lower ∷ numbered (length old + 1) higher ∷ back) in
        omega (arith, one, two, g.count)

-- a node that waits, by its number
pub waiting_on : (nodes : List Kept) (turns : BTreeSet Turn) (line : List Numbered) (number cost : ℕ) → IsLineOf nodes turns line → WaitsWith nodes number cost → IsWaiting line number cost
waiting_on nodes turns line number cost h w =
    let on : IsOn line number = h.each number (slice_get_within nodes number w.kept w.there) in
    let k : IsKept nodes (numbered number on.node) = kept_on nodes (Some 0) line number on h.linked in
    let same : k.kept ≡ w.kept = same_some (slice_get nodes number) k.kept w.kept k.there w.there in
    let way : HasWayAt nodes on.front number ([] ∷ []) = way_at nodes on.front on.back (numbered number on.node) ([] ∷ []) (subst (λ (z : List Numbered). HaveWays nodes z ([] ∷ [])) on.place h.ways) in
    record {
      node = on.node;
      way = way.way;
      there = record { front = on.front; back = on.back; more = way.more; place = on.place; ways = way.past };
      stand = ap (λ (z : MadeNode). z.stand) (sym k.node) ∙ ap (λ (z : Kept). z.node.stand) same ∙ w.stand;
    }

-- the line after a node that waits was expanded
pub expanded_line : (l : Inside) (line : List Numbered) (made new : List Kept) (now : BTreeSet Turn) (number cost first : ℕ) (q : PairId) (lower higher : MadeNode) (low high : Option Turn) (front back : List Numbered) (node : MadeNode) → IsLine l → line_of l ≡ line → IsWaiting line number cost → made ≡ l.nodes.items → first ≡ length made
    → AreGrown made new number cost q lower higher → AreExchanged l.turns now (turn cost number) low high → low ≡ turn_for first lower.stand → high ≡ turn_for (first + 1) higher.stand → IsNew lower.stand → IsNew higher.stand → length made + 2 < 2 ^ 32
    → line ≡ front ++ numbered number node ∷ back → IsLineOf new now (front ++ numbered number (grown node cost q) ∷ numbered (length line) lower ∷ numbered (length line + 1) higher ∷ back)
expanded_line l line made new now number cost first q lower higher low high front back node h view w same count a ex is_low is_high fresh_low fresh_high room place =
    subst (λ (k : ℕ). IsLineOf new now (front ++ numbered number (grown node cost q) ∷ numbered k lower ∷ numbered (k + 1) higher ∷ back)) (sym was.as_many) (grown_line made new number cost q lower higher l.turns now front back node a (subst (λ (z : List Numbered). IsLineOf made l.turns z) place was) waits turns fresh_low fresh_high room)
  where
    was : IsLineOf made l.turns line
    was = subst (λ (z : List Kept). IsLineOf z l.turns line) (sym same) (opened l line h view)

    here : a.kept.node ≡ node
    here = (kept_at made (Some 0) line front back number node a.kept was.linked place a.there).1

    waiting : a.kept.node ≡ w.node
    waiting = (kept_at made (Some 0) line w.there.front w.there.back number w.node a.kept was.linked w.there.place a.there).1

    waits : node.stand ≡ Waiting cost
    waits = ap (λ (z : MadeNode). z.stand) (sym here ∙ waiting) ∙ w.stand

    turns : AreExchanged l.turns now (turn cost number) (turn_for (length made) lower.stand) (turn_for (length made + 1) higher.stand)
    turns = subst (λ (o : Option Turn). AreExchanged l.turns now (turn cost number) o (turn_for (length made + 1) higher.stand)) (is_low ∙ ap (λ (k : ℕ). turn_for k lower.stand) count) (subst (λ (o : Option Turn). AreExchanged l.turns now (turn cost number) low o) (is_high ∙ ap (λ (k : ℕ). turn_for (k + 1) higher.stand) count) ex)

-- the slot of a node on the line
pub slot_within : (l : Inside) (line : List Numbered) (number : ℕ) (front back : List Numbered) (node : MadeNode) → IsLine l → line_of l ≡ line → line ≡ front ++ numbered number node ∷ back → number < length l.nodes.items
slot_within l line number front back node h view place =
    let k = (linked_at l.nodes.items (Some 0) front back (numbered number node) (subst (λ (z : List Numbered). AreLinked l.nodes.items (Some 0) z) (view ∙ place) h.linked)).1 in
    slice_get_within l.nodes.items number k.kept k.there
