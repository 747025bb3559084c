-- An entry that is read has these bytes as its payload, and each entry is read from its payload.
use Rattle.std.proofs.Common.{◌≡◌, ℕ, zero, suc, ◌^◌, ◌<◌, List, [], ◌∷◌, ◌++◌, map, length, Some, refl, sym, ap, subst, ◌∙◌, append_assoc, arith}
use Rattle.std.specs.Int.{w32, w64, to_be_bytes, from_be_bytes}
use Rattle.std.specs.List.{AllByRecursion}
use Rattle.std.specs.List.Sorted.{IsStrictlyIncreasing}
use Rattle.std.proofs.lemmas.List.{append-nil}
use Rattle.std.proofs.lemmas.Nat.{from_be_bytes-to_be_bytes_4, from_be_bytes-to_be_bytes_8}
use Rattle.fleet_base.specs.declared.order.PairId.{PairId}
use Rattle.fleet_base.specs.declared.report.Report.{Report}
use Rattle.fleet_base.specs.declared.report.Report.TheVariants.{Arrive, Delay}
use Rattle.journal_frame.specs.Entries.{Accepted, entry_payload, pair_bytes, counted_pairs, HasShortNumbers, HasLongTick, MaySwitch, IsEntry}
use Rattle.journal_frame.specs.Reading.{◌>>=◌, number_at, pairs_at, at_end, arrival_of, counted_of, delay_of, entry_of}
use Rattle.journal_frame.proofs.FieldLaws.{IsBytes, IsBytes-rest, bind_some, some_is, at_end_is, after, short_takes, short_again, long_takes, long_again, pairs_take, pairs_again}

-- a report and its pairs as an entry
abbrev accepted : Report × List PairId → Accepted
accepted x = record { report = x.0; switched = x.1 }

arrival_takes : (bytes : List ℕ) (x : Report × List PairId) → IsBytes bytes → arrival_of bytes ≡ Some x → IsEntry (1 ∷ bytes) (accepted x)
unfolding arrival_of entry_payload
arrival_takes bytes x fits e =
    let a = bind_some (number_at w32 bytes) (λ robot. number_at w32 robot.1 >>= λ index. number_at w64 index.1 >>= λ tick. at_end (Arrive robot.0 index.0 tick.0, []) tick.1) x e in
    let b = bind_some (number_at w32 a.0.1) (λ index. number_at w64 index.1 >>= λ tick. at_end (Arrive a.0.0 index.0 tick.0, []) tick.1) x a.2 in
    let c = bind_some (number_at w64 b.0.1) (λ tick. at_end (Arrive a.0.0 b.0.0 tick.0, []) tick.1) x b.2 in
    let made : Report × List PairId = (Arrive a.0.0 b.0.0 c.0.0, []) in
    let g = at_end_is made x c.0.1 c.2 in
    let t0 = short_takes bytes a.0.0 a.0.1 fits a.1 in
    let t1 = short_takes a.0.1 b.0.0 b.0.1 t0.0.rest_fits b.1 in
    let t2 = long_takes b.0.1 c.0.0 c.0.1 t1.0.rest_fits c.1 in
    let tick : b.0.1 ≡ to_be_bytes w64 c.0.0 = after b.0.1 (to_be_bytes w64 c.0.0) c.0.1 [] t2.0 g.0 ∙ append-nil (to_be_bytes w64 c.0.0) in
    let index : a.0.1 ≡ to_be_bytes w32 b.0.0 ++ to_be_bytes w64 c.0.0 = after a.0.1 (to_be_bytes w32 b.0.0) b.0.1 (to_be_bytes w64 c.0.0) t1.0 tick in
    let whole : bytes ≡ to_be_bytes w32 a.0.0 ++ (to_be_bytes w32 b.0.0 ++ to_be_bytes w64 c.0.0) = after bytes (to_be_bytes w32 a.0.0) a.0.1 (to_be_bytes w32 b.0.0 ++ to_be_bytes w64 c.0.0) t0.0 index in
    subst (λ (y : Report × List PairId). IsEntry (1 ∷ bytes) (accepted y)) g.1 (record { numbers = (t0.1, t1.1); tick = t2.1; order = refl; few = omega arith; pairs = tt; payload_is = ap (λ (l : List ℕ). 1 ∷ l) whole })

counted_takes : (bytes : List ℕ) (qs : List PairId) → IsBytes bytes → counted_of bytes ≡ Some qs → (bytes ≡ counted_pairs qs) × (length qs < 2 ^ 32) × AllByRecursion (λ q. q.0 < 2 ^ 32) qs
unfolding counted_of
counted_takes bytes qs fits e =
    let a = bind_some (number_at w32 bytes) (λ count. pairs_at count.0 count.1 >>= λ pairs. at_end pairs.0 pairs.1) qs e in
    let b = bind_some (pairs_at a.0.0 a.0.1) (λ pairs. at_end pairs.0 pairs.1) qs a.2 in
    let g = at_end_is b.0.0 qs b.0.1 b.2 in
    let first = short_takes bytes a.0.0 a.0.1 fits a.1 in
    let second = pairs_take a.0.0 a.0.1 b.0 first.0.rest_fits b.1 in
    let pairs : a.0.1 ≡ pair_bytes b.0.0 = after a.0.1 (pair_bytes b.0.0) b.0.1 [] second.0 g.0 ∙ append-nil (pair_bytes b.0.0) in
    let whole : bytes ≡ counted_pairs b.0.0 = after bytes (to_be_bytes w32 a.0.0) a.0.1 (pair_bytes b.0.0) first.0 pairs ∙ ap (λ (k : ℕ). to_be_bytes w32 k ++ pair_bytes b.0.0) (sym second.1) in
    subst (λ (v : List PairId). (bytes ≡ counted_pairs v) × (length v < 2 ^ 32) × AllByRecursion (λ q. q.0 < 2 ^ 32) v) g.1 (whole, omega (arith, second.1, first.1), second.2)

delay_takes : (bytes : List ℕ) (x : Report × List PairId) → IsBytes bytes → delay_of bytes ≡ Some x → IsStrictlyIncreasing (map (λ q. q.0) x.1) → IsEntry (2 ∷ bytes) (accepted x)
unfolding delay_of entry_payload
delay_takes bytes x fits e =
    let a = bind_some (number_at w32 bytes) (λ robot. number_at w32 robot.1 >>= λ index. number_at w32 index.1 >>= λ extra. number_at w64 extra.1 >>= λ tick. counted_of tick.1 >>= λ switched. Some (Delay robot.0 index.0 extra.0 tick.0, switched)) x e in
    let b = bind_some (number_at w32 a.0.1) (λ index. number_at w32 index.1 >>= λ extra. number_at w64 extra.1 >>= λ tick. counted_of tick.1 >>= λ switched. Some (Delay a.0.0 index.0 extra.0 tick.0, switched)) x a.2 in
    let c = bind_some (number_at w32 b.0.1) (λ extra. number_at w64 extra.1 >>= λ tick. counted_of tick.1 >>= λ switched. Some (Delay a.0.0 b.0.0 extra.0 tick.0, switched)) x b.2 in
    let d = bind_some (number_at w64 c.0.1) (λ tick. counted_of tick.1 >>= λ switched. Some (Delay a.0.0 b.0.0 c.0.0 tick.0, switched)) x c.2 in
    let s = bind_some (counted_of d.0.1) (λ switched. Some (Delay a.0.0 b.0.0 c.0.0 d.0.0, switched)) x d.2 in
    let made : Report × List PairId = (Delay a.0.0 b.0.0 c.0.0 d.0.0, s.0) in
    let t0 = short_takes bytes a.0.0 a.0.1 fits a.1 in
    let t1 = short_takes a.0.1 b.0.0 b.0.1 t0.0.rest_fits b.1 in
    let t2 = short_takes b.0.1 c.0.0 c.0.1 t1.0.rest_fits c.1 in
    let t3 = long_takes c.0.1 d.0.0 d.0.1 t2.0.rest_fits d.1 in
    let t4 = counted_takes d.0.1 s.0 t3.0.rest_fits s.1 in
    let from_tick : c.0.1 ≡ to_be_bytes w64 d.0.0 ++ counted_pairs s.0 = after c.0.1 (to_be_bytes w64 d.0.0) d.0.1 (counted_pairs s.0) t3.0 t4.0 in
    let from_extra : b.0.1 ≡ to_be_bytes w32 c.0.0 ++ (to_be_bytes w64 d.0.0 ++ counted_pairs s.0) = after b.0.1 (to_be_bytes w32 c.0.0) c.0.1 (to_be_bytes w64 d.0.0 ++ counted_pairs s.0) t2.0 from_tick in
    let from_index : a.0.1 ≡ to_be_bytes w32 b.0.0 ++ (to_be_bytes w32 c.0.0 ++ (to_be_bytes w64 d.0.0 ++ counted_pairs s.0)) = after a.0.1 (to_be_bytes w32 b.0.0) b.0.1 (to_be_bytes w32 c.0.0 ++ (to_be_bytes w64 d.0.0 ++ counted_pairs s.0)) t1.0 from_extra in
    let whole : bytes ≡ to_be_bytes w32 a.0.0 ++ (to_be_bytes w32 b.0.0 ++ (to_be_bytes w32 c.0.0 ++ (to_be_bytes w64 d.0.0 ++ counted_pairs s.0))) = after bytes (to_be_bytes w32 a.0.0) a.0.1 (to_be_bytes w32 b.0.0 ++ (to_be_bytes w32 c.0.0 ++ (to_be_bytes w64 d.0.0 ++ counted_pairs s.0))) t0.0 from_index in
    subst (λ (y : Report × List PairId). IsStrictlyIncreasing (map (λ q. q.0) y.1) → IsEntry (2 ∷ bytes) (accepted y)) (some_is made x s.2)
    (λ order. record { numbers = (t0.1, t1.1, t2.1); tick = t3.1; order = order; few = t4.1; pairs = t4.2; payload_is = ap (λ (l : List ℕ). 2 ∷ l) whole })

pub entry_takes : (bytes : List ℕ) (x : Report × List PairId) → IsBytes bytes → entry_of bytes ≡ Some x → IsStrictlyIncreasing (map (λ q. q.0) x.1) → IsEntry bytes (accepted x)
unfolding entry_of
entry_takes [] x fits e order = absurd cc
entry_takes (zero ∷ bytes) x fits e order = absurd cc
entry_takes (suc zero ∷ bytes) x fits e order = arrival_takes bytes x (IsBytes-rest 1 bytes fits) e
entry_takes (suc (suc zero) ∷ bytes) x fits e order = delay_takes bytes x (IsBytes-rest 2 bytes fits) e order
entry_takes (suc (suc (suc kind)) ∷ bytes) x fits e order = absurd cc

arrival_again : (robot index tick : ℕ) → robot < 2 ^ 32 → index < 2 ^ 32 → tick < 2 ^ 64 → arrival_of (to_be_bytes w32 robot ++ (to_be_bytes w32 index ++ to_be_bytes w64 tick)) ≡ Some (Arrive robot index tick, [])
unfolding arrival_of
arrival_again robot index tick r i t =
    let robot_is : from_be_bytes w32 (to_be_bytes w32 robot) ≡ robot = from_be_bytes-to_be_bytes_4 robot r in
    let index_is : from_be_bytes w32 (to_be_bytes w32 index) ≡ index = from_be_bytes-to_be_bytes_4 index i in
    let tick_is : from_be_bytes w64 (to_be_bytes w64 tick) ≡ tick = from_be_bytes-to_be_bytes_8 tick t in
    λ z. Some (Arrive (robot_is z) (index_is z) (tick_is z), [])

counted_again : (qs : List PairId) → length qs < 2 ^ 32 → AllByRecursion (λ q. q.0 < 2 ^ 32) qs → counted_of (counted_pairs qs) ≡ Some qs
unfolding counted_of
counted_again qs few fits =
    let rest : pairs_at (length qs) (pair_bytes qs) ≡ Some (qs, []) = ap (pairs_at (length qs)) (sym (append-nil (pair_bytes qs))) ∙ pairs_again qs [] fits in
    rw (short_again (length qs) (pair_bytes qs) few, rest) refl

delay_again : (robot index extra tick : ℕ) (qs : List PairId) → robot < 2 ^ 32 → index < 2 ^ 32 → extra < 2 ^ 32 → tick < 2 ^ 64 → length qs < 2 ^ 32 → AllByRecursion (λ q. q.0 < 2 ^ 32) qs
    → delay_of (to_be_bytes w32 robot ++ (to_be_bytes w32 index ++ (to_be_bytes w32 extra ++ (to_be_bytes w64 tick ++ counted_pairs qs)))) ≡ Some (Delay robot index extra tick, qs)
unfolding delay_of
delay_again robot index extra tick qs r i x t few fits =
    rw (
      short_again robot (to_be_bytes w32 index ++ (to_be_bytes w32 extra ++ (to_be_bytes w64 tick ++ counted_pairs qs))) r,
      short_again index (to_be_bytes w32 extra ++ (to_be_bytes w64 tick ++ counted_pairs qs)) i,
      short_again extra (to_be_bytes w64 tick ++ counted_pairs qs) x,
      long_again tick (counted_pairs qs) t,
      counted_again qs few fits,
    )
    refl

payload_again : (report : Report) (qs : List PairId) → HasShortNumbers report → HasLongTick report → MaySwitch report qs → length qs < 2 ^ 32 → AllByRecursion (λ q. q.0 < 2 ^ 32) qs → entry_of (entry_payload report qs) ≡ Some (report, qs)
unfolding entry_of entry_payload
payload_again (Arrive robot index tick) qs numbers fits order few pairs = arrival_again robot index tick numbers.0 numbers.1 fits ∙ ap (λ (l : List PairId). Some (Arrive robot index tick, l)) (sym order)
payload_again (Delay robot index extra tick) qs numbers fits order few pairs = delay_again robot index extra tick qs numbers.0 numbers.1 numbers.2 fits few pairs

pub entry_again : (payload : List ℕ) (entry : Accepted) → IsEntry payload entry → entry_of payload ≡ Some (entry.report, entry.switched)
entry_again payload entry is = ap entry_of is.payload_is ∙ payload_again entry.report entry.switched is.numbers is.tick is.order is.few is.pairs

-- a payload is that of one entry
pub entry_one : (payload : List ℕ) (entry other : Accepted) → IsEntry payload entry → IsEntry payload other → entry ≡ other
entry_one payload entry other one two =
    let first : Report × List PairId = (entry.report, entry.switched) in
    let second : Report × List PairId = (other.report, other.switched) in
    ap accepted (some_is first second (sym (entry_again payload entry one) ∙ entry_again payload other two))

-- the pairs of an entry ascend

switches_ascend : (report : Report) (qs : List PairId) → MaySwitch report qs → IsStrictlyIncreasing (map (λ q. q.0) qs)
switches_ascend (Arrive robot index tick) qs order = subst (λ (l : List PairId). IsStrictlyIncreasing (map (λ q. q.0) l)) (sym order) (λ k lt. absurd (omega (arith, lt)))
switches_ascend (Delay robot index extra tick) qs order = order

pub read_in_order : (payload : List ℕ) (x : Report × List PairId) (entry : Accepted) → entry_of payload ≡ Some x → IsEntry payload entry → IsStrictlyIncreasing (map (λ q. q.0) x.1)
read_in_order payload x entry e is =
    let first : Report × List PairId = (entry.report, entry.switched) in
    subst (λ (y : Report × List PairId). IsStrictlyIncreasing (map (λ q. q.0) y.1)) (some_is first x (sym (entry_again payload entry is) ∙ e)) (switches_ascend entry.report entry.switched is.order)

-- what is written one field after the other is the payload of a delay

regroup : (o a r i x t c : List ℕ) → ((((o ++ a) ++ (r ++ i)) ++ x) ++ t) ++ c ≡ o ++ (a ++ (r ++ (i ++ (x ++ (t ++ c)))))
regroup o a r i x t c = simp append_assoc

pub delay_spelled : (start kind visit extra_behind tick_behind : List ℕ) (robot index extra tick : ℕ) (qs : List PairId) → kind ≡ start ++ 2 ∷ [] → visit ≡ kind ++ (to_be_bytes w32 robot ++ to_be_bytes w32 index) → extra_behind ≡ visit ++ to_be_bytes w32 extra
    → tick_behind ≡ extra_behind ++ to_be_bytes w64 tick → tick_behind ++ counted_pairs qs ≡ start ++ entry_payload (Delay robot index extra tick) qs
unfolding entry_payload
delay_spelled start kind visit extra_behind tick_behind robot index extra tick qs e1 e2 e3 e4 =
    let upto_visit : visit ≡ (start ++ 2 ∷ []) ++ (to_be_bytes w32 robot ++ to_be_bytes w32 index) = e2 ∙ ap (λ (l : List ℕ). l ++ (to_be_bytes w32 robot ++ to_be_bytes w32 index)) e1 in
    let upto_extra : extra_behind ≡ ((start ++ 2 ∷ []) ++ (to_be_bytes w32 robot ++ to_be_bytes w32 index)) ++ to_be_bytes w32 extra = e3 ∙ ap (λ (l : List ℕ). l ++ to_be_bytes w32 extra) upto_visit in
    let upto_tick : tick_behind ≡ (((start ++ 2 ∷ []) ++ (to_be_bytes w32 robot ++ to_be_bytes w32 index)) ++ to_be_bytes w32 extra) ++ to_be_bytes w64 tick = e4 ∙ ap (λ (l : List ℕ). l ++ to_be_bytes w64 tick) upto_extra in
    ap (λ (l : List ℕ). l ++ counted_pairs qs) upto_tick ∙ regroup start (2 ∷ []) (to_be_bytes w32 robot) (to_be_bytes w32 index) (to_be_bytes w32 extra) (to_be_bytes w64 tick) (counted_pairs qs)
