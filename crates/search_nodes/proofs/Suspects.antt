-- Which pairs may be forced.
use Rattle.std.proofs.Common.{ℕ, suc, zero, ◌≡◌, ◌≢◌, ◌+◌, ◌<◌, ◌≤◌, ◌⊎◌, List, [], ◌∷◌, Some, None, Option, refl, sym, ap, ◌∙◌, subst, inl, inr, arith, length, get_or}
use Rattle.std.specs.Prelude.{IsSome, Contains, slice_get}
use Rattle.std.proofs.lemmas.Bool.{cases_eq}
use Rattle.std.proofs.lemmas.Option.{slice_get-get_or, get_or_from_slice_get}
use Rattle.fleet_base.specs.declared.order.PairId.{PairId}
use Rattle.fleet_base.specs.declared.order.Side.{Side}
use Rattle.fleet_base.specs.Order.{Graph}
use Rattle.fleet_base.specs.Groups.{AreMates}
use Rattle.fleet_base.specs.State.{FleetState}
use Rattle.fleet_base.proofs.Members.{head_in, tail_in, in_cons, in_none, element_at, place_of_element}
use Rattle.fleet_base.specs.Lists.{row_of}
use Rattle.fleet_base.proofs.Mates.{mates_turned}
use Rattle.edge_groups.specs.Mates.{AreAllMates}
use Rattle.longest_path.specs.declared.decision.Decision.{Decision as Given}
use Rattle.longest_path.specs.Decisions.{order_on, IsFree}
use Rattle.longest_path.proofs.LiveLaws.{one_side_more}
use Rattle.search_nodes.specs.Forcing.{HasNoForcing, AreThere, HasForced, IsForcedBy, given_to}
use Rattle.search_nodes.proofs.Sides.{some_or_none, not_both, has_side, none_of_free, decided_side, pair_there, mate_there}

-- what is listed as a pair's mate is one
pub row_mate : (g : Graph) (rows : List (List PairId)) (q k : ℕ) (r : PairId) → AreAllMates g rows → q < length g.pairs → slice_get (row_of rows q) k ≡ Some r → AreMates g q r.0
row_mate g rows q k r all lt at = (all.lists q lt).mates r (element_at (row_of rows q) k r at)

-- and each mate is listed
pub mate_row : (g : Graph) (rows : List (List PairId)) (q r : ℕ) → AreAllMates g rows → q < length g.pairs → AreMates g q r → (k : ℕ) × (k < length (row_of rows q)) × (slice_get (row_of rows q) k ≡ Some (record { 0 = r }))
mate_row g rows q r all lt m = place_of_element (row_of rows q) (record { 0 = r }) ((all.lists q lt).each (record { 0 = r }) m)

-- whether a pair has no side, as a number
abbrev pub without : Option Side → ℕ
without None = 1
without (Some side) = 0

-- how many of the first so many pairs have no side
abbrev pub missing : (ℕ → Option Side) → ℕ → ℕ
missing order zero = 0
missing order (suc n) = without (order n) + missing order n

-- with a side for one of them there is one less
missing_same : (order more : ℕ → Option Side) (p n : ℕ) → ((r : ℕ) → r ≢ p → more r ≡ order r) → n ≤ p → missing more n ≡ missing order n
missing_same order more p zero others le = refl
missing_same order more p (suc n) others le =
    let here = ap without (others n (λ e. absurd (omega (arith, e, le)))) in
    let rest = missing_same order more p n others (omega (arith, le)) in
    omega (arith, here, rest)

pub missing_fewer : (order more : ℕ → Option Side) (p n : ℕ) (side : Side) → ((r : ℕ) → r ≢ p → more r ≡ order r) → order p ≡ None → more p ≡ Some side → p < n → missing more n < missing order n
missing_fewer order more p zero side others none some lt = absurd (omega (arith, lt))
missing_fewer order more p (suc n) side others none some lt = go (cases_eq n p) (λ less. missing_fewer order more p n side others none some less)
  where
    go : (n ≡ p) ⊎ (n ≢ p) → (p < n → missing more n < missing order n) → missing more (suc n) < missing order (suc n)
    go (inl e) below =
        let old : without (order n) ≡ 1 = ap (λ (m : ℕ). without (order m)) e ∙ ap without none in
        let new : without (more n) ≡ 0 = ap (λ (m : ℕ). without (more m)) e ∙ ap without some in
        let rest = missing_same order more p n others (omega (arith, e)) in
        omega (arith, old, new, rest)
    go (inr ne) below =
        let here = ap without (others n ne) in
        let rest = below (omega (arith, lt, ne)) in
        omega (arith, here, rest)

-- a first pair that is not forced may go
pub not_forced : (g : Graph) (order : ℕ → Option Side) (k : ℕ) (ks : List ℕ) → ((r : ℕ) → AreMates g k r → order k ≡ None → order r ≡ None) → HasForced g order (k ∷ ks) → HasForced g order ks
not_forced g order k ks calm has q r m none some = go (in_cons k ks q (has q r m none some))
  where
    go : (k ≡ q) ⊎ Contains ks q → Contains ks q
    go (inr c) = c
    go (inl e) = absurd (not_both (order r) (calm r (subst (λ (n : ℕ). AreMates g n r) (sym e) m) (ap order e ∙ none)) some)

-- with no pair left there is none that is forced
pub none_forced : (g : Graph) (order : ℕ → Option Side) (ks : List ℕ) → (0 < length ks → ⊥) → HasForced g order ks → HasNoForcing g order
none_forced g order ks empty has q r m none = go (some_or_none (order r))
  where
    go : ((side : Side) × (order r ≡ Some side)) ⊎ (order r ≡ None) → order r ≡ None
    go (inr n) = n
    go (inl (side, s)) = absurd (empty (let c = has q r m none (has_side (order r) side s) in omega (arith, c.1)))

-- the first of the pairs, and those behind it
pub popped_there : (g : Graph) (old new : List ℕ) (k : ℕ) → old ≡ k ∷ new → AreThere g old → (k < length g.pairs) × AreThere g new
popped_there g old new k e there = (there k (subst (λ (l : List ℕ). Contains l k) (sym e) (head_in k new)), λ q h. there q (subst (λ (l : List ℕ). Contains l q) (sym e) (tail_in k new q h)))

module _ (g : Graph) (x : FleetState) (ds : List Given) (p : PairId) (side : Side) (free : IsFree g x ds p.0) where
  abbrev before : ℕ → Option Side
  before = order_on g x ds

  abbrev behind : ℕ → Option Side
  behind = order_on g x (given_to p side ∷ ds)

  pub others : (r : ℕ) → r ≢ p.0 → behind r ≡ before r
  others = (one_side_more g x ds p side free).others

  pub here : behind p.0 ≡ Some side
  here = decided_side g x ds (given_to p side) free.0

  pub decided_fewer : (n : ℕ) → p.0 < n → missing behind n < missing before n
  decided_fewer n lt = missing_fewer before behind p.0 n side others (none_of_free g x ds p.0 free) here lt

  -- after a decision the pairs that may be forced are those from before and the mates of its pair
  pub forced_next : (ks more : List ℕ) → HasForced g before (p.0 ∷ ks) → ((r : ℕ) → AreMates g p.0 r → behind r ≡ None → Contains more r) → ((r : ℕ) → Contains ks r → Contains more r) → HasForced g behind more
  forced_next ks more has mates stay q r m none some = go (cases_eq q p.0) (cases_eq r p.0)
    where
      kept : q ≢ p.0 → (p.0 ≡ q) ⊎ Contains ks q → Contains more q
      kept ne (inl e) = absurd (ne (sym e))
      kept ne (inr c) = stay q c

      go : (q ≡ p.0) ⊎ (q ≢ p.0) → (r ≡ p.0) ⊎ (r ≢ p.0) → Contains more q
      go (inl e) o = absurd (let a = ap behind e in let h = here in cc)
      go (inr ne) (inl e) = mates q (mates_turned g q p.0 (subst (λ (n : ℕ). AreMates g q n) e m)) none
      go (inr ne) (inr nr) = kept ne (in_cons p.0 ks q (has q r m (sym (others q ne) ∙ none) (subst (λ (o : Option Side). IsSome o) (others r nr) some)))

  -- where no pair was forced, a decision forces by its pair alone
  pub forced_by : HasNoForcing g before → IsForcedBy g behind p.0
  forced_by calm q r m none some = go (cases_eq q p.0) (cases_eq r p.0)
    where
      go : (q ≡ p.0) ⊎ (q ≢ p.0) → (r ≡ p.0) ⊎ (r ≢ p.0) → r ≡ p.0
      go (inl e) o = absurd (let a = ap behind e in let h = here in cc)
      go (inr ne) (inl e) = e
      go (inr ne) (inr nr) = absurd (not_both (behind r) (others r nr ∙ calm q r m (sym (others q ne) ∙ none)) some)

-- so these are its mates
pub forced_mates : (g : Graph) (order : ℕ → Option Side) (p : ℕ) (ks : List ℕ) → IsForcedBy g order p → ((r : ℕ) → AreMates g p r → order r ≡ None → Contains ks r) → HasForced g order ks
forced_mates g order p ks by mates q r m none some = mates q (mates_turned g q p (subst (λ (n : ℕ). AreMates g q n) (by q r m none some) m)) none

-- ---- a pair's mates, read one after another

module _ (g : Graph) (rows : List (List PairId)) (q : ℕ) (items : List PairId) (all : AreAllMates g rows) (lt : q < length g.pairs) (is : items ≡ row_of rows q) where
  -- each is one
  pub read_mate : (k : ℕ) → k < length items → AreMates g q (get_or items k (record { 0 = 0 })).0
  read_mate k less = row_mate g rows q k (get_or items k (record { 0 = 0 })) all lt (sym (ap (λ (l : List PairId). slice_get l k) is) ∙ slice_get-get_or items k (record { 0 = 0 }) less)

  -- what holds of each that was read holds of each mate at the end
  pub all_read : (P : ℕ → Type 0) → ((k : ℕ) (r : PairId) → k < length items → slice_get items k ≡ Some r → P r.0) → (r : ℕ) → AreMates g q r → P r
  all_read P each r m =
      let p = mate_row g rows q r all lt m in
      each p.0 (record { 0 = r }) (let e = ap length is in omega (arith, p.1, e)) (ap (λ (l : List PairId). slice_get l p.0) is ∙ p.2)

-- one more was read
pub read_more : (items : List PairId) (P : ℕ → Type 0) (n : ℕ) → ((k : ℕ) (r : PairId) → k < n → slice_get items k ≡ Some r → P r.0) → P (get_or items n (record { 0 = 0 })).0 → (k : ℕ) (r : PairId) → k < n + 1 → slice_get items k ≡ Some r → P r.0
read_more items P n each here k r less at = go (cases_eq k n)
  where
    go : (k ≡ n) ⊎ (k ≢ n) → P r.0
    go (inl e) = subst (λ (m : PairId). P m.0) (get_or_from_slice_get items n r (record { 0 = 0 }) (sym (ap (slice_get items) e) ∙ at)) here
    go (inr ne) = each k r (omega (arith, less, ne)) at

-- the first of some mates are among the pairs, and so are those from before, and no others
pub record AreSuspected (mates : List PairId) (n : ℕ) (old new : List ℕ) : Type 0 where
  pub stay : (q : ℕ) → Contains old q → Contains new q
  pub only : (q : ℕ) → Contains new q → Contains mates (record { 0 = q }) ⊎ Contains old q
  pub each : (k : ℕ) (r : PairId) → k < n → slice_get mates k ≡ Some r → Contains new r.0

pub none_suspected : (mates : List PairId) (old : List ℕ) → AreSuspected mates 0 old old
none_suspected mates old = record { stay = λ q c. c; only = λ q c. inr c; each = λ k r h. absurd (omega (arith, h)) }

pub only_suspected : (mates : List PairId) (n : ℕ) (old mid new : List ℕ) → n < length mates → AreSuspected mates n old mid → ((q : ℕ) → Contains new q → ((get_or mates n (record { 0 = 0 })).0 ≡ q) ⊎ Contains mid q)
    → (q : ℕ) → Contains new q → Contains mates (record { 0 = q }) ⊎ Contains old q
only_suspected mates n old mid new lt s only q h = go (only q h)
  where
    go : ((get_or mates n (record { 0 = 0 })).0 ≡ q) ⊎ Contains mid q → Contains mates (record { 0 = q }) ⊎ Contains old q
    go (inr c) = s.only q c
    go (inl e) = inl (element_at mates n (record { 0 = q }) (slice_get-get_or mates n (record { 0 = 0 }) lt ∙ ap (λ (m : ℕ). let p : PairId = record { 0 = m } in Some p) e))

pub more_suspected : (mates : List PairId) (n : ℕ) (old mid new : List ℕ) → n < length mates → AreSuspected mates n old mid → Contains new (get_or mates n (record { 0 = 0 })).0 → ((q : ℕ) → Contains mid q → Contains new q)
    → ((q : ℕ) → Contains new q → ((get_or mates n (record { 0 = 0 })).0 ≡ q) ⊎ Contains mid q) → AreSuspected mates (n + 1) old new
more_suspected mates n old mid new lt s here stay only = record {
  stay = λ q c. stay q (s.stay q c);
  only = only_suspected mates n old mid new lt s only;
  each = read_more mates (λ r. Contains new r) n (λ k r h at. stay r.0 (s.each k r h at)) here;
}

pub all_suspected : (mates : List PairId) (n : ℕ) (old new : List ℕ) → length mates ≤ n → AreSuspected mates n old new → (r : PairId) → Contains mates r → Contains new r.0
all_suspected mates n old new all s r c = let p = place_of_element mates r c in s.each p.0 r (omega (arith, p.1, all)) p.2

-- each of the first pairs that a mate forces is among these
pub record AreForcedTo (g : Graph) (order : ℕ → Option Side) (n : ℕ) (pairs : List ℕ) : Type 0 where
  pub there : AreThere g pairs
  pub each : (q r : ℕ) → q < n → AreMates g q r → order q ≡ None → IsSome (order r) → Contains pairs q

pub none_forced_to : (g : Graph) (order : ℕ → Option Side) (pairs : List ℕ) → pairs ≡ [] → AreForcedTo g order 0 pairs
none_forced_to g order pairs e = record { there = λ q c. absurd (in_none q (subst (λ (l : List ℕ). Contains l q) e c)); each = λ q r h. absurd (omega (arith, h)) }

pub more_forced_to : (g : Graph) (order : ℕ → Option Side) (n : ℕ) (old new : List ℕ) → n < length g.pairs → AreForcedTo g order n old → ((r : ℕ) → AreMates g n r → order n ≡ None → IsSome (order r) → Contains new n) → ((q : ℕ) → Contains old q → Contains new q)
    → ((q : ℕ) → Contains new q → (n ≡ q) ⊎ Contains old q) → AreForcedTo g order (n + 1) new
more_forced_to g order n old new lt f here stay only = record { there = λ q c. go q (only q c); each = λ q r h m none some. each q r h m none some (cases_eq q n) }
  where
    go : (q : ℕ) → (n ≡ q) ⊎ Contains old q → q < length g.pairs
    go q (inl e) = omega (arith, lt, e)
    go q (inr c) = f.there q c

    each : (q r : ℕ) → q < n + 1 → AreMates g q r → order q ≡ None → IsSome (order r) → (q ≡ n) ⊎ (q ≢ n) → Contains new q
    each q r h m none some (inr ne) = stay q (f.each q r (omega (arith, h, ne)) m none some)
    each q r h m none some (inl e) = subst (λ (k : ℕ). Contains new k) (sym e) (here r (subst (λ (k : ℕ). AreMates g k r) e m) (ap order (sym e) ∙ none) some)

pub all_forced_to : (g : Graph) (order : ℕ → Option Side) (n : ℕ) (pairs : List ℕ) → length g.pairs ≤ n → AreForcedTo g order n pairs → HasForced g order pairs
all_forced_to g order n pairs all f q r m none some = f.each q r (let lt = pair_there g q r m in omega (arith, lt, all)) m none some

-- what a pair's mates add
module _ (g : Graph) (rows : List (List PairId)) (p : ℕ) (old new : List ℕ) (all : AreAllMates g rows) (lt : p < length g.pairs) where
  pub mates_suspected : ((r : PairId) → Contains (row_of rows p) r → Contains new r.0) → (r : ℕ) → AreMates g p r → Contains new r
  mates_suspected has r m = has (record { 0 = r }) ((all.lists p lt).each (record { 0 = r }) m)

  pub there_suspected : AreThere g old → ((q : ℕ) → Contains new q → Contains (row_of rows p) (record { 0 = q }) ⊎ Contains old q) → AreThere g new
  there_suspected there only q h = go (only q h)
    where
      go : Contains (row_of rows p) (record { 0 = q }) ⊎ Contains old q → q < length g.pairs
      go (inl c) = mate_there g p q ((all.lists p lt).mates (record { 0 = q }) c)
      go (inr c) = there q c
