-- The pairs of a line, read one by one.
use Rattle.std.proofs.Common.{ℕ, ◌≡◌, ◌^◌, ◌<◌, ◌≤◌, List, [], ◌∷◌, ◌++◌, refl, sym, ap, ◌∙◌, subst, arith, length, append_assoc}
use Rattle.std.specs.Prelude.{All}
use Rattle.std.proofs.lemmas.Grind.{flat_map-append}
use Rattle.std.proofs.lemmas.List.{append-nil}
use Rattle.std.proofs.lemmas.List.Elements.{All-tail, All-push}
use Rattle.fleet_base.specs.declared.order.PairId.{PairId}
use Rattle.fleet_base.specs.Bytes.{field}
use Rattle.cert_tree.specs.CertText.{pair_numbers}
use Rattle.cert_tree.specs.Reading.{BeginsField, TakesNumber, ArePairFields}
use Rattle.cert_tree.proofs.FieldLaws.{field_split, small}

abbrev pub IsSmall : PairId → Type 0
IsSmall q = q.0 < 2 ^ 32

pub all_head : {X : Type 0} (P : X → Type 0) (x : X) (xs : List X) → All P (x ∷ xs) → P x
all_head P x xs all = all 0 x (omega arith)

pub numbers_begin : (ps : List PairId) → BeginsField (pair_numbers ps)
numbers_begin [] = tt
numbers_begin (p ∷ ps) = refl

-- a text has been read up to a rest: how many pairs it says that there are, and some of them
pub record HasRead (text : List ℕ) (count : ℕ) (pairs : List PairId) (rest : List ℕ) : Type 0 where
  pub parts : text ≡ field count ++ (pair_numbers pairs ++ rest)
  pub fits : count < 2 ^ 64
  pub small : All IsSmall pairs
  pub begins : BeginsField rest

pub read_more : (text rest after : List ℕ) (count n : ℕ) (pairs : List PairId) → HasRead text count pairs rest → TakesNumber (2 ^ 32) rest n after → HasRead text count (pairs ++ (record { 0 = n }) ∷ []) after
read_more text rest after count n pairs read takes =
    let q : PairId = record { 0 = n } in
    let numbers : pair_numbers (pairs ++ q ∷ []) ≡ pair_numbers pairs ++ field n = flat_map-append (λ (p : PairId). field p.0) pairs (q ∷ []) ∙ ap (λ l. pair_numbers pairs ++ l) (append-nil (field n)) in
    record {
      parts = read.parts ∙ ap (λ l. field count ++ (pair_numbers pairs ++ l)) takes.0 ∙ ap (λ l. field count ++ l) (sym (append_assoc (pair_numbers pairs) (field n) after) ∙ ap (λ l. l ++ after) (sym numbers));
      fits = read.fits;
      small = All-push IsSmall pairs q read.small takes.1;
      begins = takes.2;
    }

-- pairs whose numbers begin with these are these and more
front : (ps qs : List PairId) (rest : List ℕ) → All IsSmall ps → All IsSmall qs → BeginsField rest → pair_numbers qs ≡ pair_numbers ps ++ rest → (more : List PairId) × (qs ≡ ps ++ more) × (rest ≡ pair_numbers more) × All IsSmall more
front [] qs rest hp hq begins e = (qs, refl, sym e, hq)
front (p ∷ ps) [] rest hp hq begins e = cc
front (p ∷ ps) (q ∷ qs) rest hp hq begins e =
    let f = field_split q.0 p.0 (pair_numbers qs) (pair_numbers ps ++ rest) (small q.0 (all_head IsSmall q qs hq)) (small p.0 (all_head IsSmall p ps hp)) (numbers_begin qs) (behind ps) (e ∙ append_assoc (field p.0) (pair_numbers ps) rest) in
    let r = front ps qs rest (All-tail IsSmall p ps hp) (All-tail IsSmall q qs hq) begins f.1 in
    let n = f.0 in
    let s : q ≡ p = (λ j. record { 0 = n j }) in
    let t = r.1 in
    (r.0, (let u : q ∷ qs ≡ p ∷ (ps ++ r.0) = cc in u), r.2, r.3)
  where
    behind : (ps : List PairId) → BeginsField (pair_numbers ps ++ rest)
    behind [] = begins
    behind (p ∷ ps) = refl

-- the pairs of the whole text are those that have been read, and those of the rest
pub read_of : (least : ℕ) (text rest : List ℕ) (count : ℕ) (pairs qs : List PairId) → HasRead text count pairs rest → ArePairFields least text qs → (count ≡ length qs) × ((more : List PairId) × (qs ≡ pairs ++ more) × (rest ≡ pair_numbers more) × All IsSmall more)
read_of least text rest count pairs qs read are =
    let f = field_split count (length qs) (pair_numbers pairs ++ rest) (pair_numbers qs) read.fits are.1.0 (behind pairs) (numbers_begin qs) (sym read.parts ∙ are.0) in
    (f.0, front pairs qs rest read.small are.1.1 read.begins (sym f.1))
  where
    behind : (ps : List PairId) → BeginsField (pair_numbers ps ++ rest)
    behind [] = read.begins
    behind (p ∷ ps) = refl

-- a text without a count has no pairs
pub no_count : (least : ℕ) (text : List ℕ) → ((n : ℕ) (rest : List ℕ) → TakesNumber (2 ^ 64) text n rest → ⊥) → (qs : List PairId) → ArePairFields least text qs → ⊥
no_count least text none qs are = none (length qs) (pair_numbers qs) (are.0, are.1.0, numbers_begin qs)

-- a rest that is neither empty nor a number
pub no_pair : (least : ℕ) (text rest : List ℕ) (count : ℕ) (pairs : List PairId) → HasRead text count pairs rest → 0 < length rest → ((n : ℕ) (after : List ℕ) → TakesNumber (2 ^ 32) rest n after → ⊥) → (qs : List PairId) → ArePairFields least text qs → ⊥
no_pair least text rest count pairs read some none qs are =
    let r = read_of least text rest count pairs qs read are in
    go r.1.0 r.1.2 r.1.3
  where
    go : (more : List PairId) → rest ≡ pair_numbers more → All IsSmall more → ⊥
    go [] e all = omega (arith, some, ap length e)
    go (q ∷ more) e all = none q.0 (pair_numbers more) (e, all_head IsSmall q more all, numbers_begin more)

-- where all is read, the pairs are those that have been read
pub all_read : (least : ℕ) (text : List ℕ) (count : ℕ) (pairs qs : List PairId) → HasRead text count pairs [] → ArePairFields least text qs → (length pairs ≡ count) × (least ≤ length pairs)
all_read least text count pairs qs read are =
    let r = read_of least text [] count pairs qs read are in
    let same : qs ≡ pairs = r.1.1 ∙ ap (λ l. pairs ++ l) (none r.1.0 r.1.2) ∙ append-nil pairs in
    (ap length (sym same) ∙ sym r.0, subst (λ l. least ≤ length l) same are.2)
  where
    none : (more : List PairId) → [] ≡ pair_numbers more → more ≡ []
    none [] e = refl
    none (q ∷ more) e = cc

-- where the count is another one, or the pairs are too few, the text has no pairs
pub not_all_read : (least : ℕ) (text rest : List ℕ) (count : ℕ) (pairs : List PairId) → HasRead text count pairs rest → length rest ≡ 0 → ((length pairs ≡ count) × (least ≤ length pairs) → ⊥) → (qs : List PairId) → ArePairFields least text qs → ⊥
not_all_read least text [] count pairs read none other qs are = other (all_read least text count pairs qs read are)
not_all_read least text (c ∷ rest) count pairs read none other qs are = omega (arith, none)
