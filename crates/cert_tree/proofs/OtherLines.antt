-- Lines that begin as one of the certificate and go on as none.
use Rattle.std.proofs.Common.{ℕ, ◌≡◌, ◌^◌, ◌<◌, List, [], ◌++◌, refl, sym, ap, ◌∙◌, arith, length, drop}
use Rattle.std.specs.Prelude.{codes, slice_index}
use Rattle.std.proofs.lemmas.List.{append-nil}
use Rattle.fleet_base.specs.declared.order.PairId.{PairId}
use Rattle.fleet_base.specs.declared.order.Side.{Side}
use Rattle.fleet_base.specs.declared.order.Side.TheVariants.{Lower, Higher}
use Rattle.fleet_base.specs.Bytes.{field}
use Rattle.cert_tree.specs.declared.line.Line.{Line}
use Rattle.cert_tree.specs.declared.fault.LineFault.{LineFault}
use Rattle.cert_tree.specs.declared.fault.LineFault.TheVariants as line_fault
use Rattle.cert_tree.specs.CertText.{side_word, pair_fields}
use Rattle.cert_tree.specs.Reading.{BeginsField, IsLine, ArePairFields, TakesNumber, IfMalformed}
use Rattle.cert_tree.proofs.FieldLaws.{taken_once}
use Rattle.cert_tree.proofs.LineKinds.{branch_said, force_said, path_said, open_said}

-- what follows from a malformed line
pub malformed_weaker : {P Q : Type 0} (fault : LineFault) → (P → Q) → IfMalformed fault P → IfMalformed fault Q
malformed_weaker line_fault.Malformed f h = f h
malformed_weaker line_fault.Memory f h = tt

wider : (text rest : List ℕ) (n : ℕ) → TakesNumber (2 ^ 32) text n rest → TakesNumber (2 ^ 64) text n rest
wider text rest n (parts, fits, begins) = (parts, omega (arith, fits), begins)

last_taken : (limit n : ℕ) (text : List ℕ) → text ≡ field n → n < limit → TakesNumber limit text n []
last_taken limit n text is fits = (is ∙ sym (append-nil (field n)), fits, tt)

pub no_branch : (text : List ℕ) → ((n : ℕ) (rest : List ℕ) → TakesNumber (2 ^ 32) text n rest → ⊥) → (line : Line) → IsLine (codes "cert branch" ++ text) line → ⊥
no_branch text none line h = let r = branch_said text line h in none r.0.0 [] (last_taken (2 ^ 32) r.0.0 text r.1 r.2)

pub no_branch_end : (text rest : List ℕ) (n : ℕ) → TakesNumber (2 ^ 32) text n rest → 0 < length rest → (line : Line) → IsLine (codes "cert branch" ++ text) line → ⊥
no_branch_end text rest n takes some line h =
    let r = branch_said text line h in
    omega (arith, some, ap length (taken_once (2 ^ 32) text rest [] n r.0.0 (omega arith) (wider text rest n takes) (last_taken (2 ^ 32) r.0.0 text r.1 r.2)).1)

pub no_open : (text : List ℕ) → ((n : ℕ) (rest : List ℕ) → TakesNumber (2 ^ 64) text n rest → ⊥) → (line : Line) → IsLine (codes "cert open" ++ text) line → ⊥
no_open text none line h = let r = open_said text line h in none r.0 [] (last_taken (2 ^ 64) r.0 text r.1 r.2)

pub no_open_end : (text rest : List ℕ) (n : ℕ) → TakesNumber (2 ^ 64) text n rest → 0 < length rest → (line : Line) → IsLine (codes "cert open" ++ text) line → ⊥
no_open_end text rest n takes some line h =
    let r = open_said text line h in
    omega (arith, some, ap length (taken_once (2 ^ 64) text rest [] n r.0 (omega arith) takes (last_taken (2 ^ 64) r.0 text r.1 r.2)).1)

pub word_begins : (s : Side) (xs : List ℕ) → BeginsField (side_word s ++ xs)
word_begins Lower xs = refl
word_begins Higher xs = refl

-- a side's word determines it and what follows
pub same_side : (s t : Side) (xs ys : List ℕ) → side_word s ++ xs ≡ side_word t ++ ys → (s ≡ t) × (xs ≡ ys)
same_side Lower Lower xs ys e = (refl, ap (drop 6) e)
same_side Higher Higher xs ys e = (refl, ap (drop 7) e)
same_side Lower Higher xs ys e = absurd (let h : 108 ≡ 104 = ap (λ (l : List ℕ). slice_index l 1) e in omega (arith, h))
same_side Higher Lower xs ys e = absurd (let h : 104 ≡ 108 = ap (λ (l : List ℕ). slice_index l 1) e in omega (arith, h))

pub no_side : (text rest : List ℕ) (n : ℕ) → TakesNumber (2 ^ 32) text n rest → ((side : Side) (after : List ℕ) → rest ≡ side_word side ++ after → ⊥) → (line : Line) → IsLine (codes "cert force" ++ text) line → ⊥
no_side text rest n takes none line h =
    let (q, side, cycle, is, fits, numbers, two) = force_said text line h in
    none side (pair_fields cycle) (taken_once (2 ^ 32) text rest (side_word side ++ pair_fields cycle) n q.0 (omega arith) (wider text rest n takes) (is, fits, word_begins side (pair_fields cycle))).1

pub no_cycle : (text rest after : List ℕ) (n : ℕ) (s : Side) → TakesNumber (2 ^ 32) text n rest → rest ≡ side_word s ++ after → ((cycle : List PairId) → ArePairFields 2 after cycle → ⊥) → (line : Line) → IsLine (codes "cert force" ++ text) line → ⊥
no_cycle text rest after n s takes word none line h =
    let (q, side, cycle, is, fits, numbers, two) = force_said text line h in
    let behind = (taken_once (2 ^ 32) text rest (side_word side ++ pair_fields cycle) n q.0 (omega arith) (wider text rest n takes) (is, fits, word_begins side (pair_fields cycle))).1 in
    none cycle ((same_side s side after (pair_fields cycle) (sym word ∙ behind)).1, numbers, two)

pub no_path_pairs : (text rest : List ℕ) (n : ℕ) → TakesNumber (2 ^ 32) text n rest → ((pairs : List PairId) → ArePairFields 1 rest pairs → ⊥) → (line : Line) → IsLine (codes "cert path" ++ text) line → ⊥
no_path_pairs text rest n takes none line h =
    let (p, is, fits, numbers, one) = path_said text line h in
    none p.pairs ((taken_once (2 ^ 32) text rest (pair_fields p.pairs) n p.robot (omega arith) (wider text rest n takes) (is, fits, refl)).1, numbers, one)
