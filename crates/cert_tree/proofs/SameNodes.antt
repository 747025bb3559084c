-- The lines of a certificate determine its nodes.
use Rattle.std.proofs.Common.{ℕ, suc, ◌≡◌, ◌^◌, ◌<◌, List, [], ◌∷◌, ◌++◌, refl, sym, ap, ◌∙◌, arith, length, append_assoc, drop}
use Rattle.std.specs.Prelude.{All, map}
use Rattle.std.proofs.lemmas.List.Elements.{All-tail}
use Rattle.std.proofs.lemmas.Fmt.{decimal_injective}
use Rattle.fleet_base.specs.declared.order.PairId.{PairId}
use Rattle.fleet_base.specs.declared.order.Side.{Side}
use Rattle.fleet_base.specs.Lists.{row_of}
use Rattle.fleet_base.specs.Bytes.{field}
use Rattle.cert_tree.specs.declared.node.CertPath.{CertPath}
use Rattle.cert_tree.specs.declared.node.Node.{Node}
use Rattle.cert_tree.specs.declared.node.Node.TheVariants.{Branch, Force, Cyclic, Bound, OpenLeaf}
use Rattle.cert_tree.specs.CertText.{cert_lines, node_lines, path_line, pair_fields, pair_numbers, side_word, AreCertLines, HasNumbers, HavePairNumbers}
use Rattle.cert_tree.proofs.FieldLaws.{field_split, small}
use Rattle.cert_tree.proofs.PairFields.{all_head, numbers_begin}
use Rattle.cert_tree.proofs.LineKinds.{kind, kind_of, kind_is}
use Rattle.cert_tree.proofs.OtherLines.{same_side, word_begins}

same_numbers : (ps qs : List PairId) → All (λ (q : PairId). q.0 < 2 ^ 32) ps → All (λ (q : PairId). q.0 < 2 ^ 32) qs → pair_numbers ps ≡ pair_numbers qs → ps ≡ qs
same_numbers [] [] a b e = refl
same_numbers [] (q ∷ qs) a b e = cc
same_numbers (p ∷ ps) [] a b e = cc
same_numbers (p ∷ ps) (q ∷ qs) a b e =
    let r = field_split p.0 q.0 (pair_numbers ps) (pair_numbers qs) (small p.0 (all_head (λ (q : PairId). q.0 < 2 ^ 32) p ps a)) (small q.0 (all_head (λ (q : PairId). q.0 < 2 ^ 32) q qs b)) (numbers_begin ps) (numbers_begin qs) e in
    let t = same_numbers ps qs (All-tail (λ (q : PairId). q.0 < 2 ^ 32) p ps a) (All-tail (λ (q : PairId). q.0 < 2 ^ 32) q qs b) r.1 in
    let n = r.0 in
    let s : p ≡ q = (λ j. record { 0 = n j }) in
    cc

same_pairs : (ps qs : List PairId) → HavePairNumbers ps → HavePairNumbers qs → pair_fields ps ≡ pair_fields qs → ps ≡ qs
same_pairs ps qs a b e = same_numbers ps qs a.1 b.1 (field_split (length ps) (length qs) (pair_numbers ps) (pair_numbers qs) a.0 b.0 (numbers_begin ps) (numbers_begin qs) e).1

-- ---- lines

pub same_path : (p r : CertPath) → (p.robot < 2 ^ 32) × HavePairNumbers p.pairs → (r.robot < 2 ^ 32) × HavePairNumbers r.pairs → path_line p ≡ path_line r → p ≡ r
same_path p r a b e =
    let f = field_split p.robot r.robot (pair_fields p.pairs) (pair_fields r.pairs) (small p.robot a.0) (small r.robot b.0) refl refl (ap (drop 9) e) in
    let n = f.0 in
    let m = same_pairs p.pairs r.pairs a.1 b.1 f.1 in
    λ j. record { robot = n j; pairs = m j }

-- no node begins with the line of a path
pub no_path : (p : CertPath) (rest : List (List ℕ)) (nodes : List Node) → path_line p ∷ rest ≡ cert_lines nodes → ⊥
no_path p rest [] e = let h : suc (length rest) ≡ 0 = ap length e in omega (arith, h)
no_path p rest (node ∷ nodes) e = let h : 28769 ≡ kind_of node = ap (λ (lines : List (List ℕ)). kind (row_of lines 0)) e ∙ kind_is node (cert_lines nodes) in go node h
  where
    go : (node : Node) → 28769 ≡ kind_of node → ⊥
    go (Branch q) h = omega (arith, h)
    go (Force q side cycle) h = omega (arith, h)
    go (Cyclic cycle) h = omega (arith, h)
    go (Bound paths) h = omega (arith, h)
    go (OpenLeaf least) h = omega (arith, h)

abbrev pub Fine : CertPath → Type 0
Fine p = (p.robot < 2 ^ 32) × HavePairNumbers p.pairs

same_paths : (ps rs : List CertPath) (a b : List Node) → All Fine ps → All Fine rs → map path_line ps ++ cert_lines a ≡ map path_line rs ++ cert_lines b → (ps ≡ rs) × (cert_lines a ≡ cert_lines b)
same_paths [] [] a b f h e = (refl, e)
same_paths [] (r ∷ rs) a b f h e = absurd (no_path r (map path_line rs ++ cert_lines b) a (sym e))
same_paths (p ∷ ps) [] a b f h e = absurd (no_path p (map path_line ps ++ cert_lines a) b e)
same_paths (p ∷ ps) (r ∷ rs) a b f h e =
    let s = same_path p r (all_head Fine p ps f) (all_head Fine r rs h) (ap (λ (lines : List (List ℕ)). row_of lines 0) e) in
    let t = same_paths ps rs a b (All-tail Fine p ps f) (All-tail Fine r rs h) (ap (drop 1) e) in
    (let u = t.0 in let v : p ∷ ps ≡ r ∷ rs = cc in v, t.1)

same_force : (q r : PairId) (s t : Side) (ps rs : List PairId) → q.0 < 2 ^ 32 → r.0 < 2 ^ 32 → HavePairNumbers ps → HavePairNumbers rs
    → field q.0 ++ (side_word s ++ pair_fields ps) ≡ field r.0 ++ (side_word t ++ pair_fields rs) → Force q s ps ≡ Force r t rs
same_force q r s t ps rs hq hr hp hs e =
    let f = field_split q.0 r.0 (side_word s ++ pair_fields ps) (side_word t ++ pair_fields rs) (small q.0 hq) (small r.0 hr) (word_begins s (pair_fields ps)) (word_begins t (pair_fields rs)) e in
    let g = same_side s t (pair_fields ps) (pair_fields rs) f.1 in
    let m = same_pairs ps rs hp hs g.1 in
    let n = f.0 in
    let o = g.0 in
    let p : q ≡ r = (λ j. record { 0 = n j }) in
    cc

one_field : (m n : ℕ) → m < 2 ^ 64 → n < 2 ^ 64 → field m ≡ field n → m ≡ n
one_field m n hm hn e = decimal_injective m n hm hn (ap (drop 1) e)

abbrev head_line : List (List ℕ) → List ℕ
head_line lines = row_of lines 0

-- the lines determine the nodes
pub same_nodes : (a b : List Node) → All HasNumbers a → All HasNumbers b → cert_lines a ≡ cert_lines b → a ≡ b
same_nodes [] [] ha hb e = refl
same_nodes [] (n ∷ ns) ha hb e = absurd (none n (ap length e))
  where
    none : (n : Node) → 0 ≡ length (node_lines n ++ cert_lines ns) → ⊥
    none (Branch q) h = omega (arith, h)
    none (Force q side cycle) h = omega (arith, h)
    none (Cyclic cycle) h = omega (arith, h)
    none (Bound paths) h = omega (arith, h)
    none (OpenLeaf least) h = omega (arith, h)
same_nodes (n ∷ ns) [] ha hb e = absurd (none n (ap length e))
  where
    none : (n : Node) → length (node_lines n ++ cert_lines ns) ≡ 0 → ⊥
    none (Branch q) h = omega (arith, h)
    none (Force q side cycle) h = omega (arith, h)
    none (Cyclic cycle) h = omega (arith, h)
    none (Bound paths) h = omega (arith, h)
    none (OpenLeaf least) h = omega (arith, h)
same_nodes (n ∷ ns) (m ∷ ms) ha hb e =
    go n m (all_head HasNumbers n ns ha) (all_head HasNumbers m ms hb) e (sym (kind_is n (cert_lines ns)) ∙ ap (λ (lines : List (List ℕ)). kind (row_of lines 0)) e ∙ kind_is m (cert_lines ms)) (λ t. same_nodes ns ms (All-tail HasNumbers n ns ha) (All-tail HasNumbers m ms hb) t)
  where
    both : (n m : Node) → n ≡ m → ns ≡ ms → n ∷ ns ≡ m ∷ ms
    both n m s t = cc

    go : (n m : Node) → HasNumbers n → HasNumbers m → node_lines n ++ cert_lines ns ≡ node_lines m ++ cert_lines ms → kind_of n ≡ kind_of m → (cert_lines ns ≡ cert_lines ms → ns ≡ ms) → n ∷ ns ≡ m ∷ ms
    go (Branch q) (Branch r) a b e k rest =
        let f = one_field q.0 r.0 (small q.0 a) (small r.0 b) (ap (λ (l : List (List ℕ)). drop 11 (head_line l)) e) in
        both (Branch q) (Branch r) (λ j. Branch (record { 0 = f j })) (rest (ap (drop 1) e))
    go (Force q s ps) (Force r t rs) a b e k rest =
        let l = ap (λ (l : List (List ℕ)). drop 10 (head_line l)) e in
        let f = same_force q r s t ps rs a.0 b.0 a.1 b.1 (sym (append_assoc (field q.0) (side_word s) (pair_fields ps)) ∙ l ∙ append_assoc (field r.0) (side_word t) (pair_fields rs)) in
        both (Force q s ps) (Force r t rs) f (rest (ap (drop 1) e))
    go (Cyclic ps) (Cyclic rs) a b e k rest =
        let f = same_pairs ps rs a b (ap (λ (l : List (List ℕ)). drop 11 (head_line l)) e) in
        both (Cyclic ps) (Cyclic rs) (ap Cyclic f) (rest (ap (drop 1) e))
    go (Bound ps) (Bound rs) a b e k rest =
        let f = same_paths ps rs ns ms a b (ap (drop 1) e) in
        both (Bound ps) (Bound rs) (ap Bound f.0) (rest f.1)
    go (OpenLeaf v) (OpenLeaf w) a b e k rest =
        let f = one_field v w a b (ap (λ (l : List (List ℕ)). drop 9 (head_line l)) e) in
        both (OpenLeaf v) (OpenLeaf w) (ap OpenLeaf f) (rest (ap (drop 1) e))
    go n m a b e k rest = absurd (omega (arith, k))

-- a text is that of one certificate at most
pub one_certificate : (lines : List (List ℕ)) (a b : List Node) → AreCertLines lines a → AreCertLines lines b → a ≡ b
one_certificate lines a b x y = same_nodes a b x.numbers y.numbers (sym x.is ∙ y.is)
