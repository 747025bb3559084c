-- The line at which a text leaves the grammar.
use Rattle.std.proofs.Common.{ℕ, zero, suc, ◌≡◌, ◌≢◌, ◌⊎◌, ◌+◌, ◌-◌, ◌<◌, ◌≤◌, List, [], ◌∷◌, ◌++◌, Err, inl, inr, refl, sym, ap, ◌∙◌, subst, arith, length, take, drop, append_assoc, length-append}
use Rattle.std.specs.Prelude.{All, map}
use Rattle.std.proofs.lemmas.Bool.{cases_lt}
use Rattle.std.proofs.lemmas.List.{append-nil, take_all, take-append-drop, take-append-le, nil_from_length}
use Rattle.std.proofs.lemmas.List.Elements.{All-push}
use Rattle.fleet_base.specs.Lists.{row_of}
use Rattle.fleet_base.specs.Bytes.{whole_lines, pieces_of, all_but_last, without_cr, last_piece}
use Rattle.cert_tree.specs.declared.node.CertPath.{CertPath}
use Rattle.cert_tree.specs.declared.node.Node.{Node}
use Rattle.cert_tree.specs.declared.node.Node.TheVariants.{Branch, Force, Cyclic, Bound, OpenLeaf}
use Rattle.cert_tree.specs.declared.line.Line.{Line}
use Rattle.cert_tree.specs.declared.line.Line.TheVariants as said
use Rattle.cert_tree.specs.declared.fault.LineFault.{LineFault}
use Rattle.cert_tree.specs.declared.fault.LineFault.TheVariants as line_fault
use Rattle.cert_tree.specs.CertText.{cert_lines, node_lines, AreCertLines, IsCertText, IsWritten, HasNumbers}
use Rattle.cert_tree.specs.CertFaults.{IsFaultLine, CertFaultIs, ReadsAs}
use Rattle.cert_tree.specs.Reading.{IsLine, AddsPath, HasNextRobot, IfMalformed, fault_at}
use Rattle.cert_tree.proofs.SameNodes.{same_nodes, same_path, Fine}
use Rattle.cert_tree.proofs.LineKinds.{kind, kind_of, kind_is}
use Rattle.cert_tree.proofs.LastLine.{Ends, ends, empty, last, Ending, ending, begins, goes_on, lines_more, lines_more_path, bound_more, all_front, all_last}

-- ---- what one more line does

-- the nodes with a node that a line begins
pub node_added : (nodes : List Node) (line : List ℕ) (n : Node) → AreCertLines (cert_lines nodes) nodes → IsLine line (said.Node n) → AreCertLines (cert_lines nodes ++ line ∷ []) (nodes ++ n ∷ [])
node_added nodes line n are is = record {
  is = ap (λ l. cert_lines nodes ++ l) (sym is.0) ∙ sym (lines_more nodes n);
  written = All-push IsWritten nodes n are.written is.1;
  numbers = All-push HasNumbers nodes n are.numbers is.2;
}

-- the nodes with a path of the last one
pub path_added : (nodes more : List Node) (line : List ℕ) (p : CertPath) → AreCertLines (cert_lines nodes) nodes → IsLine line (said.Path p) → AddsPath nodes p more → AreCertLines (cert_lines nodes ++ line ∷ []) more
path_added nodes more line p are is adds =
    let before = adds.before in
    let paths = adds.paths in
    let written = subst (All IsWritten) adds.had are.written in
    let numbers = subst (All HasNumbers) adds.had are.numbers in
    record {
      is = ap (λ ns. cert_lines ns ++ line ∷ []) adds.had ∙ ap (λ l. cert_lines (before ++ Bound paths ∷ []) ++ l ∷ []) is.0 ∙ sym (lines_more_path before paths p) ∙ ap cert_lines (sym adds.has);
      written = subst (All IsWritten) (sym adds.has) (All-push IsWritten before (Bound (paths ++ p ∷ [])) (all_front IsWritten before (Bound paths ∷ []) written) (bound_more paths p (all_last IsWritten before (Bound paths) written) is.1.0 adds.later));
      numbers = subst (All HasNumbers) (sym adds.has) (All-push HasNumbers before (Bound (paths ++ p ∷ [])) (all_front HasNumbers before (Bound paths ∷ []) numbers) (All-push Fine paths p (all_last HasNumbers before (Bound paths) numbers) (is.1.1, is.1.2)));
    }

-- a line that says nothing
pub nothing_added : (nodes : List Node) (line : List ℕ) → ((says : Line) → IsLine line says → ⊥) → (more : List Node) → AreCertLines (cert_lines nodes ++ line ∷ []) more → ⊥
nothing_added nodes line none more are = go (ending (cert_lines nodes) line more are)
  where
    go : Ending (cert_lines nodes) line more → ⊥
    go (begins before n e front is) = none (said.Node n) is
    go (goes_on before paths p e front is next) = none (said.Path p) is

-- a path that the last node does not take
pub path_not_added : (nodes : List Node) (line : List ℕ) (p : CertPath) → AreCertLines (cert_lines nodes) nodes → IsLine line (said.Path p) → ((more : List Node) → AddsPath nodes p more → ⊥) → (more : List Node) → AreCertLines (cert_lines nodes ++ line ∷ []) more → ⊥
path_not_added nodes line p are is none more lines = go (ending (cert_lines nodes) line more lines)
  where
    none_begins : (n : Node) → 28769 ≡ kind_of n → ⊥
    none_begins (Branch q) h = omega (arith, h)
    none_begins (Force q side cycle) h = omega (arith, h)
    none_begins (Cyclic cycle) h = omega (arith, h)
    none_begins (Bound paths) h = omega (arith, h)
    none_begins (OpenLeaf least) h = omega (arith, h)

    go : Ending (cert_lines nodes) line more → ⊥
    go (begins before n e front opens) =
        none_begins n (let h : 28769 ≡ kind_of n = ap kind (sym is.0) ∙ ap (λ (l : List (List ℕ)). kind (row_of l 0)) (sym opens.0) ∙ ap (λ (l : List (List ℕ)). kind (row_of l 0)) (sym (append-nil (node_lines n))) ∙ kind_is n [] in h)
    go (goes_on before paths r e front says next) =
        let same : p ≡ r = same_path p r (is.1.1, is.1.2) (says.1.1, says.1.2) (sym is.0 ∙ says.0) in
        none (before ++ Bound (paths ++ p ∷ []) ∷ []) (record {
          before = before;
          paths = paths;
          had = same_nodes nodes (before ++ Bound paths ∷ []) are.numbers front.numbers front.is;
          later = subst (λ (q : CertPath). HasNextRobot paths q.robot) (sym same) next;
          has = refl;
        })

-- ---- fronts of a certificate's lines

-- the lines but for the last are those of a certificate
shorter : (xs : List (List ℕ)) (line : List ℕ) (nodes : List Node) → AreCertLines (xs ++ line ∷ []) nodes → (front : List Node) × AreCertLines xs front
shorter xs line nodes are = go (ending xs line nodes are)
  where
    go : Ending xs line nodes → (front : List Node) × AreCertLines xs front
    go (begins before n e front is) = (before, front)
    go (goes_on before paths p e front is next) = (before ++ Bound paths ∷ [], front)

-- so are those of each front
fronts : (n : ℕ) (xs ys : List (List ℕ)) (nodes : List Node) → length ys ≡ n → AreCertLines (xs ++ ys) nodes → (front : List Node) × AreCertLines xs front
fronts zero xs ys nodes e are = (nodes, subst (λ l. AreCertLines l nodes) (ap (λ l. xs ++ l) (nil_from_length ys e) ∙ append-nil xs) are)
fronts (suc n) xs ys nodes e are = go (ends ys) (λ zs nodes e are. fronts n xs zs nodes e are)
  where
    go : Ends ys → ((zs : List (List ℕ)) (nodes : List Node) → length zs ≡ n → AreCertLines (xs ++ zs) nodes → (front : List Node) × AreCertLines xs front) → (front : List Node) × AreCertLines xs front
    go (empty none) rest = absurd (let h : 0 ≡ suc n = ap length (sym none) ∙ e in omega (arith, h))
    go (last zs z is) rest =
        let r = shorter (xs ++ zs) z nodes (subst (λ l. AreCertLines l nodes) (ap (λ l. xs ++ l) is ∙ sym (append_assoc xs zs (z ∷ []))) are) in
        rest zs r.0 (let h : length zs ≡ n = omega (arith, e, ap length is, length-append zs (z ∷ [])) in h) r.1

pub front_is_good : (k : ℕ) (lines : List (List ℕ)) (nodes : List Node) → AreCertLines lines nodes → (front : List Node) × AreCertLines (take k lines) front
front_is_good k lines nodes are = fronts (length (drop k lines)) (take k lines) (drop k lines) nodes refl (subst (λ l. AreCertLines l nodes) (sym (take-append-drop k lines)) are)

-- a text with a fault is that of no certificate
pub no_certificate : (text : List ℕ) (line : ℕ) (nodes : List Node) → IsFaultLine text line → IsCertText text nodes → ⊥
no_certificate text line nodes fault is = go fault.bad
  where
    go : ((nodes : List Node) → ¬ AreCertLines (take line (whole_lines text)) nodes) ⊎ ((line ≡ length (whole_lines text) + 1) × (last_piece (pieces_of text) ≢ [])) → ⊥
    go (inl bad) = let r = front_is_good line (whole_lines text) nodes is.lines in bad r.0 r.1
    go (inr (at, torn)) = torn is.ends

take_take : {X : Type 0} (j k : ℕ) (xs : List X) → j ≤ k → take j (take k xs) ≡ take j xs
take_take zero k xs le = refl
take_take (suc j) zero xs le = absurd (omega (arith, le))
take_take (suc j) (suc k) [] le = refl
take_take (suc j) (suc k) (x ∷ xs) le = ap (λ l. x ∷ l) (take_take j k xs (omega (arith, le)))

-- no fault comes before another
earlier : (text : List ℕ) (line other : ℕ) → IsFaultLine text line → IsFaultLine text other → line < other → ⊥
earlier text line other a b lt = go a.bad b.bad
  where
    go : ((nodes : List Node) → ¬ AreCertLines (take line (whole_lines text)) nodes) ⊎ ((line ≡ length (whole_lines text) + 1) × (last_piece (pieces_of text) ≢ []))
        → ((nodes : List Node) → ¬ AreCertLines (take other (whole_lines text)) nodes) ⊎ ((other ≡ length (whole_lines text) + 1) × (last_piece (pieces_of text) ≢ [])) → ⊥
    go (inl bad) second =
        let r = front_is_good line (take (other - 1) (whole_lines text)) b.above b.good in
        bad r.0 (subst (λ l. AreCertLines l r.0) (take_take line (other - 1) (whole_lines text) (omega (arith, lt))) r.1)
    go (inr (at, torn)) (inl bad) =
        let all : take other (whole_lines text) ≡ whole_lines text = take_all other (whole_lines text) (omega (arith, at, lt)) in
        let above : take (line - 1) (whole_lines text) ≡ whole_lines text = take_all (line - 1) (whole_lines text) (omega (arith, at)) in
        bad a.above (subst (λ l. AreCertLines l a.above) (above ∙ sym all) a.good)
    go (inr (at, torn)) (inr (later, _)) = omega (arith, at, later, lt)

pub one_fault_line : (text : List ℕ) (line other : ℕ) → IsFaultLine text line → IsFaultLine text other → line ≡ other
one_fault_line text line other a b = elim (cases_lt line other) [
  | inl lt ↦ absurd (earlier text line other a b lt)
  | inr le ↦ elim (cases_lt other line) [ inl lt ↦ absurd (earlier text other line b a lt) | inr ge ↦ omega (arith, le, ge) ]
]

-- ---- a reader on its way

-- so far these nodes are read, whose lines are above the rest
pub record HasCome (text : List ℕ) (nodes : List Node) (rest : List ℕ) (above : ℕ) : Type 0 where
  pub parts : whole_lines text ≡ cert_lines nodes ++ whole_lines rest
  pub last : last_piece (pieces_of text) ≡ last_piece (pieces_of rest)
  pub lines : AreCertLines (cert_lines nodes) nodes
  pub count : above ≡ length (cert_lines nodes)
  pub within : above + length rest ≤ length text

front_of : (xs ys : List (List ℕ)) (k : ℕ) → k ≡ length xs → take k (xs ++ ys) ≡ xs
front_of xs ys k e = take-append-le k xs ys (omega (arith, e)) ∙ take_all k xs (omega (arith, e))

-- the next line is the first that fails
pub fails_here : (text rest after line : List ℕ) (nodes : List Node) (above : ℕ) → HasCome text nodes rest above → whole_lines rest ≡ line ∷ whole_lines after → ((more : List Node) → AreCertLines (cert_lines nodes ++ line ∷ []) more → ⊥) → IsFaultLine text (above + 1)
fails_here text rest after line nodes above come next none =
    let parts : whole_lines text ≡ (cert_lines nodes ++ line ∷ []) ++ whole_lines after = come.parts ∙ ap (λ l. cert_lines nodes ++ l) next ∙ sym (append_assoc (cert_lines nodes) (line ∷ []) (whole_lines after)) in
    let whole : take (above + 1) (whole_lines text) ≡ cert_lines nodes ++ line ∷ [] = ap (take (above + 1)) parts ∙ front_of (cert_lines nodes ++ line ∷ []) (whole_lines after) (above + 1) (omega (arith, come.count, length-append (cert_lines nodes) (line ∷ []))) in
    let front : take (above + 1 - 1) (whole_lines text) ≡ cert_lines nodes = ap (take (above + 1 - 1)) come.parts ∙ front_of (cert_lines nodes) (whole_lines rest) (above + 1 - 1) (omega (arith, come.count)) in
    record {
      counted = omega arith;
      above = nodes;
      good = subst (λ l. AreCertLines l nodes) (sym front) come.lines;
      bad = inl (λ more are. none more (subst (λ l. AreCertLines l more) whole are));
    }

-- or all is read
pub reads_all : (text rest : List ℕ) (nodes : List Node) (above : ℕ) → HasCome text nodes rest above → pieces_of rest ≡ rest ∷ [] → length rest ≡ 0 → IsCertText text nodes
reads_all text rest nodes above come one none =
    let parts : whole_lines text ≡ cert_lines nodes = come.parts ∙ ap (λ ps. cert_lines nodes ++ map without_cr (all_but_last ps)) one ∙ append-nil (cert_lines nodes) in
    record {
      lines = record { is = parts; written = come.lines.written; numbers = come.lines.numbers };
      ends = come.last ∙ ap last_piece one ∙ nil_from_length rest none;
    }

-- ---- answers

-- the fault of a line at its place
pub fault_is : (text : List ℕ) (above : ℕ) (fault : LineFault) → IfMalformed fault (IsFaultLine text (above + 1)) → CertFaultIs text (Err (fault_at fault (above + 1)))
fault_is text above line_fault.Malformed h = h
fault_is text above line_fault.Memory h = tt

pub reads_not : (text : List ℕ) (above : ℕ) (fault : LineFault) → IfMalformed fault (IsFaultLine text (above + 1)) → (nodes : List Node) → IsCertText text nodes → ReadsAs nodes (Err (fault_at fault (above + 1)))
reads_not text above line_fault.Malformed h nodes is = no_certificate text (above + 1) nodes h is
reads_not text above line_fault.Memory h nodes is = tt

pub malformed_here : (text rest after line : List ℕ) (nodes : List Node) (above : ℕ) (fault : LineFault) → HasCome text nodes rest above → whole_lines rest ≡ line ∷ whole_lines after → IfMalformed fault ((more : List Node) → AreCertLines (cert_lines nodes ++ line ∷ []) more → ⊥) → IfMalformed fault (IsFaultLine text (above + 1))
malformed_here text rest after line nodes above line_fault.Malformed come next h = fails_here text rest after line nodes above come next h
malformed_here text rest after line nodes above line_fault.Memory come next h = tt
