-- The last line of a certificate begins its last node, or is the last path of a Bound.
use Rattle.std.proofs.Common.{ℕ, suc, ◌≡◌, ◌+◌, ◌^◌, ◌<◌, ◌≤◌, List, [], ◌∷◌, ◌++◌, inl, inr, refl, sym, ap, ◌∙◌, subst, arith, length, get_or, append_assoc, length-append}
use Rattle.std.specs.Prelude.{All, codes, map}
use Rattle.std.specs.List.Sorted.{IsStrictlyIncreasing}
use Rattle.std.proofs.lemmas.Grind.{flat_map-append}
use Rattle.std.proofs.lemmas.Bool.{cases_lt}
use Rattle.std.proofs.lemmas.List.{append-nil, map-append, get_or_append_left, get_or-append-add}
use Rattle.std.proofs.lemmas.List.Elements.{All-push}
use Rattle.cert_tree.specs.declared.node.CertPath.{CertPath}
use Rattle.cert_tree.specs.declared.node.Node.{Node}
use Rattle.cert_tree.specs.declared.node.Node.TheVariants.{Branch, Force, Cyclic, Bound, OpenLeaf}
use Rattle.cert_tree.specs.declared.line.Line.TheVariants as said
use Rattle.cert_tree.specs.CertText.{cert_lines, node_lines, path_line, AreCertLines, IsWritten, HasNumbers, HavePairNumbers}
use Rattle.cert_tree.specs.Reading.{IsLine, HasNextRobot}

-- a list is empty or has a last element
pub data Ends {X : Type 0} (xs : List X) : Type 0 where
  empty : xs ≡ [] → Ends xs
  last : (ys : List X) (y : X) → xs ≡ ys ++ y ∷ [] → Ends xs

pub ends : {X : Type 0} (xs : List X) → Ends xs
ends [] = empty refl
ends (x ∷ xs) = go (ends xs)
  where
    go : Ends xs → Ends (x ∷ xs)
    go (empty e) = last [] x (ap (λ l. x ∷ l) e)
    go (last ys y e) = last (x ∷ ys) y (ap (λ l. x ∷ l) e)

-- two lists with a last element
pub same_last : {X : Type 0} (xs ys : List X) (x y : X) → xs ++ x ∷ [] ≡ ys ++ y ∷ [] → (xs ≡ ys) × (x ≡ y)
same_last [] [] x y e = (refl, let s : x ≡ y = cc in s)
same_last [] (b ∷ []) x y e = cc
same_last [] (b ∷ c ∷ ys) x y e = cc
same_last (a ∷ []) [] x y e = cc
same_last (a ∷ c ∷ xs) [] x y e = cc
same_last (a ∷ xs) (b ∷ ys) x y e =
    let t : xs ++ x ∷ [] ≡ ys ++ y ∷ [] = cc in
    let s : a ≡ b = cc in
    let r = same_last xs ys x y t in
    let u = r.0 in
    (let v : a ∷ xs ≡ b ∷ ys = cc in v, r.1)

-- what holds of all holds of those in front
pub all_front : {X : Type 0} (P : X → Type 0) (xs ys : List X) → All P (xs ++ ys) → All P xs
all_front P xs ys all = λ k d h. subst P (get_or_append_left xs ys d k h) (all k d (omega (arith, h, length-append xs ys)))

pub all_last : {X : Type 0} (P : X → Type 0) (xs : List X) (x : X) → All P (xs ++ x ∷ []) → P x
all_last P xs x all = subst P (get_or-append-add xs (x ∷ []) 0 x) (all (length xs + 0) x (omega (arith, length-append xs (x ∷ []))))

-- a list that rises, with one more
robots_more : (paths : List CertPath) (p : CertPath) → map (λ (q : CertPath). q.robot) (paths ++ p ∷ []) ≡ map (λ (q : CertPath). q.robot) paths ++ p.robot ∷ []
robots_more paths p = map-append (λ (q : CertPath). q.robot) paths (p ∷ [])

rises_front : (xs : List ℕ) (x : ℕ) → IsStrictlyIncreasing (xs ++ x ∷ []) → IsStrictlyIncreasing xs
rises_front xs x rises = λ k h. omega (arith, rises k (omega (arith, h, length-append xs (x ∷ []))), get_or_append_left xs (x ∷ []) 0 k (omega (arith, h)), get_or_append_left xs (x ∷ []) 0 (k + 1) h)

rises_last : (xs : List ℕ) (x : ℕ) → IsStrictlyIncreasing (xs ++ x ∷ []) → (k : ℕ) → k + 1 ≡ length xs → get_or xs k 0 < x
rises_last xs x rises k e =
    let at : get_or (xs ++ x ∷ []) (k + 1) 0 ≡ x = ap (λ i. get_or (xs ++ x ∷ []) i 0) (let f : k + 1 ≡ length xs + 0 = omega (arith, e) in f) ∙ get_or-append-add xs (x ∷ []) 0 0 in
    omega (arith, rises k (omega (arith, e, length-append xs (x ∷ []))), get_or_append_left xs (x ∷ []) 0 k (omega (arith, e)), at)

rises_more : (xs : List ℕ) (x : ℕ) → IsStrictlyIncreasing xs → ((k : ℕ) → k + 1 ≡ length xs → get_or xs k 0 < x) → IsStrictlyIncreasing (xs ++ x ∷ [])
rises_more xs x rises below k h = elim (cases_lt (k + 1) (length xs)) [
  | inl inside ↦ omega (arith, rises k inside, get_or_append_left xs (x ∷ []) 0 k (omega (arith, inside)), get_or_append_left xs (x ∷ []) 0 (k + 1) inside)
  | inr outside ↦ let e : k + 1 ≡ length xs = omega (arith, outside, h, length-append xs (x ∷ [])) in
      let at : get_or (xs ++ x ∷ []) (k + 1) 0 ≡ x = ap (λ i. get_or (xs ++ x ∷ []) i 0) (let f : k + 1 ≡ length xs + 0 = omega (arith, e) in f) ∙ get_or-append-add xs (x ∷ []) 0 0 in
      omega (arith, below k e, get_or_append_left xs (x ∷ []) 0 k (omega (arith, e)), at)
]

abbrev IsSized : CertPath → Type 0
IsSized p = 1 ≤ length p.pairs

abbrev HasSmall : CertPath → Type 0
HasSmall p = (p.robot < 2 ^ 32) × HavePairNumbers p.pairs

robots_length : (paths : List CertPath) → length (map (λ (q : CertPath). q.robot) paths) ≡ length paths
robots_length [] = refl
robots_length (p ∷ paths) = ap suc (robots_length paths)

-- a Bound with one more path
pub bound_more : (paths : List CertPath) (p : CertPath) → IsWritten (Bound paths) → 1 ≤ length p.pairs → HasNextRobot paths p.robot → IsWritten (Bound (paths ++ p ∷ []))
bound_more paths p written some next =
    (All-push IsSized paths p written.0 some, subst IsStrictlyIncreasing (sym (robots_more paths p)) (rises_more (map (λ (q : CertPath). q.robot) paths) p.robot written.1 (λ k e. next k (e ∙ robots_length paths))))

pub bound_less : (paths : List CertPath) (p : CertPath) → IsWritten (Bound (paths ++ p ∷ [])) → IsWritten (Bound paths) × (1 ≤ length p.pairs) × HasNextRobot paths p.robot
bound_less paths p written =
    let rises = subst IsStrictlyIncreasing (robots_more paths p) written.1 in
    ((all_front IsSized paths (p ∷ []) written.0, rises_front (map (λ (q : CertPath). q.robot) paths) p.robot rises), all_last IsSized paths p written.0, λ k e. rises_last (map (λ (q : CertPath). q.robot) paths) p.robot rises k (e ∙ sym (robots_length paths)))

-- the lines with one more node
pub lines_more : (nodes : List Node) (n : Node) → cert_lines (nodes ++ n ∷ []) ≡ cert_lines nodes ++ node_lines n
lines_more nodes n = flat_map-append node_lines nodes (n ∷ []) ∙ ap (λ l. cert_lines nodes ++ l) (append-nil (node_lines n))

-- and with one more path
pub lines_more_path : (nodes : List Node) (paths : List CertPath) (p : CertPath) → cert_lines (nodes ++ Bound (paths ++ p ∷ []) ∷ []) ≡ cert_lines (nodes ++ Bound paths ∷ []) ++ path_line p ∷ []
lines_more_path nodes paths p =
    lines_more nodes (Bound (paths ++ p ∷ [])) ∙ ap (λ l. cert_lines nodes ++ codes "cert bound" ∷ l) (map-append path_line paths (p ∷ [])) ∙ sym (append_assoc (cert_lines nodes) (node_lines (Bound paths)) (path_line p ∷ [])) ∙ ap (λ l. l ++ path_line p ∷ []) (sym (lines_more nodes (Bound paths)))

-- what the last line of a certificate is
pub data Ending (xs : List (List ℕ)) (line : List ℕ) (nodes : List Node) : Type 0 where
  begins : (before : List Node) (n : Node) → nodes ≡ before ++ n ∷ [] → AreCertLines xs before → IsLine line (said.Node n) → Ending xs line nodes
  goes_on : (before : List Node) (paths : List CertPath) (p : CertPath) → nodes ≡ before ++ Bound (paths ++ p ∷ []) ∷ [] → AreCertLines xs (before ++ Bound paths ∷ []) → IsLine line (said.Path p) → HasNextRobot paths p.robot → Ending xs line nodes

pub ending : (xs : List (List ℕ)) (line : List ℕ) (nodes : List Node) → AreCertLines (xs ++ line ∷ []) nodes → Ending xs line nodes
ending xs line nodes are = go (ends nodes)
  where
    one : (before : List Node) (n : Node) (only : List ℕ) → nodes ≡ before ++ n ∷ [] → node_lines n ≡ only ∷ [] → IsWritten n → HasNumbers n → Ending xs line nodes
    one before n only e is written numbers =
        let lines : cert_lines before ++ only ∷ [] ≡ xs ++ line ∷ [] = ap (λ l. cert_lines before ++ l) (sym is) ∙ sym (lines_more before n) ∙ ap cert_lines (sym e) ∙ sym are.is in
        let same = same_last (cert_lines before) xs only line lines in
        begins before n e
        (record {
          is = sym same.0;
          written = all_front IsWritten before (n ∷ []) (subst (All IsWritten) e are.written);
          numbers = all_front HasNumbers before (n ∷ []) (subst (All HasNumbers) e are.numbers);
        })
        (is ∙ ap (λ l. l ∷ []) same.1, written, numbers)

    bound : (before : List Node) (paths : List CertPath) → nodes ≡ before ++ Bound paths ∷ [] → Ends paths → Ending xs line nodes
    bound before paths e (empty none) = one before (Bound paths) (codes "cert bound") e (ap (λ ps. codes "cert bound" ∷ map path_line ps) none) (all_last IsWritten before (Bound paths) (subst (All IsWritten) e are.written)) (all_last HasNumbers before (Bound paths) (subst (All HasNumbers) e are.numbers))
    bound before paths e (last front p is) =
        let f : nodes ≡ before ++ Bound (front ++ p ∷ []) ∷ [] = e ∙ ap (λ ps. before ++ Bound ps ∷ []) is in
        let lines : cert_lines (before ++ Bound front ∷ []) ++ path_line p ∷ [] ≡ xs ++ line ∷ [] = sym (lines_more_path before front p) ∙ ap cert_lines (sym f) ∙ sym are.is in
        let same = same_last (cert_lines (before ++ Bound front ∷ [])) xs (path_line p) line lines in
        let written = subst (All IsWritten) f are.written in
        let numbers = subst (All HasNumbers) f are.numbers in
        let less = bound_less front p (all_last IsWritten before (Bound (front ++ p ∷ [])) written) in
        let small = all_last HasNumbers before (Bound (front ++ p ∷ [])) numbers in
        let fits = all_last HasSmall front p small in
        goes_on before front p f
        (record {
          is = sym same.0;
          written = All-push IsWritten before (Bound front) (all_front IsWritten before (Bound (front ++ p ∷ []) ∷ []) written) less.0;
          numbers = All-push HasNumbers before (Bound front) (all_front HasNumbers before (Bound (front ++ p ∷ []) ∷ []) numbers) (all_front HasSmall front (p ∷ []) small);
        })
        (sym same.1, (less.1, fits.0, fits.1)) less.2

    node : (before : List Node) (n : Node) → nodes ≡ before ++ n ∷ [] → IsWritten n → HasNumbers n → Ending xs line nodes
    node before (Branch q) e written numbers = one before (Branch q) _ e refl written numbers
    node before (Force q side cycle) e written numbers = one before (Force q side cycle) _ e refl written numbers
    node before (Cyclic cycle) e written numbers = one before (Cyclic cycle) _ e refl written numbers
    node before (Bound paths) e written numbers = bound before paths e (ends paths)
    node before (OpenLeaf least) e written numbers = one before (OpenLeaf least) _ e refl written numbers

    go : Ends nodes → Ending xs line nodes
    go (empty e) = absurd (let h : length (xs ++ line ∷ []) ≡ 0 = ap length (are.is ∙ ap cert_lines e) in omega (arith, h, length-append xs (line ∷ [])))
    go (last before n e) = node before n e (all_last IsWritten before n (subst (All IsWritten) e are.written)) (all_last HasNumbers before n (subst (All HasNumbers) e are.numbers))
