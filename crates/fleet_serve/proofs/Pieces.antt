-- The lines of a text that goes on.
use Rattle.std.proofs.Common.{ℕ, ◌≡◌, ◌≢◌, Bool, true, false, List, [], ◌∷◌, ◌++◌, map, cond, refl, sym, ap, ◌∙◌}
use Rattle.std.specs.Prelude.{◌==◌}
use Rattle.std.proofs.lemmas.List.{map-append}
use Rattle.std.proofs.lemmas.Bool.{eqb-true}
use Rattle.fleet_base.specs.Bytes.{pieces_of, in_front, all_but_last, last_piece, without_cr, whole_lines}
use Rattle.fleet_serve.specs.Reading.{unfinished, IsUnfinished}

-- there is a piece at least
abbrev pub Some_piece : List (List ℕ) → Type 0
Some_piece pieces = (p : List ℕ) × (ps : List (List ℕ)) × (pieces ≡ p ∷ ps)

pub some_piece : (text : List ℕ) → Some_piece (pieces_of text)
some_piece [] = ([], [], refl)
some_piece (c ∷ cs) = go (c == 10) (some_piece cs)
  where
    go : (b : Bool) → Some_piece (pieces_of cs) → Some_piece (cond b ([] ∷ pieces_of cs) (in_front c (pieces_of cs)))
    go true r = ([], pieces_of cs, refl)
    go false (p, ps, e) = (c ∷ p, ps, ap (in_front c) e)

-- ---- a text and what follows it

joined : (c : ℕ) (b : List ℕ) (t : Bool) (ps xs : List (List ℕ)) → (c == 10) ≡ t → Some_piece ps → xs ≡ all_but_last ps ++ pieces_of (last_piece ps ++ b)
    → cond t ([] ∷ xs) (in_front c xs) ≡ all_but_last (cond t ([] ∷ ps) (in_front c ps)) ++ pieces_of (last_piece (cond t ([] ∷ ps) (in_front c ps)) ++ b)
joined c b true [] xs e (p, qs, n) x = cc
joined c b false [] xs e (p, qs, n) x = cc
joined c b true (p ∷ ps) xs e n x = ap (λ (l : List (List ℕ)). [] ∷ l) x
joined c b false (p ∷ []) xs e n x = ap (in_front c) x ∙ sym (ap (λ t. cond t ([] ∷ pieces_of (p ++ b)) (in_front c (pieces_of (p ++ b)))) e)
joined c b false (p ∷ q ∷ qs) xs e n x = ap (in_front c) x

-- the pieces of a text that goes on: all but the last one stay, and the last one goes on
pub pieces_join : (a b : List ℕ) → pieces_of (a ++ b) ≡ all_but_last (pieces_of a) ++ pieces_of (unfinished a ++ b)
pieces_join [] b = refl
pieces_join (c ∷ cs) b = joined c b (c == 10) (pieces_of cs) (pieces_of (cs ++ b)) refl (some_piece cs) (pieces_join cs b)

ends : (c : ℕ) (t : Bool) (ps : List (List ℕ)) → (c == 10) ≡ t → Some_piece ps → pieces_of (last_piece ps) ≡ last_piece ps ∷ []
    → pieces_of (last_piece (cond t ([] ∷ ps) (in_front c ps))) ≡ last_piece (cond t ([] ∷ ps) (in_front c ps)) ∷ []
ends c true [] e (p, qs, n) h = cc
ends c false [] e (p, qs, n) h = cc
ends c true (p ∷ ps) e n h = h
ends c false (p ∷ []) e n h = ap (λ t. cond t ([] ∷ pieces_of p) (in_front c (pieces_of p))) e ∙ ap (in_front c) h
ends c false (p ∷ q ∷ qs) e n h = h

-- what follows the last LF has no LF
pub unfinished_is : (a : List ℕ) → IsUnfinished (unfinished a)
unfinished_is [] = refl
unfinished_is (c ∷ cs) = ends c (c == 10) (pieces_of cs) refl (some_piece cs) (unfinished_is cs)

-- ---- lists of pieces put together

all_but_last-append : (xs ys : List (List ℕ)) → Some_piece ys → all_but_last (xs ++ ys) ≡ xs ++ all_but_last ys
all_but_last-append [] ys n = refl
all_but_last-append (x ∷ []) [] (p, ps, n) = cc
all_but_last-append (x ∷ []) (y ∷ ys) n = refl
all_but_last-append (x ∷ z ∷ zs) ys n = ap (λ (l : List (List ℕ)). x ∷ l) (all_but_last-append (z ∷ zs) ys n)

last_piece-append : (xs ys : List (List ℕ)) → Some_piece ys → last_piece (xs ++ ys) ≡ last_piece ys
last_piece-append [] ys n = refl
last_piece-append (x ∷ []) [] (p, ps, n) = cc
last_piece-append (x ∷ []) (y ∷ ys) n = refl
last_piece-append (x ∷ z ∷ zs) ys n = last_piece-append (z ∷ zs) ys n

-- the lines of a text that goes on: those that it had, and those that end in what follows
pub whole_lines_join : (a b : List ℕ) → whole_lines (a ++ b) ≡ whole_lines a ++ whole_lines (unfinished a ++ b)
whole_lines_join a b =
    ap (λ (l : List (List ℕ)). map without_cr (all_but_last l)) (pieces_join a b)
    ∙ ap (map without_cr) (all_but_last-append (all_but_last (pieces_of a)) (pieces_of (unfinished a ++ b)) (some_piece (unfinished a ++ b)))
    ∙ map-append without_cr (all_but_last (pieces_of a)) (all_but_last (pieces_of (unfinished a ++ b)))

pub unfinished_join : (a b : List ℕ) → unfinished (a ++ b) ≡ unfinished (unfinished a ++ b)
unfinished_join a b = ap last_piece (pieces_join a b) ∙ last_piece-append (all_but_last (pieces_of a)) (pieces_of (unfinished a ++ b)) (some_piece (unfinished a ++ b))

-- ---- one byte more

-- the first byte of a line that has no LF is none
rest_unfinished : (d : ℕ) (t : Bool) (ds : List ℕ) (ps : List (List ℕ)) → Some_piece ps → cond t ([] ∷ ps) (in_front d ps) ≡ (d ∷ ds) ∷ [] → (t ≡ false) × (ps ≡ ds ∷ [])
rest_unfinished d true ds ps n e = cc
rest_unfinished d false ds [] (p, qs, n) e = cc
rest_unfinished d false ds (p ∷ []) n e = let same : p ≡ ds = cc in (refl, ap (λ (l : List ℕ). l ∷ []) same)
rest_unfinished d false ds (p ∷ q ∷ qs) n e = cc

ended : (line : List ℕ) → IsUnfinished line → pieces_of (line ++ 10 ∷ []) ≡ line ∷ [] ∷ []
ended [] h = refl
ended (d ∷ ds) h =
    let r = rest_unfinished d (d == 10) ds (pieces_of ds) (some_piece ds) h in
    ap (λ t. cond t ([] ∷ pieces_of (ds ++ 10 ∷ [])) (in_front d (pieces_of (ds ++ 10 ∷ [])))) r.0 ∙ ap (in_front d) (ended ds r.1)

within : (c : ℕ) → (c == 10) ≡ false → (line : List ℕ) → IsUnfinished line → IsUnfinished (line ++ c ∷ [])
within c n [] h = ap (λ t. cond t ([] ∷ [] ∷ []) ((c ∷ []) ∷ [])) n
within c n (d ∷ ds) h =
    let r = rest_unfinished d (d == 10) ds (pieces_of ds) (some_piece ds) h in
    ap (λ t. cond t ([] ∷ pieces_of (ds ++ c ∷ [])) (in_front d (pieces_of (ds ++ c ∷ [])))) r.0 ∙ ap (in_front d) (within c n ds r.1)

-- a line with its LF behind it
pub line_ends : (line : List ℕ) → IsUnfinished line → whole_lines (line ++ 10 ∷ []) ≡ without_cr line ∷ []
line_ends line h = ap (λ (l : List (List ℕ)). map without_cr (all_but_last l)) (ended line h)

pub nothing_begun : (line : List ℕ) → IsUnfinished line → unfinished (line ++ 10 ∷ []) ≡ []
nothing_begun line h = ap last_piece (ended line h)

-- a line without it
pub no_line : (line : List ℕ) → IsUnfinished line → whole_lines line ≡ []
no_line line h = ap (λ (l : List (List ℕ)). map without_cr (all_but_last l)) h

pub all_begun : (line : List ℕ) → IsUnfinished line → unfinished line ≡ line
all_begun line h = ap last_piece h

not_ten : (c : ℕ) → c ≢ 10 → (c == 10) ≡ false
not_ten c n = go (c == 10) refl
  where
    go : (t : Bool) → (c == 10) ≡ t → t ≡ false
    go true e = absurd (n (eqb-true c 10 e))
    go false e = refl

pub goes_on_unfinished : (c : ℕ) → c ≢ 10 → (line : List ℕ) → IsUnfinished line → IsUnfinished (line ++ c ∷ [])
goes_on_unfinished c n line h = within c (not_ten c n) line h
