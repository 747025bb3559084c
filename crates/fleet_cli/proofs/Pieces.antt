-- Lists that are put together piece by piece.
use Rattle.std.proofs.Common.{ℕ, ◌≡◌, ◌+◌, ◌<◌, ◌≤◌, List, [], ◌∷◌, ◌++◌, sym, ap, ◌∙◌, arith, length, get_or, take, map}
use Rattle.std.specs.Prelude.{sum_by, codes}
use Rattle.std.proofs.lemmas.List.{take_more, append_assoc, append-nil}
use Rattle.std.proofs.lemmas.List.Sums.{sum_by_more_le, sum_by-append}
use Rattle.fleet_base.specs.declared.geometry.PlannedVisit.{PlannedVisit}
use Rattle.fleet_base.specs.Lists.{row_of}
use Rattle.fleet_base.specs.Plan.{AreRoutes, visits_of, last_of}
use Rattle.fleet_base.specs.Bytes.{field, fields}
use Rattle.fleet_base.proofs.GraphLaws.{route_is_some}
use Rattle.fleet_cli.specs.declared.papers.Sound.{Sound}
use Rattle.fleet_cli.specs.Fetching.{Counts}
use Rattle.fleet_cli.specs.Lines.{sound_line}

-- the visits of the robots so far, and of the next one
pub visits_more : (routes : List (List PlannedVisit)) → AreRoutes routes → (r : ℕ) → r < length routes
    → (sum_by length (take r routes) + last_of routes r + 1 ≡ sum_by length (take (r + 1) routes)) × (sum_by length (take r routes) + last_of routes r + 1 ≤ 65536)
visits_more routes a r h =
    let some = route_is_some routes a r h in
    let more : sum_by length (take (r + 1) routes) ≡ sum_by length (take r routes) + (0 + length (row_of routes r)) =
    ap (λ (rs : List (List PlannedVisit)). sum_by length rs) (take_more routes r [] h) ∙ sum_by-append length (take r routes) (row_of routes r ∷ []) in
    let limit : sum_by length routes ≡ sum_by length (visits_of a.plan) = ap (λ (rs : List (List PlannedVisit)). sum_by length rs) a.visits in
    (omega (arith, more, some), omega (arith, some, sum_by_more_le length routes r [] h, limit, a.accepted.limits.visits))

-- three words
pub three_words : {W : Type 0} (f : W → List ℕ) (ws : List W) (a b c : W) → length ws ≡ 3 → a ≡ get_or ws 0 a → b ≡ get_or ws 1 b → c ≡ get_or ws 2 c → map f ws ≡ f a ∷ f b ∷ f c ∷ []
three_words f [] a b c n ea eb ec = absurd (omega (arith, n))
three_words f (x ∷ []) a b c n ea eb ec = absurd (omega (arith, n))
three_words f (x ∷ y ∷ []) a b c n ea eb ec = absurd (omega (arith, n))
three_words f (x ∷ y ∷ z ∷ []) a b c n ea eb ec = λ i. f (sym ea i) ∷ f (sym eb i) ∷ f (sym ec i) ∷ []
three_words f (x ∷ y ∷ z ∷ w ∷ ws) a b c n ea eb ec = absurd (omega (arith, n))

-- two pieces, and then numbers
pub words_then_fields : (out once new front word : List ℕ) (numbers : List ℕ) → once ≡ out ++ (front ++ word) → new ≡ once ++ fields numbers → new ≡ out ++ ((front ++ word) ++ fields numbers)
words_then_fields out once new front word numbers o n = n ∙ ap (λ (t : List ℕ). t ++ fields numbers) o ∙ append_assoc out (front ++ word) (fields numbers)

-- a piece and a number, and then numbers
pub line_then_robots : (out once new front : List ℕ) (n : ℕ) (robots : List ℕ) → once ≡ out ++ (front ++ fields (n ∷ [])) → new ≡ once ++ fields robots → new ≡ out ++ (front ++ fields (n ∷ robots))
line_then_robots out once new front n robots o e =
    e ∙ ap (λ (t : List ℕ). t ++ fields robots) o ∙ append_assoc out (front ++ fields (n ∷ [])) (fields robots)
    ∙ ap (λ (t : List ℕ). out ++ t) (append_assoc front (fields (n ∷ [])) (fields robots) ∙ ap (λ (t : List ℕ). front ++ t) (ap (λ (t : List ℕ). t ++ fields robots) (append-nil (field n))))

-- the numbers that were counted are those of the line
pub sound_counted : (routes : List (List PlannedVisit)) (sound : Sound) → Counts routes sound → codes "sound" ++ fields (sound.robots ∷ sound.visits ∷ sound.pairs ∷ []) ≡ sound_line routes
sound_counted routes sound c = λ i. codes "sound" ++ fields (c.robots i ∷ c.visits i ∷ c.pairs i ∷ [])
