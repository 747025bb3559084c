-- The texts of lines, and lines cut short.
use Rattle.std.proofs.Common.{ℕ, ◌≡◌, ◌+◌, ◌-◌, ◌<◌, ◌≤◌, List, [], ◌∷◌, ◌++◌, map, length, take, get_or, sym, ap, ◌∙◌, subst, arith, append_assoc, append-nil}
use Rattle.std.specs.Prelude.{flat_map, All, Contains, slice_index_or}
use Rattle.std.specs.List.{range_with_len}
use Rattle.std.proofs.lemmas.List.{map-append, take_all, take_more, length-take, take-append-le, length-append}
use Rattle.std.proofs.lemmas.List.Concat.{flat_map-append}
use Rattle.std.proofs.lemmas.List.FromFn.{map-range_with_len_more}
use Rattle.std.proofs.lemmas.List.Elements.{All-contains_itself}
use Rattle.fleet_base.specs.declared.geometry.PlannedVisit.{PlannedVisit}
use Rattle.fleet_base.specs.declared.geometry.Visit.{Visit}
use Rattle.fleet_base.specs.Lists.{range}
use Rattle.fleet_base.specs.Plan.{AreRoutes, IsOnRoute}
use Rattle.fleet_base.specs.Order.{graph_of}
use Rattle.fleet_base.specs.State.{FleetState, arrived_count, released_count}
use Rattle.fleet_base.specs.Release.{new_releases}
use Rattle.fleet_base.specs.Rules.{IsFleetState}
use Rattle.fleet_base.specs.World.{release_line}
use Rattle.fleet_base.proofs.GraphLaws.{length-map, last_is, route_is_some}
use Rattle.fleet_base.proofs.Ranges.{range_more}
use Rattle.fleet_base.proofs.Members.{from_flat_map, from_range}
use Rattle.fleet_base.proofs.AllVisits.{from_map}
use Rattle.fleet_base.specs.Bytes.{text_of_lines}
use Rattle.fleet_serve.specs.Lines.{release_lines, pending_of}
use Rattle.fleet_serve.specs.Reading.{kept_of}

pub text-append : (a b : List (List ℕ)) → text_of_lines (a ++ b) ≡ text_of_lines a ++ text_of_lines b
text-append a b = flat_map-append (λ (line : List ℕ). line ++ 10 ∷ []) a b

-- the text of releases, and of some more
pub releases-append : (routes : List (List PlannedVisit)) (a b : List Visit) → text_of_lines (release_lines routes (a ++ b)) ≡ text_of_lines (release_lines routes a) ++ text_of_lines (release_lines routes b)
releases-append routes a b = ap text_of_lines (map-append (release_line routes) a b) ∙ text-append (release_lines routes a) (release_lines routes b)

pub releases_more : (routes : List (List PlannedVisit)) (vs : List Visit) (i : ℕ) (d : Visit) → i < length vs → text_of_lines (release_lines routes (take (i + 1) vs)) ≡ text_of_lines (release_lines routes (take i vs)) ++ text_of_lines (release_lines routes (get_or vs i d ∷ []))
releases_more routes vs i d h = ap (λ (l : List Visit). text_of_lines (release_lines routes l)) (take_more vs i d h) ∙ releases-append routes (take i vs) (get_or vs i d ∷ [])

-- a text and one piece more behind what was written
pub written_more : (start now new more all next : List ℕ) → now ≡ start ++ all → new ≡ now ++ more → next ≡ all ++ more → new ≡ start ++ next
written_more start now new more all next e f g = f ∙ ap (λ (t : List ℕ). t ++ more) e ∙ append_assoc start all more ∙ ap (λ (t : List ℕ). start ++ t) (sym g)

-- ---- the releases of a robot that have not arrived

abbrev visit : ℕ → ℕ → Visit
visit i k = record { robot = i; index = k }

-- those up to an index
abbrev pub pending_to : FleetState → ℕ → ℕ → List Visit
pending_to x i to = map (visit i) (range (arrived_count x i) to)

pub pending_more : (x : FleetState) (i k : ℕ) → arrived_count x i ≤ k → pending_to x i (k + 1) ≡ pending_to x i k ++ visit i k ∷ []
pending_more x i k h =
    let e : (k + 1) - arrived_count x i ≡ (k - arrived_count x i) + 1 = omega arith in
    ap (λ (n : ℕ). map (visit i) (range_with_len (arrived_count x i) n)) e ∙ map-range_with_len_more (visit i) (arrived_count x i) (k - arrived_count x i) k (omega arith)

pub pending_none : (x : FleetState) (i k : ℕ) → k ≤ arrived_count x i → pending_to x i k ≡ []
pending_none x i k h =
    let e : k - arrived_count x i ≡ 0 = omega arith in
    ap (λ (n : ℕ). map (visit i) (range_with_len (arrived_count x i) n)) e

-- ---- the releases of all robots that have not arrived

pub robots_more : (x : FleetState) (n : ℕ) → flat_map (pending_of x) (range 0 (n + 1)) ≡ flat_map (pending_of x) (range 0 n) ++ pending_of x n
robots_more x n =
    ap (flat_map (pending_of x)) (range_more n)
    ∙ flat_map-append (pending_of x) (range 0 n) (n ∷ [])
    ∙ ap (λ (l : List Visit). flat_map (pending_of x) (range 0 n) ++ l) (append-nil (pending_of x n))

-- a greeting's text with the releases of one robot more
pub greeting_more : (routes : List (List PlannedVisit)) (x : FleetState) (first : List ℕ) (n : ℕ)
    → text_of_lines (first ∷ release_lines routes (flat_map (pending_of x) (range 0 n))) ++ text_of_lines (release_lines routes (pending_of x n)) ≡ text_of_lines (first ∷ release_lines routes (flat_map (pending_of x) (range 0 (n + 1))))
greeting_more routes x first n =
    append_assoc (first ++ 10 ∷ []) (text_of_lines (release_lines routes (flat_map (pending_of x) (range 0 n)))) (text_of_lines (release_lines routes (pending_of x n)))
    ∙ ap (λ (t : List ℕ). (first ++ 10 ∷ []) ++ t)
    (sym (releases-append routes (flat_map (pending_of x) (range 0 n)) (pending_of x n)) ∙ ap (λ (l : List Visit). text_of_lines (release_lines routes l)) (sym (robots_more x n)))

-- ---- visits on their routes

pub released_on_route : (routes : List (List PlannedVisit)) (x : FleetState) (i k : ℕ) → AreRoutes routes → IsFleetState (graph_of routes) x → i < length routes → k < released_count x i → IsOnRoute routes (visit i k)
released_on_route routes x i k r s h lt =
    let there : i < length (graph_of routes).lasts = omega (arith, h, length-map (λ (route : List PlannedVisit). length route - 1) routes) in
    omega (arith, lt, (s.releases.last i there).within, last_is routes i h, route_is_some routes r i h, s.releases.started i there)

-- what a step releases is on the routes
pub new_on_route : (routes : List (List PlannedVisit)) (x x' : FleetState) → AreRoutes routes → IsFleetState (graph_of routes) x' → All (λ v. IsOnRoute routes v) (new_releases x x')
new_on_route routes x x' r s = λ k d lt. listed (slice_index_or (new_releases x x') k d) (All-contains_itself (new_releases x x') k d lt)
  where
    listed : (v : Visit) → Contains (new_releases x x') v → IsOnRoute routes v
    listed v h =
        let a = from_flat_map (λ (i : ℕ). map (visit i) (range (released_count x i) (released_count x' i))) (range 0 (length x'.releases)) v h in
        let b = from_map (visit a.0) (range (released_count x a.0) (released_count x' a.0)) v a.2 in
        let robots : length x'.releases ≡ length routes = s.fleet.releases ∙ length-map (λ (route : List PlannedVisit). length route - 1) routes in
        let i : a.0 < length routes = omega (arith, (from_range 0 (length x'.releases) a.0 a.1).1, robots) in
        subst (λ (w : Visit). IsOnRoute routes w) b.2 (released_on_route routes x' a.0 b.0 r s i (from_range (released_count x a.0) (released_count x' a.0) b.0 b.1).1)

-- ---- lines cut short

pub kept_more : (line : List ℕ) (byte : ℕ) → length (kept_of line) < 258 → kept_of line ++ byte ∷ [] ≡ kept_of (line ++ byte ∷ [])
kept_more line byte h =
    let short : length line < 258 = omega (arith, h, length-take 258 line) in
    ap (λ (l : List ℕ). l ++ byte ∷ []) (take_all 258 line (omega (arith, short))) ∙ sym (take_all 258 (line ++ byte ∷ []) (omega (arith, short, length-append line (byte ∷ []))))

pub kept_full : (line : List ℕ) (byte : ℕ) → 258 ≤ length (kept_of line) → kept_of line ≡ kept_of (line ++ byte ∷ [])
kept_full line byte h = sym (take-append-le 258 line (byte ∷ []) (omega (arith, h, length-take 258 line)))
