-- The end of a run says which path a text is, or where it leaves all paths.
use Rattle.std.proofs.Common.{ℕ, ◌+◌, ◌<◌, ◌≤◌, ◌≡◌, Some, None, true, false, List, [], ◌∷◌, ◌++◌, length, take, drop, get_or, sym, ◌∙◌, ap, subst, refl, inl, inr, arith}
use Rattle.std.specs.Prelude.{option_and_then}
use Rattle.std.proofs.lemmas.Bool.{both_ways, cases_lt}
use Rattle.std.proofs.lemmas.Option.{some_pair_parts, none-some}
use Rattle.std.proofs.lemmas.List.{append_assoc, take-append-drop, take-take, take_all, take_more}
use Rattle.fleet_base.specs.declared.geometry.Cell.{Cell}
use Rattle.plan_text.specs.declared.place.Place.{Place}
use Rattle.plan_text.specs.declared.place.Place.TheVariants.{Start, Open, Row, Comma, Col, Closed, Dash, Arrow}
use Rattle.plan_text.specs.Places.{next_place, is_end}
use Rattle.plan_text.specs.PlanText.{IsPathText}
use Rattle.plan_text.specs.PlanFaults.{BeginsPathText, IsPathFault}
use Rattle.plan_text.proofs.Runs.{Stands, with_cell, run, run-append, stands, whole_run, completes}

-- one more byte of a run
pub run_more : (text : List ℕ) (k : ℕ) (p : Place) (cs : List Cell) → k < length text → run Start [] (take k text) ≡ Some (p, cs) → run Start [] (take (k + 1) text) ≡ option_and_then (λ q. Some (q, with_cell q cs)) (next_place p (get_or text k 0))
run_more text k p cs within e =
    ap (run Start []) (take_more text k 0 within) ∙ run-append Start [] (take k text) (get_or text k 0 ∷ []) ∙ ap (λ o. option_and_then (λ s. run s.0 s.1 (get_or text k 0 ∷ [])) o) e

-- the run over all bytes
pub run_whole : (text : List ℕ) (k : ℕ) (p : Place) (cs : List Cell) → length text ≤ k → run Start [] (take k text) ≡ Some (p, cs) → run Start [] text ≡ Some (p, cs)
run_whole text k p cs whole e = ap (run Start []) (sym (take_all k text whole)) ∙ e

-- a front of what runs runs
front_runs : (xs ys : List ℕ) (s : Place × List Cell) → run Start [] (xs ++ ys) ≡ Some s → run Start [] xs ≡ None → ⊥
front_runs xs ys s e none =
    let stopped : run Start [] (xs ++ ys) ≡ None = run-append Start [] xs ys ∙ ap (λ o. option_and_then (λ t. run t.0 t.1 ys) o) none in
    none-some s (sym stopped ∙ e)

-- what begins a path's text runs
begun_runs : (front : List ℕ) → BeginsPathText front → run Start [] front ≡ None → ⊥
begun_runs front w none =
    let end = whole_run w.0 w.1 w.2 in
    front_runs front w.3.0 (end.0, w.1) (ap (run Start []) w.3.1 ∙ end.1) none

-- what runs begins a path's text
pub runs_begin : (front : List ℕ) (p : Place) (cs : List Cell) → run Start [] front ≡ Some (p, cs) → BeginsPathText front
runs_begin front p cs e =
    let made = completes p cs front (stands front p cs e) in
    (front ++ made.0, made.1, made.2, (made.0, refl))

-- at an end the text is the path
pub ended : (text : List ℕ) (p : Place) (cs : List Cell) → run Start [] text ≡ Some (p, cs) → is_end p ≡ true → IsPathText text cs
ended text p cs e end = go p end (stands text p cs e) where
  go : (q : Place) → is_end q ≡ true → Stands q cs text → IsPathText text cs
  go (Closed c) t s = record { some = s.0.some; narrow = s.0.narrow; spelled = inl s.1 }
  go Arrow t s = record { some = s.0.some; narrow = s.0.narrow; spelled = inr s.1 }
  go Start t s = absurd cc
  go Open t s = absurd cc
  go (Row r) t s = absurd cc
  go (Comma r) t s = absurd cc
  go (Col c) t s = absurd cc
  go Dash t s = absurd cc

-- at another place it is too short
pub unended : (text : List ℕ) (p : Place) (cs : List Cell) → run Start [] text ≡ Some (p, cs) → is_end p ≡ false → IsPathFault text (length text)
unended text p cs e open_end = record {
  bad = λ path is.
      let end = whole_run text path is in
      let same = some_pair_parts end.0 p path cs (sym end.1 ∙ e) in
      both_ways (is_end p) open_end (ap is_end (sym same.0) ∙ end.2);
  front = record {
    within = omega arith;
    good = subst BeginsPathText (sym (take_all (length text) text (omega arith))) (runs_begin text p cs e);
    longest = λ m within begins. within;
  };
}

-- where no step leads on the text leaves all paths
pub stopped : (text : List ℕ) (k : ℕ) (p : Place) (cs : List Cell) → k < length text → run Start [] (take k text) ≡ Some (p, cs) → next_place p (get_or text k 0) ≡ None → IsPathFault text k
stopped text k p cs within e none =
    let dead : run Start [] (take (k + 1) text) ≡ None = run_more text k p cs within e ∙ ap (λ o. option_and_then (λ q. Some (q, with_cell q cs)) o) none in
    record {
      bad = λ path is.
          let end = whole_run text path is in
          front_runs (take (k + 1) text) (drop (k + 1) text) (end.0, path) (ap (run Start []) (take-append-drop (k + 1) text) ∙ end.1) dead;
      front = record {
        within = omega arith;
        good = runs_begin (take k text) p cs e;
        longest = λ m fits begins. longest m begins dead;
      };
    } where
      longest : (m : ℕ) → BeginsPathText (take m text) → run Start [] (take (k + 1) text) ≡ None → m ≤ k
      longest m begins dead = elim (cases_lt k m) [
        | inr low ↦ low
        | inl high ↦ absurd (begun_runs (take (k + 1) text) (shorter m begins high) dead)
      ] where
        shorter : (n : ℕ) → BeginsPathText (take n text) → k < n → BeginsPathText (take (k + 1) text)
        shorter n w high =
            let cut : take (k + 1) (take n text) ≡ take (k + 1) text = take-take (k + 1) n text (omega arith) in
            (w.0, w.1, w.2, (drop (k + 1) (take n text) ++ w.3.0, joined n w.0 w.3.0 cut w.3.1)) where
              joined : (n : ℕ) (whole rest : List ℕ) → take (k + 1) (take n text) ≡ take (k + 1) text → take n text ++ rest ≡ whole → take (k + 1) text ++ (drop (k + 1) (take n text) ++ rest) ≡ whole
              joined n whole rest cut e =
                  sym (append_assoc (take (k + 1) text) (drop (k + 1) (take n text)) rest) ∙ ap (λ zs. zs ++ drop (k + 1) (take n text) ++ rest) (sym cut) ∙ ap (λ zs. zs ++ rest) (take-append-drop (k + 1) (take n text)) ∙ e

-- a text says one path
pub one_path : (text : List ℕ) (path other : List Cell) → IsPathText text path → IsPathText text other → path ≡ other
one_path text path other a b =
    let end = whole_run text path a in
    let end' = whole_run text other b in
    (some_pair_parts end.0 end'.0 path other (sym end.1 ∙ end'.1)).1
