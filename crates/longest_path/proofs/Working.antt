-- Work that notes what is raised, and gives it back.
use Rattle.std.proofs.Common.{ℕ, ◌≡◌, ◌≢◌, ◌+◌, ◌<◌, ◌≤◌, ◌⊎◌, List, [], Bool, true, false, cond, refl, sym, ap, ◌∙◌, subst, inl, inr, arith, length, get_or}
use Rattle.std.proofs.lemmas.Bool.{cases_lt}
use Rattle.std.proofs.lemmas.List.{get_or_past}
use Rattle.fleet_base.specs.declared.geometry.Visit.{Visit}
use Rattle.fleet_base.specs.Lists.{row_of}
use Rattle.fleet_base.specs.Order.{Graph, IsVisit}
use Rattle.fleet_base.specs.VisitRows.{tick_in, AreRowsFor}
use Rattle.longest_path.specs.Cells.{HasCell, put, AreAlike, is_marked}
use Rattle.longest_path.specs.Working.{IsWorkFor, IsIdle, IsKeptBy, saved_with, noted}
use Rattle.longest_path.specs.declared.work.Work.{Work}
use Rattle.longest_path.proofs.Cells.{cell_put, cell_other, put_alike, alike_on, alike_sym, alike_cell, alike_refl}
use Rattle.longest_path.proofs.Raising.{same_or_differs}

-- rows for one graph are alike
pub rows_alike : {X Y : Type 0} (g : Graph) (xs : List (List X)) (ys : List (List Y)) → AreRowsFor g xs → AreRowsFor g ys → AreAlike xs ys
rows_alike g xs ys a b = record { rows = a.robots ∙ sym b.robots; each = λ i. go i (cases_lt i (length g.lasts)) }
  where
    go : (i : ℕ) → (i < length g.lasts) ⊎ (length g.lasts ≤ i) → length (row_of xs i) ≡ length (row_of ys i)
    go i (inl lt) = a.visits i lt ∙ sym (b.visits i lt)
    go i (inr le) = ap length (get_or_past xs i [] (omega (arith, le, a.robots))) ∙ sym (ap length (get_or_past ys i [] (omega (arith, le, b.robots))))

-- and so are rows that are like them
pub alike_rows : {X Y : Type 0} (g : Graph) (xs : List (List X)) (ys : List (List Y)) → AreRowsFor g xs → AreAlike xs ys → AreRowsFor g ys
alike_rows g xs ys a b = record { robots = sym b.rows ∙ a.robots; visits = λ i lt. sym (b.each i) ∙ a.visits i lt }

pub visit_cell : {X : Type 0} (g : Graph) (xs : List (List X)) (v : Visit) → AreRowsFor g xs → IsVisit g v → HasCell xs v
visit_cell g xs v a is = (omega (arith, is.robot, a.robots), omega (arith, is.index, a.visits v.robot is.robot))

pub cell_visit : {X : Type 0} (g : Graph) (xs : List (List X)) (v : Visit) → AreRowsFor g xs → HasCell xs v → IsVisit g v
cell_visit g xs v a has =
    let robot : v.robot < length g.lasts = omega (arith, has.0, a.robots) in
    record { robot = robot; index = omega (arith, has.1, a.visits v.robot robot) }

-- ticks change, and the work stays one for them
pub work_on : (rows more : List (List ℕ)) (work : Work) → AreAlike rows more → IsWorkFor rows work → IsWorkFor more work
work_on rows more work a w = record {
  waiting = alike_on more rows work.waiting (alike_sym rows more a) w.waiting;
  raised = alike_on more rows work.raised (alike_sym rows more a) w.raised;
  saved = alike_on more rows work.saved (alike_sym rows more a) w.saved;
}

pub saved_alike : (rows : List (List ℕ)) (work : Work) (v : Visit) (before : ℕ) → HasCell rows v → IsWorkFor rows work → AreAlike rows (saved_with work v before)
saved_alike rows work v before has w = go (is_marked work.raised v)
  where
    go : (b : Bool) → AreAlike rows (cond b work.saved (put work.saved v before))
    go true = w.saved
    go false = alike_on rows work.saved (put work.saved v before) w.saved (put_alike work.saved v before (alike_cell rows work.saved v w.saved has))

-- a visit is raised
pub work_noted : (rows : List (List ℕ)) (work : Work) (v : Visit) (before tick : ℕ) → HasCell rows v → IsWorkFor rows work → IsWorkFor (put rows v tick) (noted work v before)
work_noted rows work v before tick has w = work_on rows (put rows v tick) (noted work v before) (put_alike rows v tick has) (record {
  waiting = alike_on rows work.waiting (put work.waiting v true) w.waiting (put_alike work.waiting v true (alike_cell rows work.waiting v w.waiting has));
  raised = alike_on rows work.raised (put work.raised v true) w.raised (put_alike work.raised v true (alike_cell rows work.raised v w.raised has));
  saved = saved_alike rows work v before has w;
})

-- a mark is taken away
pub mark_dropped : (marks : List (List Bool)) (v w : Visit) → HasCell marks v → is_marked (put marks v false) w ≡ true → (w ≢ v) × (is_marked marks w ≡ true)
mark_dropped marks v w has m = go (same_or_differs w v)
  where
    go : (w ≡ v) ⊎ (w ≢ v) → (w ≢ v) × (is_marked marks w ≡ true)
    go (inl e) = absurd (let z = ap (λ (u : Visit). is_marked (put marks v false) u) e in let k = cell_put marks v false false has in cc)
    go (inr ne) = (ne, sym (cell_other marks v w false false has ne) ∙ m)

-- a mark is set
pub mark_added : (marks : List (List Bool)) (v w : Visit) → HasCell marks v → is_marked (put marks v true) w ≡ true → (w ≡ v) ⊎ (is_marked marks w ≡ true)
mark_added marks v w has m = go (same_or_differs w v)
  where
    go : (w ≡ v) ⊎ (w ≢ v) → (w ≡ v) ⊎ (is_marked marks w ≡ true)
    go (inl e) = inl e
    go (inr ne) = inr (sym (cell_other marks v w true false has ne) ∙ m)

-- the former ticks are kept while a visit is raised
pub kept_noted : (base : Visit → ℕ) (rows : List (List ℕ)) (work : Work) (v : Visit) (tick : ℕ) → HasCell rows v → IsWorkFor rows work → IsKeptBy base rows work → IsKeptBy base (put rows v tick) (noted work v (tick_in rows v))
kept_noted base rows work v tick has w k = record { raised = raised; others = others }
  where
    has_raised : HasCell work.raised v
    has_raised = alike_cell rows work.raised v w.raised has

    has_saved : HasCell work.saved v
    has_saved = alike_cell rows work.saved v w.saved has

    saved_here : (b : Bool) → is_marked work.raised v ≡ b → tick_in (cond b work.saved (put work.saved v (tick_in rows v))) v ≡ base v
    saved_here true e = k.raised v e
    saved_here false e = cell_put work.saved v (tick_in rows v) 0 has_saved ∙ k.others v e

    saved_there : (u : Visit) → u ≢ v → (b : Bool) → tick_in (cond b work.saved (put work.saved v (tick_in rows v))) u ≡ tick_in work.saved u
    saved_there u ne true = refl
    saved_there u ne false = cell_other work.saved v u (tick_in rows v) 0 has_saved ne

    raised : (u : Visit) → is_marked (put work.raised v true) u ≡ true → tick_in (saved_with work v (tick_in rows v)) u ≡ base u
    raised u m = go (same_or_differs u v)
      where
        go : (u ≡ v) ⊎ (u ≢ v) → tick_in (saved_with work v (tick_in rows v)) u ≡ base u
        go (inl e) = subst (λ (t : Visit). tick_in (saved_with work v (tick_in rows v)) t ≡ base t) (sym e) (saved_here (is_marked work.raised v) refl)
        go (inr ne) = saved_there u ne (is_marked work.raised v) ∙ k.raised u (sym (cell_other work.raised v u true false has_raised ne) ∙ m)

    others : (u : Visit) → is_marked (put work.raised v true) u ≡ false → tick_in (put rows v tick) u ≡ base u
    others u m = go (same_or_differs u v)
      where
        go : (u ≡ v) ⊎ (u ≢ v) → tick_in (put rows v tick) u ≡ base u
        go (inl e) = absurd (let z = ap (λ (t : Visit). is_marked (put work.raised v true) t) e in let y = cell_put work.raised v true false has_raised in cc)
        go (inr ne) = cell_other rows v u tick 0 has ne ∙ k.others u (sym (cell_other work.raised v u true false has_raised ne) ∙ m)

-- a visit that was raised gets its former tick back
pub kept_back : (base : Visit → ℕ) (rows : List (List ℕ)) (work : Work) (v : Visit) → HasCell rows v → HasCell work.raised v → is_marked work.raised v ≡ true → IsKeptBy base rows work
    → IsKeptBy base (put rows v (tick_in work.saved v)) (record work { raised = put work.raised v false })
kept_back base rows work v has has_raised here k = record { raised = λ u m. k.raised u (mark_dropped work.raised v u has_raised m).1; others = others }
  where
    others : (u : Visit) → is_marked (put work.raised v false) u ≡ false → tick_in (put rows v (tick_in work.saved v)) u ≡ base u
    others u m = go (same_or_differs u v)
      where
        go : (u ≡ v) ⊎ (u ≢ v) → tick_in (put rows v (tick_in work.saved v)) u ≡ base u
        go (inl e) = subst (λ (t : Visit). tick_in (put rows v (tick_in work.saved v)) t ≡ base t) (sym e) (cell_put rows v (tick_in work.saved v) 0 has ∙ k.raised v here)
        go (inr ne) = cell_other rows v u (tick_in work.saved v) 0 has ne ∙ k.others u (sym (cell_other work.raised v u false false has_raised ne) ∙ m)
