use Rattle.std.proofs.Common.{ℕ, ◌≡◌, List, Bool, true, false, sym, ap, ◌∙◌, subst}
use Rattle.longest_path.specs.Cells.{HasCell, put, AreAlike}
use Rattle.longest_path.specs.Working.{IsWorkFor, IsKeptBy}
use Rattle.longest_path.proofs.Cells.{alike_on, alike_sym, alike_cell, put_alike, marked_cell}
use Rattle.longest_path.proofs.Working.{kept_back, work_on}
use Rattle.longest_path.proofs.work.Work.take_back.Goals as goal
use Rattle.fleet_base.specs.VisitRows.{tick_in}

pub loop-v-preserved : goal.loop-v-preserved
loop-v-preserved c =
    let rows = c.loop-v.rows in
    let work = c.loop-v.self in
    let i = c.loop-v.invariant in
    let v = c.in-Some.v in
    let here = c.in-Some.ensures.some in
    let has_raised : HasCell work.raised v = marked_cell work.raised v here in
    let has : HasCell rows v = alike_cell work.raised rows v (alike_sym rows work.raised i.room.raised) has_raised in
    let written : put rows v (tick_in work.saved v) ≡ c.set_in.new.self = ap (λ t. put rows v t) (sym c.tick_at-tick.ensures) ∙ sym c.set_in.ensures in
    let taken : put work.raised v false ≡ c.take.new.self = sym c.in-Some.ensures.rest in
    let alike : AreAlike rows c.set_in.new.self = subst (λ (r : List (List ℕ)). AreAlike rows r) written (put_alike rows v (tick_in work.saved v) has) in
    let marks : AreAlike rows c.take.new.self = subst (λ (m : List (List Bool)). AreAlike rows m) taken (alike_on rows work.raised (put work.raised v false) i.room.raised (put_alike work.raised v false has_raised)) in
    record {
      kept = λ base k.
          subst (λ (r : List (List ℕ)). IsKeptBy base r (record work { raised = c.take.new.self })) written
          (subst (λ (m : List (List Bool)). IsKeptBy base (put rows v (tick_in work.saved v)) (record work { raised = m })) taken
          (kept_back base rows work v has has_raised here (i.kept base k)));
      none = i.none;
      alike = alike_on c.args.rows.now rows c.set_in.new.self i.alike alike;
      room = work_on rows c.set_in.new.self (record work { raised = c.take.new.self }) alike (record { waiting = i.room.waiting; raised = marks; saved = i.room.saved });
    }

pub returns-clause-back : goal.returns-clause-back
returns-clause-back c = λ base k v. (c.loop-v.invariant.kept base (record { raised = k.raised; others = k.others })).others v (c.in_default.ensures.none v)
