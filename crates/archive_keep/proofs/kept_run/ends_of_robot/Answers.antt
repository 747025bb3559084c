use Rattle.std.proofs.Common.{◌≡◌, ◌∷◌, ◌++◌, ◌∙◌, List, [], map, get_or, length, All, take, sym, ap, subst, arith, refl}
use Rattle.std.proofs.lemmas.List.{take_all, length-append}
use Rattle.std.proofs.lemmas.List.Elements.{All-push}
use Rattle.archive_keep.specs.declared.kept_run.KeptRun.{KeptRun}
use Rattle.archive_keep.specs.declared.kept_run.NamedEnd.{NamedEnd}
use Rattle.archive_keep.specs.declared.ends.RobotEnd.{RobotEnd}
use Rattle.archive_keep.specs.Rows.{KeptRow, IsEnd, IsStorable, rows_with}
use Rattle.archive_keep.specs.Memory.{table_of}
use Rattle.archive_keep.specs.Named.{row_of}
use Rattle.archive_keep.proofs.Robots.{with_row, without_row}
use Rattle.archive_keep.proofs.kept_run.ends_of_robot.Goals as goal
use Rattle.archive_keep.proofs.kept_run.ends_of_robot.Goals.{in-Some+in_ok-push, in_default}

pub returns : goal.returns
returns c =
    let all = take_all c.loop-kept.kept-index c.args.runs.now (omega (arith, c.loop-kept-test.false)) in
    record {
      rows = subst (λ (l : List KeptRun). map (row_of c.args.robot) c.loop-kept.named.items ≡ rows_with c.args.robot (table_of l)) all c.loop-kept.invariant.0;
      few = omega (arith, c.loop-kept.invariant.1, c.loop-kept.auto.kept-index-end);
      within = c.loop-kept.invariant.2;
    }

pub loop-kept-init : goal.loop-kept-init
loop-kept-init c = rw c.new-named.ensures.items (refl, omega arith, λ k d h. absurd (omega (arith, h)))

pub loop-kept-preserved : goal.loop-kept-preserved
loop-kept-preserved c = elim c.match-end_of.branch [
  | in-Some+in_ok-push w ↦
      let robot = c.args.robot in
      let runs = c.args.runs.now in
      let i = c.loop-kept.kept-index in
      let kept : KeptRun = c.kept-item.result in
      let ticks : RobotEnd = w.in-Some.ticks in
      let named = c.loop-kept.named.items in
      let there = w.in-Some.ensures.some in
      let storable : IsStorable kept.ends = subst (λ (k : KeptRun). IsStorable k.ends) (sym c.kept-item.is) (c.requires i kept c.loop-kept-test.true) in
      let end : NamedEnd = record { run = w.as_slice.result; ticks = ticks } in
      let is-row : row_of robot end ≡ record { run = kept.run; robot = robot; ticks = get_or kept.ends robot ticks } =
      ap (λ m. let row : KeptRow = record { run = m; robot = robot; ticks = ticks } in row) w.as_slice.ensures ∙ ap (λ t. let row : KeptRow = record { run = kept.run; robot = robot; ticks = t } in row) there.1 in
      rw (w.named-is, w.in_ok-push.ensures.items) (
        with_row robot runs i kept ticks named end c.loop-kept-test.true c.kept-item.is there.0 c.loop-kept.invariant.0 is-row,
        omega (arith, length-append named (end ∷ []), c.loop-kept.invariant.1),
        All-push (λ (e : NamedEnd). IsEnd e.ticks) named end c.loop-kept.invariant.2 (subst IsEnd (sym there.1) (storable.within robot ticks there.0)),
      )
  | in_default w ↦
      rw w.named-is (
        without_row c.args.robot c.args.runs.now c.loop-kept.kept-index c.kept-item.result (map (row_of c.args.robot) c.loop-kept.named.items) c.loop-kept-test.true c.kept-item.is w.in_default.ensures.none c.loop-kept.invariant.0,
        omega (arith, c.loop-kept.invariant.1),
        c.loop-kept.invariant.2,
      )
]
