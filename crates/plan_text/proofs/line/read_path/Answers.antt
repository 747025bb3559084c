use Rattle.std.proofs.Common.{◌≡◌, ◌+◌, Some, [], take, sym, ◌∙◌, ap, arith, ◌++◌, ◌∷◌}
use Rattle.std.specs.Prelude.{option_and_then}
use Rattle.std.proofs.lemmas.Grind.{common_steps}
use Rattle.plan_text.specs.declared.place.Place.TheVariants.{Start, Closed}
use Rattle.plan_text.proofs.Runs.{run, with_cell, with_cell_other}
use Rattle.plan_text.proofs.Paths.{run_more, run_whole, ended, unended, stopped}
use Rattle.plan_text.proofs.line.read_path.Goals as goal
use Rattle.plan_text.proofs.line.read_path.Goals.{in-Closed+else-is_err, in_default}

pub returns-in-None-clause-stop : goal.returns-in-None-clause-stop
returns-in-None-clause-stop c =
    stopped c.args.text.now c.loop-n.n c.loop-n.place c.loop-n.path.items c.loop-n-test.true c.loop-n.invariant (sym c.after.ensures ∙ c.in-None.is)

pub loop-n-preserved : goal.loop-n-preserved
loop-n-preserved c =
    let to = sym c.after.ensures ∙ c.in-Some.is in
    let e : run Start [] (take (c.loop-n.n + 1) c.args.text.now) ≡ Some (c.in-Some.next, with_cell c.in-Some.next c.loop-n.path.items) =
    run_more c.args.text.now c.loop-n.n c.loop-n.place c.loop-n.path.items c.loop-n-test.true c.loop-n.invariant ∙ ap (option_and_then (λ q. Some (q, with_cell q c.loop-n.path.items))) to in
    elim c.match-place.branch [
      | in-Closed+else-is_err w ↦ let pushed : w.push.new.self.items ≡ c.loop-n.path.items ++ w.in-Closed.cell ∷ [] = grind (arith, common_steps) in
          rw (w.path-is, w.place-is) (e ∙ ap (λ q. Some (q, with_cell q c.loop-n.path.items)) w.in-Closed.is ∙ ap (λ cs. Some (Closed w.in-Closed.cell, cs)) (sym pushed))
      | in_default w ↦ rw (w.path-is, w.place-is) (e ∙ ap (λ cs. Some (c.in-Some.next, cs)) (with_cell_other c.in-Some.next c.loop-n.path.items w.in_default.not-Closed))
    ]

pub returns-then-is_end-clause-read : goal.returns-then-is_end-clause-read
returns-then-is_end-clause-read c =
    ended c.args.text.now c.loop-n.place c.loop-n.path.items (run_whole c.args.text.now c.loop-n.n c.loop-n.place c.loop-n.path.items c.loop-n-test.false c.loop-n.invariant) (sym c.is_end.ensures ∙ c.if-is_end.true)

pub returns-else-is_end-clause-stop : goal.returns-else-is_end-clause-stop
returns-else-is_end-clause-stop c =
    unended c.args.text.now c.loop-n.place c.loop-n.path.items (run_whole c.args.text.now c.loop-n.n c.loop-n.place c.loop-n.path.items c.loop-n-test.false c.loop-n.invariant) (sym c.is_end.ensures ∙ c.if-is_end.false)
