use Rattle.std.proofs.Common.{◌≡◌, Some, [], take}
use Rattle.plan_text.specs.declared.place.Place.TheVariants.{Start}
use Rattle.plan_text.proofs.Runs.{run}
use Rattle.plan_text.proofs.line.read_path.Given as goal

abbrev pub invariant-loop-n : goal.invariant-loop-n
invariant-loop-n l = run Start [] (take l.n l.text) ≡ Some (l.place, l.path.items)
