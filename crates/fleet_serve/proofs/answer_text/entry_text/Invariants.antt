use Rattle.std.proofs.Common.{◌≡◌, ◌++◌, take}
use Rattle.fleet_serve.specs.Lines.{release_lines}
use Rattle.fleet_serve.proofs.answer_text.entry_text.Given as goal
use Rattle.fleet_base.specs.Bytes.{text_of_lines}

abbrev pub invariant-loop-visit : goal.invariant-loop-visit
invariant-loop-visit l = l.text ≡ l.fn.told ++ text_of_lines (release_lines l.plan (take l.visit-index l.releases))
