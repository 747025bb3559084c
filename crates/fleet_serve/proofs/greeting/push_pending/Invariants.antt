use Rattle.std.proofs.Common.{◌≡◌, ◌++◌, ◌+◌}
use Rattle.fleet_serve.specs.Lines.{release_lines}
use Rattle.fleet_serve.proofs.Texts.{pending_to}
use Rattle.fleet_serve.proofs.greeting.push_pending.Given as goal
use Rattle.fleet_base.specs.Bytes.{text_of_lines}

abbrev pub invariant-loop-index : goal.invariant-loop-index
invariant-loop-index l = l.text ≡ l.initial.text ++ text_of_lines (release_lines l.plan (pending_to l.fleet l.robot (l.index + 1)))
