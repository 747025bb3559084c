use Rattle.std.proofs.Common.{◌≡◌, take}
use Rattle.plan_text.proofs.line.common_len.Given as goal

abbrev pub invariant-loop-n : goal.invariant-loop-n
invariant-loop-n l = take l.n l.a ≡ take l.n l.b
