use Rattle.std.proofs.Common.{◌≡◌, drop}
use Rattle.search_line.proofs.going.take_back.Given as goal

abbrev pub invariant-loop-gone : goal.invariant-loop-gone
invariant-loop-gone l = l.maker ≡ record l.fn.maker { decisions = drop l._gone l.fn.maker.decisions }
