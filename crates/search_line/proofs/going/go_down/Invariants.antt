use Rattle.std.proofs.Common.{ℕ, vec_len}
use Rattle.search_line.specs.Going.{AreThoseOf, LeadUp}
use Rattle.search_nodes.specs.Making.{KeepsBest}
use Rattle.search_line.proofs.going.go_down.Given as goal

abbrev pub invariant-loop-number : goal.invariant-loop-number
invariant-loop-number l = record {
  there : (number above : ℕ) → LeadUp l.nodes number l.fn.path.items above → AreThoseOf l.nodes above l.fn.maker.decisions → (at : ℕ) × AreThoseOf l.nodes at l.maker.decisions × LeadUp l.nodes number l.path.items at;
  best : KeepsBest l.fn.maker l.maker;
}

abbrev pub decreases-loop-number : goal.decreases-loop-number
decreases-loop-number l = vec_len l.path
