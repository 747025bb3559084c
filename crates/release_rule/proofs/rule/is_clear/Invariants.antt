use Rattle.release_rule.proofs.Pairs.{ArePassed}
use Rattle.release_rule.proofs.rule.is_clear.Given as goal

abbrev pub invariant-loop-q : goal.invariant-loop-q
invariant-loop-q l = ArePassed l.graph l.fleet l.visit l.q-index
