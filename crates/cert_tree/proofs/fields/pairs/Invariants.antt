-- The pairs so far stand in the text behind their count, and the rest behind them.
use Rattle.std.proofs.Common.{length}
use Rattle.cert_tree.proofs.PairFields.{HasRead}
use Rattle.cert_tree.proofs.fields.pairs.Given as goal

abbrev pub invariant-loop-rest : goal.invariant-loop-rest
invariant-loop-rest l = HasRead l.text l.count l.pairs l.rest

abbrev pub decreases-loop-rest : goal.decreases-loop-rest
decreases-loop-rest l = length l.rest
