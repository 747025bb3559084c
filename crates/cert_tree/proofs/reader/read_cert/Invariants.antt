-- The nodes so far have the lines above the rest.
use Rattle.std.proofs.Common.{length}
use Rattle.cert_tree.proofs.FaultLines.{HasCome}
use Rattle.cert_tree.proofs.reader.read_cert.Given as goal

abbrev pub invariant-loop-line : goal.invariant-loop-line
invariant-loop-line l = HasCome l.lines l.nodes.items l.rest l.above

abbrev pub decreases-loop-line : goal.decreases-loop-line
decreases-loop-line l = length l.rest
