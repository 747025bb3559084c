-- The nodes so far are appended, and their numbers fit.
use Rattle.std.proofs.Common.{◌≡◌, ◌++◌, take}
use Rattle.std.specs.Prelude.{All}
use Rattle.cert_tree.specs.CertText.{cert_text, HasNumbers}
use Rattle.cert_tree.proofs.writer.write_cert.Given as goal

abbrev pub invariant-loop-node : goal.invariant-loop-node
invariant-loop-node l = (l.out ≡ l.fn.out ++ cert_text (take l.node-index l.cert)) × All HasNumbers (take l.node-index l.cert)
