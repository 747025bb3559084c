use Rattle.cert_tree.proofs.LineKinds.{nothing_said}
use Rattle.cert_tree.proofs.line.read_line.Goals as goal

pub returns-in-Some-clause-malformed : goal.returns-in-Some-clause-malformed
returns-in-Some-clause-malformed c = rw c.in-Some.ensures.some c.read_branch.ensures.malformed

pub returns-in-Some-behind-2-clause-malformed : goal.returns-in-Some-behind-2-clause-malformed
returns-in-Some-behind-2-clause-malformed c = rw c.in-Some-behind-2.ensures.some c.read_cyclic.ensures.malformed

pub returns-in_default-behind-5-clause-malformed : goal.returns-in_default-behind-5-clause-malformed
returns-in_default-behind-5-clause-malformed c =
    nothing_said c.args.line.now c.in_default.ensures.none c.in_default-behind.ensures.none c.in_default-behind-2.ensures.none c.in_default-behind-3.ensures.none c.in_default-behind-4.ensures.none c.in_default-behind-5.ensures.none
