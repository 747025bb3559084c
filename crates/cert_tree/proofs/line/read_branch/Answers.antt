use Rattle.std.proofs.lemmas.Bool.Decides.{nat_tests}
use Rattle.std.proofs.Common.{arith}
use Rattle.cert_tree.proofs.OtherLines.{no_branch, no_branch_end}
use Rattle.cert_tree.proofs.line.read_branch.Goals as goal

pub returns-in_default-clause-malformed : goal.returns-in_default-clause-malformed
returns-in_default-clause-malformed c = no_branch c.args.text.now c.in_default.ensures.none

pub returns-else-is_empty-clause-malformed : goal.returns-else-is_empty-clause-malformed
returns-else-is_empty-clause-malformed c = no_branch_end c.args.text.now c.in-Some.rest.now c.in-Some.pair c.in-Some.ensures.some (grind (arith, nat_tests))
