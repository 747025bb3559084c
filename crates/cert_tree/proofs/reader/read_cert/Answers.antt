use Rattle.std.proofs.Common.{◌≡◌, length, ◌∙◌, arith}
use Rattle.std.proofs.lemmas.Bool.Decides.{nat_tests}
use Rattle.cert_tree.proofs.SameNodes.{one_certificate}
use Rattle.cert_tree.proofs.FaultLines.{fault_is, reads_not, malformed_here, reads_all}
use Rattle.cert_tree.proofs.reader.read_cert.Goals as goal

pub returns-in-Err-clause-only : goal.returns-in-Err-clause-only
returns-in-Err-clause-only c =
    let here = malformed_here c.args.lines.now c.loop-line.rest.now c.in-Some.after.now c.in-Some.line.now c.loop-line.nodes.items c.loop-line.above c.in-Err.fault c.loop-line.invariant c.in-Some.ensures.lines c.in-Err.ensures.malformed in
    rw c.at.ensures (reads_not c.args.lines.now c.loop-line.above c.in-Err.fault here)

pub returns-in-Err-clause-fault : goal.returns-in-Err-clause-fault
returns-in-Err-clause-fault c =
    let here = malformed_here c.args.lines.now c.loop-line.rest.now c.in-Some.after.now c.in-Some.line.now c.loop-line.nodes.items c.loop-line.above c.in-Err.fault c.loop-line.invariant c.in-Some.ensures.lines c.in-Err.ensures.malformed in
    rw c.at.ensures (fault_is c.args.lines.now c.loop-line.above c.in-Err.fault here)

pub returns-then-is_empty-clause-only : goal.returns-then-is_empty-clause-only
returns-then-is_empty-clause-only c =
    let none : length c.loop-line.rest.now ≡ 0 = grind (arith, nat_tests) in
    let all = reads_all c.args.lines.now c.loop-line.rest.now c.loop-line.nodes.items c.loop-line.above c.loop-line.invariant c.in_default.ensures.none none in
    λ nodes is. c.from_vec.ensures ∙ one_certificate _ c.loop-line.nodes.items nodes all.lines is.lines
