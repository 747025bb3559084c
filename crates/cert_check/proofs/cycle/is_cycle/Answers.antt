use Rattle.std.proofs.Common.{sym, ◌∙◌, arith}
use Rattle.std.proofs.lemmas.Bool.{false≢true}
use Rattle.std.proofs.lemmas.Bool.Decides.{nat_tests}
use Rattle.cert_check.specs.Sides.{order_by}
use Rattle.cert_check.proofs.CycleLaws.{no_start, start, step, closes}
use Rattle.cert_check.proofs.cycle.is_cycle.Goals as goal

pub returns-in_default : goal.returns-in_default
returns-in_default c =
    (λ h. absurd (false≢true h), λ k. absurd (no_start c.args.graph.now (order_by c.args.graph.now c.args.fleet.now c.args.sides.now) c.args.cycle.now (sym c.find_edge.ensures.value ∙ c.in_default.is) k))

pub loop-place-init : goal.loop-place-init
loop-place-init c = start c.args.graph.now (order_by c.args.graph.now c.args.fleet.now c.args.sides.now) c.args.cycle.now c.in-Some.first (sym c.find_edge.ensures.value ∙ c.in-Some.is) (grind (arith, nat_tests))

pub loop-place-preserved : goal.loop-place-preserved
loop-place-preserved c =
    step c.args.graph.now (order_by c.args.graph.now c.args.fleet.now c.args.sides.now) c.args.cycle.now c.loop-place.place c.loop-place.last c.in-Some-find_edge.next c.loop-place.invariant c.loop-place-test.true (sym c.find_edge-in-loop-place.ensures.value ∙ c.in-Some-find_edge.is) c.in-Some-find_edge.ensures.tail.robot (sym c.leads_on.ensures ∙ c.if-not-leads_on.false)

pub returns : goal.returns
returns c =
    rw c.leads_on-2.ensures
    (closes c.args.graph.now (order_by c.args.graph.now c.args.fleet.now c.args.sides.now) c.args.cycle.now c.loop-place.place c.loop-place.last c.in-Some.first c.loop-place.invariant c.loop-place-test.false (sym c.find_edge.ensures.value ∙ c.in-Some.is) c.in-Some.ensures.tail.robot)
