use Rattle.std.proofs.Common.{List, sym, subst, ap, ◌∙◌, arith}
use Rattle.std.specs.Prelude.{All}
use Rattle.plan_graph.specs.Views.{order_in}
use Rattle.cert_tree.specs.declared.node.Node.{Node}
use Rattle.cert_tree.specs.CertText.{IsWritten}
use Rattle.cert_tree.specs.Preorder.{branches_in}
use Rattle.order_choice.specs.Choices.{cert_of}
use Rattle.bound_search.specs.UnderWay.{outcome_of}
use Rattle.bound_search.proofs.Ends.{chosen, printable, asked_twice, cert_of_outcome, over_kept, answered, keeps_closed, spent_within}
use Rattle.bound_search.proofs.searching.search.Goals as goal

pub returns-clause-closed : goal.returns-clause-closed
returns-clause-closed c =
    let m = c.certificate.new.self.maker in
    keeps_closed c.args.graph.now c.args.fleet.now m c.finish-view.result.0 (c.in_ok-cert.ensures.best.graph ∙ c.in_ok-left.ensures.same.graph ∙ c.in_ok-search.ensures.graph) (c.in_ok-cert.ensures.best.state ∙ c.in_ok-left.ensures.same.state ∙ c.in_ok-search.ensures.state) c.finish-view.ensures.order
    c.cost-cost.ensures.best.closed

pub returns-clause-choice : goal.returns-clause-choice
returns-clause-choice c =
    let s = c.run.new.self in
    let t = c.certificate.new.self in
    let e = c.in_ok-cert.ensures in
    let left = c.in_ok-left.left in
    let over = over_kept s.maker t.maker s.line t.line s.expanded t.expanded c.args.budget left e.best e.line e.expanded c.in_ok-left.ensures.over in
    answered c.args.graph.now c.args.fleet.now t.maker c.args.budget c.cost-cost.result c.finish-view.result.0 (outcome_of c.in_ok-cert.cert left) c.outcome.result (e.best.graph ∙ c.in_ok-left.ensures.same.graph ∙ c.in_ok-search.ensures.graph)
    (e.best.state ∙ c.in_ok-left.ensures.same.state ∙ c.in_ok-search.ensures.state) c.finish-view.ensures.order c.cost-cost.ensures.cost c.outcome.ensures (chosen t.maker t.line t.place t.expanded c.args.budget c.in_ok-cert.cert left e.under_way over e.cert)

pub returns-clause-written : goal.returns-clause-written
returns-clause-written c =
    let t = c.certificate.new.self in
    let e = c.in_ok-cert.ensures in
    subst (λ (nodes : List Node). All IsWritten nodes) (sym (ap cert_of c.outcome.ensures ∙ cert_of_outcome c.in_ok-cert.cert c.in_ok-left.left)) (printable t.maker t.line t.place t.expanded c.in_ok-cert.cert e.under_way e.cert)

pub returns-clause-within : goal.returns-clause-within
returns-clause-within c = λ cert least groups is are. spent_within c.args.graph.now c.args.fleet.now (order_in c.finish-view.result.0) c.args.budget c.cost-cost.result least c.outcome.result cert groups (returns-clause-choice c) is are

pub returns-clause-asked : goal.returns-clause-asked
returns-clause-asked c =
    let t = c.certificate.new.self in
    let e = c.in_ok-cert.ensures in
    let twice = asked_twice t.maker t.line t.place t.expanded c.in_ok-cert.cert e.under_way e.cert in
    let same = ap branches_in (ap cert_of c.outcome.ensures ∙ cert_of_outcome c.in_ok-cert.cert c.in_ok-left.left) in
    omega (arith, twice, same, c.finish-view.ensures.asked)
