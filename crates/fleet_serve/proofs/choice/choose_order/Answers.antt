use Rattle.std.proofs.Common.{List, ap, ◌∙◌}
use Rattle.fleet_base.specs.declared.order.PairId.{PairId}
use Rattle.fleet_base.specs.Bytes.{text_of_lines}
use Rattle.plan_graph.specs.Views.{order_in}
use Rattle.fleet_serve.specs.Chosen.{choice_lines}
use Rattle.fleet_serve.proofs.Choices.{found_there, found_tells}
use Rattle.fleet_serve.proofs.choice.choose_order.Goals as goal

pub returns-clause-there : goal.returns-clause-there
returns-clause-there c = found_there c.args.session.now.graph.now c.args.fleet.now _ c.in_ok-switched.switched c.in_ok-switched.ensures.differ

pub returns-clause-tells : goal.returns-clause-tells
returns-clause-tells c =
    let f = c.in_ok-found.found in
    let quiet = c.args.session.now.settings.now.quiet in
    found_tells c.args.session.now.graph.now c.args.fleet.now (order_in f.view) c.in_ok-switched.switched c.requires.state c.in_ok-found.ensures.sound c.in_ok-found.ensures.closed c.in_ok-switched.ensures.differ c.args.session.now.settings.now f.cost f.outcome c.in_ok-text.text
    c.in_ok-found.ensures.choice (c.in_ok-text.ensures ∙ ap (λ (qs : List PairId). text_of_lines (choice_lines quiet qs f.cost f.outcome)) c.as_slice.ensures)
