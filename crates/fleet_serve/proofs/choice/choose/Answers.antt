use Rattle.fleet_serve.proofs.Choices.{heard_keeps}
use Rattle.fleet_serve.proofs.choice.choose.Goals as goal

pub choose_order-requires-clause-state : goal.choose_order-requires-clause-state
choose_order-requires-clause-state c =
    heard_keeps c.args.session.now.graph.now c.args.fleet.now c.in_ok-heard-in-Delay.heard c.args.report.now c.in-Delay.robot c.in-Delay.index c.in-Delay.extra c.in-Delay.tick c.in-Delay.is c.in_ok-heard-in-Delay.ensures c.requires.state c.requires.accepted c.requires.count
