use Rattle.fleet_core.proofs.InPlace.{advance_ready, advance_room, advance_step, advance_keeps}
use Rattle.fleet_core.proofs.advancing.advance.Goals as goal

pub kept_order_releases-requires-clause-state : goal.kept_order_releases-requires-clause-state
kept_order_releases-requires-clause-state c = advance_ready c.args.graph.now c.args.fleet.now c.args.report.now c.requires.state c.requires.accepted c.requires.count c.hear.new.fleet c.hear.ensures

pub release-requires : goal.release-requires
release-requires c =
    advance_room c.args.graph.now c.args.fleet.now c.args.report.now c.requires.state c.requires.accepted c.requires.count c.hear.new.fleet c.hear.ensures
    c.kept_order_releases.new.out.list c.list.result.now c.now-tick.result c.kept_order_releases.ensures.list c.list.ensures c.now-tick.ensures

pub returns-clause-step : goal.returns-clause-step
returns-clause-step c =
    advance_step c.args.graph.now c.args.fleet.now c.args.report.now c.requires.state c.requires.accepted c.requires.count c.hear.new.fleet c.hear.ensures
    c.kept_order_releases.new.out.list c.list.result.now c.now-tick.result c.kept_order_releases.ensures.list c.list.ensures c.now-tick.ensures c.release.new.fleet c.release.ensures

pub returns-clause-rules : goal.returns-clause-rules
returns-clause-rules c =
    advance_keeps c.args.graph.now c.args.fleet.now c.args.report.now c.requires.state c.requires.accepted c.requires.count c.hear.new.fleet c.hear.ensures
    c.kept_order_releases.new.out.list c.list.result.now c.now-tick.result c.kept_order_releases.ensures.list c.list.ensures c.now-tick.ensures c.release.new.fleet c.release.ensures
