use Rattle.fleet_core.proofs.Starting.{begun, begins_ready, begins_room, begins_first, begins_rules}
use Rattle.fleet_core.proofs.first.first_state_on.Goals as goal

pub kept_order_releases-requires-clause-state : goal.kept_order_releases-requires-clause-state
kept_order_releases-requires-clause-state c = begins_ready c.args.plan.now c.robots-sound.ensures.sound c.args.window c.requires.window c.args.graph.now c.set_window.new.self c.requires.graph (begun c.args.plan.now c.args.window c.in_ok-fleet.fleet c.set_window.new.self c.in_ok-fleet.ensures c.set_window.ensures)

pub release-requires : goal.release-requires
release-requires c =
    begins_room c.args.plan.now c.robots-sound.ensures.sound c.args.window c.requires.window c.args.graph.now c.set_window.new.self c.requires.graph (begun c.args.plan.now c.args.window c.in_ok-fleet.fleet c.set_window.new.self c.in_ok-fleet.ensures c.set_window.ensures) c.kept_order_releases.new.out.list c.list.result.now c.kept_order_releases.ensures.list c.list.ensures

pub returns-clause-first : goal.returns-clause-first
returns-clause-first c =
    begins_first c.args.plan.now c.robots-sound.ensures.sound c.args.window c.requires.window c.args.graph.now c.set_window.new.self c.requires.graph (begun c.args.plan.now c.args.window c.in_ok-fleet.fleet c.set_window.new.self c.in_ok-fleet.ensures c.set_window.ensures) c.kept_order_releases.new.out.list c.list.result.now c.release.new.fleet c.kept_order_releases.ensures.list c.list.ensures c.release.ensures

pub returns-clause-rules : goal.returns-clause-rules
returns-clause-rules c =
    begins_rules c.args.plan.now c.robots-sound.ensures.sound c.args.window c.requires.window c.args.graph.now c.set_window.new.self c.requires.graph (begun c.args.plan.now c.args.window c.in_ok-fleet.fleet c.set_window.new.self c.in_ok-fleet.ensures c.set_window.ensures) c.kept_order_releases.new.out.list c.list.result.now c.release.new.fleet c.kept_order_releases.ensures.list c.list.ensures c.release.ensures
