use Rattle.std.proofs.Common.{ap, sym, ◌∙◌}
use Rattle.std.specs.Option.{option_copied}
use Rattle.fleet_core.proofs.Switching.{turned_fleet, none_switched, all_switched, cycle_refused}
use Rattle.fleet_core.proofs.preparing.switch.Goals as goal

pub returns-in_default : goal.returns-in_default
returns-in_default c = none_switched c.args.graph.now c.args.fleet.now c.args.switched.now c.requires.fleet c.requires.sound (sym c.first.ensures.value ∙ ap option_copied c.in_default.is)

pub order_of-requires : goal.order_of-requires
order_of-requires c = turned_fleet c.args.graph.now c.args.fleet.now c.turn.new.fleet c.args.switched.now c.requires.fleet c.turn.ensures

pub returns-in-Order : goal.returns-in-Order
returns-in-Order c =
    all_switched c.args.graph.now c.args.fleet.now c.args.switched.now c.requires.fleet c.requires.sound c.turn.new.fleet c.turn.ensures c.in_default-first_closed.ensures.«open» c.in_ok-order_of.field-0 c.in_ok-order_of.ensures c.in-Order.is

pub returns-in-Cycle : goal.returns-in-Cycle
returns-in-Cycle c =
    cycle_refused c.args.graph.now c.args.fleet.now c.args.switched.now c.requires.fleet c.requires.sound c.turn.new.fleet c.turn.ensures c.in_default-first_closed.ensures.«open» c.in_ok-order_of.field-0 c.in-Some.first.now c.refused-in-Cycle.result c.in_ok-order_of.ensures c.in-Cycle.is
    (sym c.first.ensures.value ∙ ap option_copied c.in-Some.is) c.refused-in-Cycle.ensures
