use Rattle.std.proofs.Common.{◌≡◌, drop, length}
use Rattle.fleet_base.specs.Order.{turned}
use Rattle.fleet_core.proofs.applying.turn.Given as goal

abbrev pub invariant-loop-q : goal.invariant-loop-q
invariant-loop-q l =
    (turned l.fleet.sides (drop l.q-index l.switched) ≡ turned l.initial.fleet.sides l.switched)
    × (l.fleet ≡ record l.initial.fleet { sides = l.fleet.sides })
    × (length l.fleet.sides ≡ length l.initial.fleet.sides)
