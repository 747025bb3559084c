use Rattle.std.proofs.Common.{sym, ◌∙◌, arith}
use Rattle.fleet_core.proofs.Switching.{has_sides}
use Rattle.plan_scenes.proofs.states.view_of.Goals as goal

pub returns-clause-sides : goal.returns-clause-sides
returns-clause-sides c =
    has_sides c.loop-number.view.sides c.args.fleet.now.sides (c.loop-number.invariant.sides ∙ sym c.requires.sides)
    (λ q h. c.loop-number.invariant.taken q (omega (arith, h, c.loop-number-test.false, c.pair_count-number-end.ensures, c.requires.sides)))
