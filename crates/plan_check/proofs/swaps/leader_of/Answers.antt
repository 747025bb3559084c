use Rattle.std.proofs.Common.{◌≡◌, ◌-◌, sym, ◌∙◌, subst, true, false}
use Rattle.fleet_base.specs.declared.geometry.Cell.{Cell}
use Rattle.fleet_base.specs.Grid.{same_cell}
use Rattle.fleet_base.specs.Plan.{cell_at}
use Rattle.fleet_base.proofs.PairLaws.{same_cell_true, same_cell-refl}
use Rattle.plan_check.proofs.Exchanges.{stays_alone, moves_after}
use Rattle.plan_check.proofs.swaps.leader_of.Goals as goal

pub returns-then-eq : goal.returns-then-eq
returns-then-eq c =
    let same = same_cell_true c.cell_at-to.result c.cell_at.result (sym c.eq.ensures ∙ c.if-eq.true) in
    stays_alone c.args.raw.now c.args.tick c.requires.tick c.args.robot c.requires.robot c.cell_at-to.result c.cell_at-to.ensures (same ∙ c.cell_at.ensures)

pub returns : goal.returns
returns c =
    let moves : c.cell_at-to.result ≡ cell_at c.args.raw.now c.args.robot (c.args.tick - 1) → ⊥ =
    λ s.
    let e : c.cell_at-to.result ≡ c.cell_at.result = s ∙ sym c.cell_at.ensures in
    let k : same_cell c.cell_at-to.result c.cell_at.result ≡ true = subst (λ (w : Cell). same_cell c.cell_at-to.result w ≡ true) e (same_cell-refl c.cell_at-to.result) in
    let f : same_cell c.cell_at-to.result c.cell_at.result ≡ false = sym c.eq.ensures ∙ c.if-eq.false in
    cc
    in
    moves_after c.args.raw.now c.args.tick c.requires.tick c.args.robot c.requires.robot c.args.former.now c.requires.former c.cell_at-to.result c.cell_at-to.ensures moves c.copied.result (c.copied.ensures ∙ c.get.ensures.value)
