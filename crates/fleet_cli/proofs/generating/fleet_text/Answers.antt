use Rattle.std.proofs.Common.{◌≡◌, ◌∙◌, sym, ap, subst, arith, Bool}
use Rattle.fleet_base.specs.Grid.{OccupancyGrid}
use Rattle.map_text.specs.MapText.{map_text_of}
use Rattle.fleet_cli.specs.Generating.{IsFleetText}
use Rattle.fleet_cli.proofs.Writable.{accepted_writable, if_ok_so}
use Rattle.fleet_cli.proofs.generating.fleet_text.Goals as goal

pub path_text-requires-clause-writable : goal.path_text-requires-clause-writable
path_text-requires-clause-writable c =
    let height : c.in_ok-grid.grid.height ≡ 32 = ap (λ (g : OccupancyGrid). g.height) c.in_ok-grid.ensures.grid in
    let width : c.in_ok-grid.grid.width ≡ 32 = ap (λ (g : OccupancyGrid). g.width) c.in_ok-grid.ensures.grid in
    accepted_writable c.in_ok-grid.grid c.in_ok-grid.paths (omega (arith, height)) (omega (arith, width)) c.in_ok-grid.ensures.accepted

pub returns : goal.returns
returns c =
    if_ok_so c.write_map.result (λ text e. subst (λ (plan : Bool). IsFleetText c.args.seed plan text) (sym c.if-plan.false) (e ∙ ap (λ (g : OccupancyGrid). map_text_of g) c.in_ok-grid.ensures.grid)) c.write_map.ensures
