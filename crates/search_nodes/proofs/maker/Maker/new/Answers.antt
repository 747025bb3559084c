use Rattle.std.proofs.Common.{sym, subst, ap}
use Rattle.fleet_base.specs.Order.{Graph}
use Rattle.fleet_base.specs.Rules.{IsFleetState}
use Rattle.longest_path.specs.Deciding.{Deciding}
use Rattle.longest_path.specs.Ticks.{IsKeptFor}
use Rattle.search_nodes.specs.Rooms.{SearchRoom}
use Rattle.search_nodes.proofs.Views.{oriented}
use Rattle.search_nodes.proofs.Makers.{first_best}
use Rattle.search_nodes.proofs.maker.Maker.new.Goals as goal

pub earliest-never_cyclic-requires-clause-state : goal.earliest-never_cyclic-requires-clause-state
earliest-never_cyclic-requires-clause-state c = subst (λ (g : Graph). IsFleetState g c.args.fleet.now) (sym c.in_ok-best.ensures.view.graph) c.requires.state

pub earliest-never_cyclic-requires-clause-room : goal.earliest-never_cyclic-requires-clause-room
earliest-never_cyclic-requires-clause-room c =
    subst (λ (r : SearchRoom). IsKeptFor c.in_ok-best.best.graph r.ticks) (sym c.room.view_is) (subst (λ (g : Graph). IsKeptFor g c.args.room.now.ticks) (sym c.in_ok-best.ensures.view.graph) c.requires.room.ticks)

pub invariant_of-result : goal.invariant_of-result
invariant_of-result c =
    let g = c.args.graph.now in
    let x = c.args.fleet.now in
    record {
      rules = c.requires.state;
      live_graph = ap (λ (d : Deciding). d.graph) c.in_ok-live.ensures;
      live_state = ap (λ (d : Deciding). d.state) c.in_ok-live.ensures;
      candidate = oriented g c.in_ok-candidate.candidate c.in_ok-candidate.ensures;
      best_view = c.in_ok-best.ensures.view;
      best = first_best g x c.in_ok-best.best c.earliest-never_cyclic.new.ticks c.end_sum-cost.result c.earliest-never_cyclic.result c.requires.state c.in_ok-best.ensures.view c.in_ok-best.ensures.order
          c.earliest-never_cyclic.ensures.least c.earliest-never_cyclic.ensures.cyclic c.earliest-never_cyclic.ensures.room c.end_sum-cost.ensures.sum;
    }
