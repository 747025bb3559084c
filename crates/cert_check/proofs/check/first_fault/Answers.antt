use Rattle.std.proofs.Common.{List, ap, sym, ◌∙◌, subst}
use Rattle.fleet_base.specs.declared.order.PairId.{PairId}
use Rattle.edge_groups.specs.Mates.{AreAllMates}
use Rattle.cert_check.specs.Rooms.{Room}
use Rattle.cert_check.proofs.check.first_fault.Goals as goal

pub go_through-requires-clause-work : goal.go_through-requires-clause-work
go_through-requires-clause-work c =
    let ticks = ap (λ (r : Room). r.visits) c.scratch.view_is ∙ c.requires.room.visits in
    let sides = ap (λ (r : Room). r.pairs) c.scratch.view_is ∙ c.requires.room.pairs in
    record {
      sides = sides;
      steps = c.scratch.invariant.0;
      ticks = ticks;
      sums = c.scratch.invariant.1 ∙ ticks;
      groups = subst (λ (m : List (List PairId)). AreAllMates c.args.graph.now m) (sym (ap (λ (r : Room). r.mates) c.scratch.view_is)) c.requires.room.mates;
      taken = c.scratch.invariant.2 ∙ sides;
    }
