use Rattle.std.proofs.Common.{ℕ, ◌≤◌, [], length, refl, sym, ap, subst}
use Rattle.fleet_base.specs.Order.{graph_of}
use Rattle.fleet_base.specs.Release.{IsFirstStateAhead}
use Rattle.station_api.specs.declared.station.DiskSide.{DiskSide}
use Rattle.station_api.specs.Scene.{side_of, other_of}
use Rattle.fleet_journal.specs.Standing.{Standing}
use Rattle.fleet_recovery.specs.Papers.{new_header}
use Rattle.fleet_recovery.proofs.OneState.{first_window}
use Rattle.turn_trials.proofs.ahead.begun.Goals as goal

pub returns-in-Ok-clause-rests : goal.returns-in-Ok-clause-rests
returns-in-Ok-clause-rests g c told =
    let graph = graph_of c.args.plan.now in
    let fleet = c.in_ok-fleet.fleet in
    let first = c.in_ok-fleet.ensures.first in
    record {
      kept = c.in-Ok.ensures.kept told (c.requires.kept told);
      header = new_header c.args.papers.now.map.now c.args.papers.now.plan.now;
      entries = [];
      stands = c.in-Ok.ensures.creates told _ c.in_ok-header.ensures.header;
      means = record {
        of_papers = refl;
        begun = fleet;
        begins = subst (λ (n : ℕ). IsFirstStateAhead graph n fleet) (sym (first_window graph c.args.window fleet first)) first;
        leads = refl;
      };
      beside = subst (λ (d : DiskSide). length (side_of (other_of d) (g.T.Station.clock c.create.new.station).seen) ≤ 1) (sym (ap (λ (j : Standing). j.side) c.in-Ok.ensures.journal)) (c.in-Ok.ensures.beside told);
    }
