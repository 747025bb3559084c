use Rattle.std.proofs.Common.{◌≡◌, drop}
use Rattle.fleet_core.specs.Pushing.{pushed, HaveRoom}
use Rattle.fleet_core.proofs.applying.release.Given as goal

abbrev pub invariant-loop-visit : goal.invariant-loop-visit
invariant-loop-visit l =
    (pushed l.fleet.releases (drop l.visit-index l.visits) l.tick ≡ pushed l.initial.fleet.releases l.visits l.tick)
    × (l.fleet ≡ record l.initial.fleet { releases = l.fleet.releases })
    × HaveRoom l.fleet.lasts l.fleet.releases (drop l.visit-index l.visits) l.tick
