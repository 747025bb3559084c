use Rattle.std.proofs.Common.{◌≡◌, drop}
use Rattle.search_line.specs.Going.{CanForce}
use Rattle.search_nodes.specs.Making.{KeepsBest}
use Rattle.search_nodes.specs.Forcing.{given_after}
use Rattle.search_line.proofs.going.force.Given as goal

abbrev pub invariant-loop-forcing : goal.invariant-loop-forcing
invariant-loop-forcing l = record {
  can : CanForce l.maker.graph l.maker.state l.maker.decisions (drop l.forcing-index l.forced);
  same : given_after (drop l.forcing-index l.forced) l.maker.decisions ≡ given_after l.forced l.fn.maker.decisions;
  best : KeepsBest l.fn.maker l.maker;
}
