use Rattle.search_nodes.proofs.Suspects.{AreSuspected}
use Rattle.search_nodes.proofs.forcing.suspect_mates.Given as goal

abbrev pub invariant-loop-mate : goal.invariant-loop-mate
invariant-loop-mate l = AreSuspected l.mate-items l.mate-index l.fn.suspects.keys l.suspects.keys
