use Rattle.std.proofs.Common.{◌∙◌, List, drop, ap}
use Rattle.std.proofs.lemmas.List.{drop-drop}
use Rattle.longest_path.specs.declared.decision.Decision.{Decision as Given}
use Rattle.search_nodes.specs.Making.{Making}
use Rattle.search_line.proofs.going.take_back.Goals as goal

abbrev with_decisions : Making → List Given → Making
with_decisions m ds = record m { decisions = ds }

pub loop-gone-preserved : goal.loop-gone-preserved
loop-gone-preserved c =
    let first = c.args.maker.now in
    c.ascend.ensures ∙ ap (λ (m : Making). with_decisions m (drop 1 m.decisions)) c.loop-gone.invariant ∙ ap (λ (ds : List Given). with_decisions first ds) (drop-drop 1 c.loop-gone._gone first.decisions)
