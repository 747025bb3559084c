use Rattle.std.proofs.Common.{ap, ◌∙◌, length, map, List, ℕ}
use Rattle.cert_check.proofs.ZeroRows.{lengths_zero}
use Rattle.cert_check.proofs.workspace.Workspace.new.Goals as goal

pub returns : goal.returns
returns c = record {
  sides = c.in_ok-new.ensures.pairs ∙ c.pair_count-pairs.ensures;
  steps = c.in_ok-new.ensures.room;
  ticks = ap (λ (rows : List (List ℕ)). map length rows) c.in_ok-zeros.ensures ∙ lengths_zero c.args.graph.now.lasts;
  sums = ap (λ (rows : List (List ℕ)). map length rows) c.in_ok-zeros-2.ensures ∙ lengths_zero c.args.graph.now.lasts;
  groups = c.in_ok-groups.ensures;
  taken = c.in_ok-from_elem.ensures.len ∙ c.pair_count-pairs.ensures;
}
