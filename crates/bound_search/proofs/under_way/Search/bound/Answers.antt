use Rattle.std.proofs.Common.{refl, sym, subst, List}
use Rattle.search_line.specs.Lines.{Numbered, IsAt}
use Rattle.bound_search.proofs.under_way.Search.bound.Goals as goal

pub returns-clause-bound : goal.returns-clause-bound
returns-clause-bound c = record {
  paths = c.in_ok-paths.paths;
  is = refl;
  written = c.in_ok-paths.ensures.written;
  bound = λ made way cost at k le.
      let there = subst (λ (l : List Numbered). IsAt l c.args.number made way) (sym c.in_ok-go_to.ensures.line) at in
      c.in_ok-paths.ensures.bound _ cost c.go_to.new.self.maker.cost (c.in_ok-go_to.ensures.decisions made way there) k le;
}
