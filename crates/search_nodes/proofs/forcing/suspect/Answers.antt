use Rattle.std.proofs.Common.{ℕ, List, sym, subst}
use Rattle.std.specs.Prelude.{Contains}
use Rattle.search_nodes.proofs.Numbering.{inserted, still_in, from_insert}
use Rattle.search_nodes.proofs.forcing.suspect.Goals as goal

pub returns-in-Ok : goal.returns-in-Ok
returns-in-Ok c =
    let old = c.args.suspects.now.keys in
    let q = c.args.pair.0 in
    let is = sym c.in-Ok.ensures.keys in
    record {
      has = subst (λ (ks : List ℕ). Contains ks q) is (inserted old q);
      stay = λ r h. subst (λ (ks : List ℕ). Contains ks r) is (still_in old q r h);
      only = λ r h. from_insert old q r (subst (λ (ks : List ℕ). Contains ks r) (sym is) h);
    }
