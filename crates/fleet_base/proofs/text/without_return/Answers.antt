use Rattle.std.proofs.Common.{[], ◌∷◌, sym, ap, ◌∙◌}
use Rattle.std.proofs.lemmas.Bool.Decides.{Decides-eqb}
use Rattle.std.proofs.lemmas.Option.{MatchOption-at_some, MatchOption-at_none}
use Rattle.std.proofs.lemmas.Slice.Eq.{strip_suffix_is}
use Rattle.fleet_base.specs.Bytes.{without_cr}
use Rattle.fleet_base.proofs.Pieces.{without_cr-push, without_cr-none}
use Rattle.fleet_base.proofs.text.without_return.Goals as goal

pub returns-in-Some : goal.returns-in-Some
returns-in-Some c =
    let cut = MatchOption-at_some _ _ _ c.in-Some.is (strip_suffix_is Decides-eqb c.args.line.now (13 ∷ []) c.strip_suffix.result c.strip_suffix.ensures.cases) in
    sym (ap without_cr cut ∙ without_cr-push c.in-Some.front.now)

pub returns-in-None : goal.returns-in-None
returns-in-None c =
    sym (without_cr-none c.args.line.now (MatchOption-at_none _ _ c.in-None.is (strip_suffix_is Decides-eqb c.args.line.now (13 ∷ []) c.strip_suffix.result c.strip_suffix.ensures.cases)))
