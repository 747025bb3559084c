use Rattle.std.proofs.Common.{ℕ, ◌+◌, ◌<◌, List, length, sym, ap, ◌∙◌, subst, arith}
use Rattle.std.proofs.lemmas.Bool.{ltb-true, lt-ltb, not-false}
use Rattle.fleet_base.specs.declared.geometry.Visit.{Visit}
use Rattle.fleet_base.specs.State.{arrived_count}
use Rattle.fleet_base.proofs.Places.{same_visit_is}
use Rattle.release_rule.proofs.Pairs.{first_there, first_is_past, past_first}
use Rattle.release_rule.proofs.rule.is_passed.Goals as goal

pub arrived-requires : goal.arrived-requires
arrived-requires c =
    let there = first_there c.args.graph.now c.robots-within.ensures.graph c.args.q.0 c.pair-pair.result c.side-side.result c.pair-pair.ensures in
    omega (arith, there, ap (λ (v : Visit). v.robot) c.first_visit-first.ensures, ap (λ (ns : List ℕ). length ns) c.requires.state.fleet.lasts)

pub returns-else-ne : goal.returns-else-ne
returns-else-ne c = (
  λ h. first_is_past c.args.graph.now c.args.fleet.now c.args.q.0 c.pair-pair.result c.side-side.result c.args.visit c.pair-pair.ensures c.side-side.ensures
      (subst (λ (v : Visit). v.index + 1 < arrived_count c.args.fleet.now v.robot) c.first_visit-first.ensures (omega (arith, ltb-true _ _ h, c.arrived.ensures))),
  λ p.
      let past = past_first c.args.graph.now c.args.fleet.now c.args.q.0 c.pair-pair.result c.side-side.result c.args.visit c.pair-pair.ensures c.side-side.ensures (sym c.second_visit.ensures ∙ same_visit_is _ _ (not-false _ (sym c.if-ne.ensures))) p in
      lt-ltb _ _ (omega (arith, c.arrived.ensures, subst (λ (v : Visit). v.index + 1 < arrived_count c.args.fleet.now v.robot) (sym c.first_visit-first.ensures) past)),
)
