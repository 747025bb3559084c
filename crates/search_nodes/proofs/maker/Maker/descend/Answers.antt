use Rattle.std.proofs.Common.{◌≡◌, ◌↔◌, Bool, true, false, refl, ap}
use Rattle.search_nodes.specs.Making.{Making}
use Rattle.search_nodes.proofs.maker.Maker.descend.Goals as goal

-- what is refused only where there is a cycle is not refused where there is none
not_refused : (b : Bool) (cyclic : Type 0) → (b ≡ false) ↔ cyclic → (cyclic → ⊥) → b ≡ true
not_refused true cyclic h none = refl
not_refused false cyclic h none = absurd (none (h.0 refl))

pub returns-clause-decisions : goal.returns-clause-decisions
returns-clause-decisions c = ap (λ (m : Making). m.decisions) (c.decide-always.ensures.kept (not_refused c.decide-always.result _ c.decide-always.ensures.cyclic c.requires.acyclic))

pub returns-clause-best : goal.returns-clause-best
returns-clause-best c = ap (λ (m : Making). m.best) (c.decide-always.ensures.kept (not_refused c.decide-always.result _ c.decide-always.ensures.cyclic c.requires.acyclic))

pub returns-clause-cost : goal.returns-clause-cost
returns-clause-cost c = ap (λ (m : Making). m.cost) (c.decide-always.ensures.kept (not_refused c.decide-always.result _ c.decide-always.ensures.cyclic c.requires.acyclic))
