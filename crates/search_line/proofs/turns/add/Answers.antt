use Rattle.std.proofs.Common.{subst, sym}
use Rattle.std.specs.Prelude.{Option}
use Rattle.search_line.specs.declared.turns.Turn.{Turn}
use Rattle.search_line.specs.Turns.{AreAdded}
use Rattle.search_line.proofs.Turning.{added_one}
use Rattle.search_line.proofs.turns.add.Goals as goal

pub returns-in-Ok-clause-added : goal.returns-in-Ok-clause-added
returns-in-Ok-clause-added c = subst (λ (o : Option Turn). AreAdded c.args.turns.now c.insert.new.self o) (sym c.in-Some.is) (added_one c.args.turns.now c.insert.new.self c.in-Some.turn c.in-Ok.ensures.updates)
