use Rattle.std.proofs.Common.{subst, sym}
use Rattle.std.specs.Prelude.{Option}
use Rattle.search_line.specs.declared.turns.Turn.{Turn}
use Rattle.search_line.specs.Turns.{AreRemoved}
use Rattle.search_line.proofs.Turning.{removed_one}
use Rattle.search_line.proofs.turns.remove.Goals as goal

pub returns-in-Some : goal.returns-in-Some
returns-in-Some c = subst (λ (o : Option Turn). AreRemoved c.args.turns.now c.remove.new.self o) (sym c.in-Some.is) (removed_one c.args.turns.now c.remove.new.self c.in-Some.turn c.remove.ensures.updates)
