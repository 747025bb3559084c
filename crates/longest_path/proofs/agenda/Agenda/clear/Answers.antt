use Rattle.std.proofs.Common.{ℕ, ◌≡◌, List, Bool, true, false, sym, ap, ◌∙◌, subst, arith}
use Rattle.longest_path.specs.Cells.{AreAlike}
use Rattle.longest_path.proofs.Cells.{alike_refl}
use Rattle.longest_path.proofs.agenda.Agenda.clear.Goals as goal

pub loop-init : goal.loop-init
loop-init c = alike_refl c.args.self.now
