use Rattle.std.proofs.Common.{arith}
use Rattle.order_choice.proofs.Exits.{optimal_exit}
use Rattle.order_choice.proofs.laws.searches_end_optimal.Goals as goal

pub returns : goal.returns
returns c = λ g x line order best level expanded budget nodes state s within w.
    record { costs = s.best.costs; no_dearer = s.best.no_dearer; shown = optimal_exit g x state budget best line nodes (omega (arith, within, s.count)) s.right s.dear w }
