use Rattle.order_choice.proofs.Exits.{spent_exit}
use Rattle.order_choice.proofs.laws.searches_end_spent.Goals as goal

pub returns : goal.returns
returns c = λ g x line order best level least budget nodes state s low below waits w.
    record { costs = s.best.costs; no_dearer = s.best.no_dearer; shown = spent_exit g x best least level low below state budget line nodes s.count s.parted waits s.right s.dear w }
