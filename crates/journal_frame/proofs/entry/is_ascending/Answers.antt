use Rattle.std.proofs.Common.{rules, ltb}
use Rattle.std.proofs.lemmas.Fn.{always_returns_same}
use Rattle.journal_frame.proofs.Order.{ascending_from_answer}
use Rattle.journal_frame.proofs.entry.is_ascending.Goals as goal

pub returns : goal.returns
returns c = ascending_from_answer c.args.pairs.now c.is_sorted_by.result (c.is_sorted_by.ensures.cases (λ p q. ltb p.0 q.0) (always_returns_same _ _ _ (λ a r h k. search rules)))
