use Rattle.std.proofs.Common.{rules}
use Rattle.std.proofs.lemmas.List.Sorted.{answers_always}
use Rattle.archive_keep.proofs.kept_run.sort_by_name.Goals as goal

pub returns-clause-ascending : goal.returns-clause-ascending
returns-clause-ascending c = c.in_ok-sort_by_key.ensures.sorted (λ end. end.run) (answers_always _ _ _ (λ f a r g h. search rules))
