use Rattle.std.specs.Prelude.{◌≡◌, None, filter_map, take}
use Rattle.std.specs.List.{last_or}
use Rattle.trial_base.specs.Kept.{count_in}
use Rattle.trial_base.proofs.reading.kept_by.Given as goal

abbrev pub invariant-loop-answer : goal.invariant-loop-answer
invariant-loop-answer l = l.kept ≡ last_or None (filter_map count_in (take l.answer-index l.answers))
