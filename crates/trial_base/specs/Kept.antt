-- What answers say of how many reports are kept.
use Rattle.std.specs.Prelude.{ℕ, Option, Some, None}
use Rattle.report_text.specs.declared.answer.Answer.{Answer}
use Rattle.report_text.specs.declared.answer.Answer.TheVariants.{Ready, Done}

-- the number of reports that are kept, where an answer says it
abbrev pub count_in : Answer → Option ℕ
count_in (Ready count) = Some count
count_in (Done count) = Some count
count_in answer = None
