-- A number that does not fit is no number below 2^32, since a text is one number.
use Rattle.map_text.proofs.TaskFields.{no_count_left}
use Rattle.map_text.proofs.fields.count.Goals as goal

pub returns-clause-none : goal.returns-clause-none
returns-clause-none c = no_count_left c.args.field.now _ c.try_from.result c.ok.result c.in_ok-read_number.ensures.value c.try_from.ensures c.ok.ensures.value
