use Rattle.fleet_cli.proofs.Made.{one_text}
use Rattle.fleet_cli.proofs.laws.words_ask_for_one_text.Goals as goal

pub returns : goal.returns
returns c file words text other made also = one_text (record { tells = Unit {0}; file = file }) words text other tt made also
