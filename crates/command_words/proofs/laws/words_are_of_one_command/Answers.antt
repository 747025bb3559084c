use Rattle.command_words.proofs.OneCommand.{one_command}
use Rattle.command_words.proofs.laws.words_are_of_one_command.Goals as goal

pub returns : goal.returns
returns c words a b x y = one_command words a b x y
