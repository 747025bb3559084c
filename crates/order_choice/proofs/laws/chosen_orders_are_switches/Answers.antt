use Rattle.order_choice.proofs.Switches.{opens, switched_sound, switched_choice}
use Rattle.order_choice.proofs.laws.chosen_orders_are_switches.Goals as goal

pub returns-clause-are_open : goal.returns-clause-are_open
returns-clause-are_open c = λ g x order switched state sound keeps are. opens g x order switched state sound keeps are

pub returns-clause-sound : goal.returns-clause-sound
returns-clause-sound c = λ g x order switched state sound keeps are. switched_sound g x order switched state sound keeps are

pub returns-clause-choice : goal.returns-clause-choice
returns-clause-choice c = λ g x order switched budget cost outcome state sound keeps are chosen. switched_choice g x order switched state sound keeps are budget cost outcome chosen
