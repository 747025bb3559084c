use Rattle.std.proofs.Common.{◌≤◌}
use Rattle.order_choice.proofs.Printable.{written_printable}
use Rattle.order_choice.proofs.laws.written_certificates_can_be_printed.Goals as goal

pub returns-clause-optimal : goal.returns-clause-optimal
returns-clause-optimal c = λ g x line order best level expanded nodes graph s w. written_printable g x best (λ c. ⊥) (λ c. Unit {0}) line nodes graph s.right s.dear w

pub returns-clause-spent : goal.returns-clause-spent
returns-clause-spent c = λ g x line order best level least expanded nodes graph s w. written_printable g x best (λ c. least ≤ c) (λ c. c ≤ least) line nodes graph s.right s.dear w
