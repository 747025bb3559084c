use Rattle.std.proofs.Common.{sym, ◌∙◌}
use Rattle.cert_tree.proofs.WrittenText.{written_lines}
use Rattle.cert_tree.proofs.laws.a_certificate_has_one_spelling.Goals as goal

pub returns : goal.returns
returns c = λ text nodes is. is.lines.is ∙ sym (written_lines nodes)
