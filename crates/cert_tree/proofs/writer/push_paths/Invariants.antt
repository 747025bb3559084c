-- The paths so far are appended, and their numbers fit.
use Rattle.std.proofs.Common.{◌≡◌, ◌++◌, take, map}
use Rattle.std.specs.Prelude.{All}
use Rattle.cert_tree.specs.CertText.{path_line, IsNumbered}
use Rattle.cert_tree.proofs.writer.push_paths.Given as goal
use Rattle.fleet_base.specs.Bytes.{text_of_lines}

abbrev pub invariant-loop-path : goal.invariant-loop-path
invariant-loop-path l = (l.out ≡ l.fn.out ++ text_of_lines (map path_line (take l.path-index l.paths))) × All IsNumbered (take l.path-index l.paths)
