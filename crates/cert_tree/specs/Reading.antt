-- Reading a line from its front, and a text line by line.
use Rattle.std.specs.Prelude.{ℕ, ◌≡◌, ◌≢◌, ◌+◌, ◌^◌, ◌<◌, ◌≤◌, List, [], ◌∷◌, ◌++◌, length, map, slice_index, Result, Ok, Err}
use Rattle.std.specs.List.{AllByRecursion}
use Rattle.fleet_base.specs.declared.order.PairId.{PairId}
use Rattle.fleet_base.specs.Bytes.{field}
use Rattle.cert_tree.specs.declared.node.CertPath.{CertPath}
use Rattle.cert_tree.specs.declared.node.Node.{Node}
use Rattle.cert_tree.specs.declared.node.Node.TheVariants.{Bound}
use Rattle.cert_tree.specs.declared.line.Line.{Line}
use Rattle.cert_tree.specs.declared.line.Line.TheVariants as said
use Rattle.cert_tree.specs.declared.fault.LineFault.{LineFault}
use Rattle.cert_tree.specs.declared.fault.LineFault.TheVariants as line_fault
use Rattle.cert_tree.specs.declared.fault.CertError.{CertError}
use Rattle.cert_tree.specs.declared.fault.CertError.TheVariants as cert_error
use Rattle.cert_tree.specs.CertText.{pair_fields, path_line, node_lines, IsWritten, HasNumbers, HavePairNumbers}

-- no byte is a space
abbrev pub HasNoSpace : List ℕ → Type 0
HasNoSpace text = AllByRecursion (λ c. c ≢ 32) text

-- the text is empty or begins with a space
abbrev pub BeginsField : List ℕ → Type 0
BeginsField [] = Unit {0}
BeginsField (c ∷ cs) = c ≡ 32

-- the text is a space, a number below the limit, and the rest, which the next space begins
abbrev pub TakesNumber : ℕ → List ℕ → ℕ → List ℕ → Type 0
TakesNumber limit text n rest = (text ≡ field n ++ rest) × (n < limit) × BeginsField rest

-- the text is how many pairs these are and their numbers, and they are so many at least
abbrev pub ArePairFields : ℕ → List ℕ → List PairId → Type 0
ArePairFields least text pairs = (text ≡ pair_fields pairs) × HavePairNumbers pairs × (least ≤ length pairs)

-- the path has a pair, and its numbers fit their types
abbrev pub IsFullPath : CertPath → Type 0
IsFullPath p = (1 ≤ length p.pairs) × (p.robot < 2 ^ 32) × HavePairNumbers p.pairs

-- the last of the paths, if there is one, is of an earlier robot
abbrev pub HasNextRobot : List CertPath → ℕ → Type 0
HasNextRobot paths robot = (k : ℕ) → k + 1 ≡ length paths → slice_index (map (λ p. p.robot) paths) k < robot

-- the last node is a Bound, which lists one more path, of a later robot
pub record AddsPath (nodes : List Node) (path : CertPath) (more : List Node) : Type 0 where
  pub before : List Node
  pub paths : List CertPath
  pub had : nodes ≡ before ++ Bound paths ∷ []
  pub later : HasNextRobot paths path.robot
  pub has : more ≡ before ++ Bound (paths ++ path ∷ []) ∷ []

-- the line is the first one of the node, which has no other yet, or that of the path
abbrev pub IsLine : List ℕ → Line → Type 0
IsLine line (said.Node node) = (node_lines node ≡ line ∷ []) × IsWritten node × HasNumbers node
IsLine line (said.Path path) = (line ≡ path_line path) × IsFullPath path

-- what holds of a line's fault if it is malformed; want of memory is free
abbrev pub IfMalformed : LineFault → Type 0 → Type 0
IfMalformed line_fault.Malformed P = P
IfMalformed line_fault.Memory P = Unit {0}

-- the same of an answer
abbrev pub OnMalformed : {T : Type 0} → Result T LineFault → Type 0 → Type 0
OnMalformed (Ok x) P = Unit {0}
OnMalformed (Err fault) P = IfMalformed fault P

-- the error of a text whose line at this place has the fault
abbrev pub fault_at : LineFault → ℕ → CertError
fault_at line_fault.Malformed line = cert_error.Fault line
fault_at line_fault.Memory line = cert_error.Memory
