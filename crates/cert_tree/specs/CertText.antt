-- The text of a certificate, line by line.
use Rattle.std.specs.Prelude.{ℕ, ◌≡◌, ◌^◌, ◌<◌, ◌≤◌, List, [], ◌∷◌, ◌++◌, map, flat_map, length, codes, All}
use Rattle.std.specs.List.Sorted.{IsStrictlyIncreasing}
use Rattle.fleet_base.specs.declared.order.PairId.{PairId}
use Rattle.fleet_base.specs.declared.order.Side.{Side}
use Rattle.fleet_base.specs.declared.order.Side.TheVariants.{Lower, Higher}
use Rattle.fleet_base.specs.Bytes.{field, whole_lines, pieces_of, last_piece, text_of_lines}
use Rattle.cert_tree.specs.declared.node.CertPath.{CertPath}
use Rattle.cert_tree.specs.declared.node.Node.{Node}
use Rattle.cert_tree.specs.declared.node.Node.TheVariants.{Branch, Force, Cyclic, Bound, OpenLeaf}

-- the numbers of pairs
abbrev pub pair_numbers : List PairId → List ℕ
pair_numbers pairs = flat_map (λ q. field q.0) pairs

-- how many pairs, and their numbers
abbrev pub pair_fields : List PairId → List ℕ
pair_fields pairs = field (length pairs) ++ pair_numbers pairs

-- the word of a side
abbrev pub side_word : Side → List ℕ
side_word Lower = codes " lower"
side_word Higher = codes " higher"

-- the line of a path
abbrev pub path_line : CertPath → List ℕ
path_line p = codes "cert path" ++ field p.robot ++ pair_fields p.pairs

-- the lines of a node
abbrev pub node_lines : Node → List (List ℕ)
node_lines (Branch q) = (codes "cert branch" ++ field q.0) ∷ []
node_lines (Force q side cycle) = (codes "cert force" ++ field q.0 ++ side_word side ++ pair_fields cycle) ∷ []
node_lines (Cyclic cycle) = (codes "cert cyclic" ++ pair_fields cycle) ∷ []
node_lines (Bound paths) = codes "cert bound" ∷ map path_line paths
node_lines (OpenLeaf least) = (codes "cert open" ++ field least) ∷ []

-- the lines of a certificate
abbrev pub cert_lines : List Node → List (List ℕ)
cert_lines nodes = flat_map node_lines nodes

-- the text of a certificate
abbrev pub cert_text : List Node → List ℕ
cert_text nodes = text_of_lines (cert_lines nodes)

-- a cycle has two pairs at least, and a Bound lists paths that are not empty, by ascending robot
abbrev pub IsWritten : Node → Type 0
IsWritten (Branch q) = Unit {0}
IsWritten (Force q side cycle) = 2 ≤ length cycle
IsWritten (Cyclic cycle) = 2 ≤ length cycle
IsWritten (Bound paths) = All (λ p. 1 ≤ length p.pairs) paths × IsStrictlyIncreasing (map (λ p. p.robot) paths)
IsWritten (OpenLeaf least) = Unit {0}

-- the numbers of pairs fit their type, and so does how many they are
abbrev pub HavePairNumbers : List PairId → Type 0
HavePairNumbers pairs = (length pairs < 2 ^ 64) × All (λ q. q.0 < 2 ^ 32) pairs

-- a path's numbers fit their types
abbrev pub IsNumbered : CertPath → Type 0
IsNumbered p = (p.robot < 2 ^ 32) × HavePairNumbers p.pairs

-- a node's numbers fit their types
abbrev pub HasNumbers : Node → Type 0
HasNumbers (Branch q) = q.0 < 2 ^ 32
HasNumbers (Force q side cycle) = (q.0 < 2 ^ 32) × HavePairNumbers cycle
HasNumbers (Cyclic cycle) = HavePairNumbers cycle
HasNumbers (Bound paths) = All IsNumbered paths
HasNumbers (OpenLeaf least) = least < 2 ^ 64

-- these lines are those of a certificate
pub record AreCertLines (lines : List (List ℕ)) (nodes : List Node) : Type 0 where
  pub is : lines ≡ cert_lines nodes
  pub written : All IsWritten nodes
  pub numbers : All HasNumbers nodes

-- the text is that of a certificate, whose lines all have their ends
pub record IsCertText (text : List ℕ) (nodes : List Node) : Type 0 where
  pub lines : AreCertLines (whole_lines text) nodes
  pub ends : last_piece (pieces_of text) ≡ []
