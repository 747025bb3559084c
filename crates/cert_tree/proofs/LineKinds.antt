-- The sixth and the seventh byte of a line tell what it says.
use Rattle.std.proofs.Common.{ℕ, ◌≡◌, ◌+◌, ◌*◌, ◌^◌, ◌<◌, ◌≤◌, List, [], ◌++◌, refl, sym, ap, ◌∙◌, arith, length, drop, append_assoc}
use Rattle.std.specs.Prelude.{codes, slice_index}
use Rattle.fleet_base.specs.declared.order.PairId.{PairId}
use Rattle.fleet_base.specs.declared.order.Side.{Side}
use Rattle.fleet_base.specs.Bytes.{field}
use Rattle.fleet_base.specs.Lists.{row_of}
use Rattle.cert_tree.specs.declared.node.CertPath.{CertPath}
use Rattle.cert_tree.specs.declared.node.Node.{Node}
use Rattle.cert_tree.specs.declared.node.Node.TheVariants.{Branch, Force, Cyclic, Bound, OpenLeaf}
use Rattle.cert_tree.specs.declared.line.Line.{Line}
use Rattle.cert_tree.specs.declared.line.Line.TheVariants as said
use Rattle.cert_tree.specs.CertText.{side_word, pair_fields, node_lines, HavePairNumbers}
use Rattle.cert_tree.specs.Reading.{IsLine, ArePairFields}

abbrev pub kind : List ℕ → ℕ
kind line = slice_index line 5 * 256 + slice_index line 6

-- the kind of a node's first line
abbrev pub kind_of : Node → ℕ
kind_of (Branch q) = 25202
kind_of (Force q side cycle) = 26223
kind_of (Cyclic cycle) = 25465
kind_of (Bound paths) = 25199
kind_of (OpenLeaf least) = 28528

abbrev first : List (List ℕ) → List ℕ
first lines = row_of lines 0

pub kind_is : (node : Node) (rest : List (List ℕ)) → kind (first (node_lines node ++ rest)) ≡ kind_of node
kind_is (Branch q) rest = refl
kind_is (Force q side cycle) rest = refl
kind_is (Cyclic cycle) rest = refl
kind_is (Bound paths) rest = refl
kind_is (OpenLeaf least) rest = refl

-- what a line says that has these first words
pub branch_said : (text : List ℕ) (line : Line) → IsLine (codes "cert branch" ++ text) line → (q : PairId) × (text ≡ field q.0) × (q.0 < 2 ^ 32)
branch_said text (said.Node (Branch q)) h = (q, sym (ap (λ ls. drop 11 (first ls)) h.0), h.2)
branch_said text (said.Node (Force q side cycle)) h = absurd (let e : 26223 ≡ 25202 = ap (λ ls. kind (first ls)) h.0 in omega (arith, e))
branch_said text (said.Node (Cyclic cycle)) h = absurd (let e : 25465 ≡ 25202 = ap (λ ls. kind (first ls)) h.0 in omega (arith, e))
branch_said text (said.Node (Bound paths)) h = absurd (let e : 25199 ≡ 25202 = ap (λ ls. kind (first ls)) h.0 in omega (arith, e))
branch_said text (said.Node (OpenLeaf least)) h = absurd (let e : 28528 ≡ 25202 = ap (λ ls. kind (first ls)) h.0 in omega (arith, e))
branch_said text (said.Path p) h = absurd (let e : 25202 ≡ 28769 = ap kind h.0 in omega (arith, e))

pub force_said : (text : List ℕ) (line : Line) → IsLine (codes "cert force" ++ text) line → (q : PairId) × (side : Side) × (cycle : List PairId) × (text ≡ field q.0 ++ (side_word side ++ pair_fields cycle)) × (q.0 < 2 ^ 32) × HavePairNumbers cycle × (2 ≤ length cycle)
force_said text (said.Node (Branch q)) h = absurd (let e : 25202 ≡ 26223 = ap (λ ls. kind (first ls)) h.0 in omega (arith, e))
force_said text (said.Node (Force q side cycle)) h = (q, side, cycle, sym (ap (λ ls. drop 10 (first ls)) h.0) ∙ append_assoc (field q.0) (side_word side) (pair_fields cycle), h.2.0, h.2.1, h.1)
force_said text (said.Node (Cyclic cycle)) h = absurd (let e : 25465 ≡ 26223 = ap (λ ls. kind (first ls)) h.0 in omega (arith, e))
force_said text (said.Node (Bound paths)) h = absurd (let e : 25199 ≡ 26223 = ap (λ ls. kind (first ls)) h.0 in omega (arith, e))
force_said text (said.Node (OpenLeaf least)) h = absurd (let e : 28528 ≡ 26223 = ap (λ ls. kind (first ls)) h.0 in omega (arith, e))
force_said text (said.Path p) h = absurd (let e : 26223 ≡ 28769 = ap kind h.0 in omega (arith, e))

pub cyclic_said : (text : List ℕ) (line : Line) → IsLine (codes "cert cyclic" ++ text) line → (cycle : List PairId) × ArePairFields 2 text cycle
cyclic_said text (said.Node (Branch q)) h = absurd (let e : 25202 ≡ 25465 = ap (λ ls. kind (first ls)) h.0 in omega (arith, e))
cyclic_said text (said.Node (Force q side cycle)) h = absurd (let e : 26223 ≡ 25465 = ap (λ ls. kind (first ls)) h.0 in omega (arith, e))
cyclic_said text (said.Node (Cyclic cycle)) h = (cycle, (sym (ap (λ ls. drop 11 (first ls)) h.0), h.2, h.1))
cyclic_said text (said.Node (Bound paths)) h = absurd (let e : 25199 ≡ 25465 = ap (λ ls. kind (first ls)) h.0 in omega (arith, e))
cyclic_said text (said.Node (OpenLeaf least)) h = absurd (let e : 28528 ≡ 25465 = ap (λ ls. kind (first ls)) h.0 in omega (arith, e))
cyclic_said text (said.Path p) h = absurd (let e : 25465 ≡ 28769 = ap kind h.0 in omega (arith, e))

pub path_said : (text : List ℕ) (line : Line) → IsLine (codes "cert path" ++ text) line → (p : CertPath) × (text ≡ field p.robot ++ pair_fields p.pairs) × (p.robot < 2 ^ 32) × HavePairNumbers p.pairs × (1 ≤ length p.pairs)
path_said text (said.Node (Branch q)) h = absurd (let e : 25202 ≡ 28769 = ap (λ ls. kind (first ls)) h.0 in omega (arith, e))
path_said text (said.Node (Force q side cycle)) h = absurd (let e : 26223 ≡ 28769 = ap (λ ls. kind (first ls)) h.0 in omega (arith, e))
path_said text (said.Node (Cyclic cycle)) h = absurd (let e : 25465 ≡ 28769 = ap (λ ls. kind (first ls)) h.0 in omega (arith, e))
path_said text (said.Node (Bound paths)) h = absurd (let e : 25199 ≡ 28769 = ap (λ ls. kind (first ls)) h.0 in omega (arith, e))
path_said text (said.Node (OpenLeaf least)) h = absurd (let e : 28528 ≡ 28769 = ap (λ ls. kind (first ls)) h.0 in omega (arith, e))
path_said text (said.Path p) h = (p, ap (drop 9) h.0, h.1.1, h.1.2, h.1.0)

pub open_said : (text : List ℕ) (line : Line) → IsLine (codes "cert open" ++ text) line → (least : ℕ) × (text ≡ field least) × (least < 2 ^ 64)
open_said text (said.Node (Branch q)) h = absurd (let e : 25202 ≡ 28528 = ap (λ ls. kind (first ls)) h.0 in omega (arith, e))
open_said text (said.Node (Force q side cycle)) h = absurd (let e : 26223 ≡ 28528 = ap (λ ls. kind (first ls)) h.0 in omega (arith, e))
open_said text (said.Node (Cyclic cycle)) h = absurd (let e : 25465 ≡ 28528 = ap (λ ls. kind (first ls)) h.0 in omega (arith, e))
open_said text (said.Node (Bound paths)) h = absurd (let e : 25199 ≡ 28528 = ap (λ ls. kind (first ls)) h.0 in omega (arith, e))
open_said text (said.Node (OpenLeaf least)) h = (least, sym (ap (λ ls. drop 9 (first ls)) h.0), h.2)
open_said text (said.Path p) h = absurd (let e : 28528 ≡ 28769 = ap kind h.0 in omega (arith, e))

-- a line with none of the words says nothing
pub nothing_said : (line : List ℕ) → ((rest : List ℕ) → line ≡ codes "cert branch" ++ rest → ⊥) → ((rest : List ℕ) → line ≡ codes "cert force" ++ rest → ⊥) → ((rest : List ℕ) → line ≡ codes "cert cyclic" ++ rest → ⊥)
    → ((rest : List ℕ) → line ≡ codes "cert bound" ++ rest → ⊥) → ((rest : List ℕ) → line ≡ codes "cert path" ++ rest → ⊥) → ((rest : List ℕ) → line ≡ codes "cert open" ++ rest → ⊥) → (says : Line) → IsLine line says → ⊥
nothing_said line branch force cyclic bound path leaf (said.Node (Branch q)) h = branch (field q.0) (sym (ap first h.0))
nothing_said line branch force cyclic bound path leaf (said.Node (Force q side cycle)) h = force (field q.0 ++ side_word side ++ pair_fields cycle) (sym (ap first h.0))
nothing_said line branch force cyclic bound path leaf (said.Node (Cyclic cycle)) h = cyclic (pair_fields cycle) (sym (ap first h.0))
nothing_said line branch force cyclic bound path leaf (said.Node (Bound paths)) h = bound [] (sym (ap first h.0))
nothing_said line branch force cyclic bound path leaf (said.Node (OpenLeaf least)) h = leaf (field least) (sym (ap first h.0))
nothing_said line branch force cyclic bound path leaf (said.Path p) h = path (field p.robot ++ pair_fields p.pairs) h.0
