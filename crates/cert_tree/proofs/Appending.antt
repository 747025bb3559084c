-- What an append leaves when memory runs out on the way: a front of the whole text.
use Rattle.std.proofs.Common.{ℕ, map, ◌≡◌, ◌+◌, ◌<◌, List, [], ◌∷◌, ◌++◌, refl, sym, ap, ◌∙◌, length, get_or, take, drop, append_assoc}
use Rattle.std.specs.Prelude.{flat_map}
use Rattle.std.proofs.lemmas.Grind.{flat_map-append}
use Rattle.std.proofs.lemmas.List.{take-append-drop, drop_more}
use Rattle.fleet_base.specs.Bytes.{AppendsFront, text_of_lines}
use Rattle.cert_tree.specs.declared.node.CertPath.{CertPath}
use Rattle.cert_tree.specs.declared.node.Node.{Node}
use Rattle.cert_tree.specs.CertText.{path_line, node_lines, cert_text}

-- the text of paths, path by path
pub text_by_paths : (paths : List CertPath) → text_of_lines (map path_line paths) ≡ flat_map (λ p. path_line p ++ 10 ∷ []) paths
text_by_paths [] = refl
text_by_paths (p ∷ paths) = ap (λ (l : List ℕ). (path_line p ++ 10 ∷ []) ++ l) (text_by_paths paths)

-- the text of nodes, node by node
pub text_by_nodes : (nodes : List Node) → cert_text nodes ≡ flat_map (λ n. text_of_lines (node_lines n)) nodes
text_by_nodes [] = refl
text_by_nodes (n ∷ nodes) = flat_map-append (λ (line : List ℕ). line ++ 10 ∷ []) (node_lines n) (flat_map node_lines nodes) ∙ ap (λ (l : List ℕ). text_of_lines (node_lines n) ++ l) (text_by_nodes nodes)
