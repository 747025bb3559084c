-- Where a text leaves the grammar of certificates, and what a reader answers.
use Rattle.std.specs.Prelude.{ℕ, ◌≡◌, ◌≢◌, ◌⊎◌, ◌+◌, ◌-◌, ◌≤◌, List, [], length, take, Result, Ok, Err}
use Rattle.fleet_base.specs.declared.lists.Items.{Items}
use Rattle.fleet_base.specs.Bytes.{whole_lines, pieces_of, last_piece}
use Rattle.cert_tree.specs.declared.node.Node.{Node}
use Rattle.cert_tree.specs.declared.fault.CertError.{CertError}
use Rattle.cert_tree.specs.declared.fault.CertError.TheVariants as cert_error
use Rattle.cert_tree.specs.CertText.{AreCertLines}

-- The lines above this one, counted from 1, are those of a certificate. With it they are not, or it has no line end.
pub record IsFaultLine (text : List ℕ) (line : ℕ) : Type 0 where
  pub counted : 1 ≤ line
  pub above : List Node
  pub good : AreCertLines (take (line - 1) (whole_lines text)) above
  pub bad : ((nodes : List Node) → ¬ AreCertLines (take line (whole_lines text)) nodes) ⊎ ((line ≡ length (whole_lines text) + 1) × (last_piece (pieces_of text) ≢ []))

-- a fault names that line; want of memory is free
abbrev pub CertFaultIs : List ℕ → Result (Items Node) CertError → Type 0
CertFaultIs text (Ok cert) = Unit {0}
CertFaultIs text (Err (cert_error.Fault line)) = IsFaultLine text line
CertFaultIs text (Err cert_error.Memory) = Unit {0}

-- the answer is these nodes, unless memory ran out
abbrev pub ReadsAs : List Node → Result (Items Node) CertError → Type 0
ReadsAs nodes (Ok found) = found ≡ nodes
ReadsAs nodes (Err (cert_error.Fault line)) = ⊥
ReadsAs nodes (Err cert_error.Memory) = Unit {0}
