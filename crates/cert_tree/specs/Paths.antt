-- The paths that a node lists, one for a robot, and how long they last together.
use Rattle.std.specs.Prelude.{ℕ, ◌<◌, List, [], ◌∷◌, length, sum_by, ◌==◌, Option, unwrap_or, IsSome, All, if◌then◌else◌}
use Rattle.fleet_base.specs.declared.order.Side.{Side}
use Rattle.fleet_base.specs.declared.order.PairId.{PairId}
use Rattle.fleet_base.specs.Lists.{range}
use Rattle.fleet_base.specs.Order.{Graph}
use Rattle.fleet_base.specs.State.{FleetState}
use Rattle.fleet_base.specs.Paths.{path_length}
use Rattle.cert_tree.specs.declared.node.CertPath.{CertPath}

-- the pairs that the paths list for robot i
abbrev pub path_for : List CertPath → ℕ → List PairId
path_for [] i = []
path_for (p ∷ ps) i = if p.robot == i then p.pairs else path_for ps i

-- the length of the path for robot i
abbrev pub length_for : Graph → FleetState → (ℕ → Option Side) → List CertPath → ℕ → Option ℕ
length_for g x order paths i = path_length g x order i (path_for paths i)

-- the paths name robots that are there, and each is one
pub record ArePaths (g : Graph) (x : FleetState) (order : ℕ → Option Side) (paths : List CertPath) : Type 0 where
  pub known : All (λ p. p.robot < length g.lasts) paths
  pub each : (i : ℕ) → i < length g.lasts → IsSome (length_for g x order paths i)

-- what the lengths over all robots add up to
abbrev pub total_length : Graph → FleetState → (ℕ → Option Side) → List CertPath → ℕ
total_length g x order paths = sum_by (λ i. unwrap_or (length_for g x order paths i) 0) (range 0 (length g.lasts))
