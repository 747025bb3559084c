use Rattle.std.proofs.Common.{ℕ, ◌<◌}
use Rattle.fleet_base.specs.declared.geometry.Visit.{Visit}
use Rattle.fleet_base.specs.Schedule.{IsLeastSchedule}
use Rattle.longest_path.specs.Decisions.{order_on}
use Rattle.search_nodes.specs.Weighing.{IsUndecidable}
use Rattle.search_nodes.proofs.maker.Maker.conflict.Given as goal

abbrev pub invariant-loop-number : goal.invariant-loop-number
invariant-loop-number l =
    (q : ℕ) (s : Visit → ℕ) → q < l.number → IsLeastSchedule l.self.graph l.self.state (order_on l.self.graph l.self.state l.self.decisions) s
    → IsUndecidable l.self.graph l.self.state (order_on l.self.graph l.self.state l.self.decisions) s q → ⊥
