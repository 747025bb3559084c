-- The ways behind stay as they were.
use Rattle.std.proofs.Common.{◌≡◌, length}
use Rattle.std.specs.Prelude.{reverse, vec_len}
use Rattle.cert_check.specs.Ways.{HasWay, ways_behind}
use Rattle.cert_check.proofs.way.Way.turn.Given as goal

abbrev pub invariant-loop-step : goal.invariant-loop-step
invariant-loop-step l = record {
  way : HasWay l.self (reverse l.self.steps.items);
  behind : ways_behind (reverse l.fn.self.steps.items) ≡ ways_behind (reverse l.self.steps.items);
  sides : vec_len l.self.sides ≡ vec_len l.fn.self.sides;
}

abbrev pub decreases-loop-step : goal.decreases-loop-step
decreases-loop-step l = length l.self.steps.items
