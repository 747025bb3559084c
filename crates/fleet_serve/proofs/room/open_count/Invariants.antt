use Rattle.std.proofs.Common.{◌≡◌, ◌≤◌}
use Rattle.std.specs.List.{count_by}
use Rattle.fleet_base.specs.Lists.{range}
use Rattle.fleet_base.specs.Open.{is_open}
use Rattle.fleet_serve.proofs.room.open_count.Given as goal

abbrev pub invariant-loop-number : goal.invariant-loop-number
invariant-loop-number l = record {
  counted : l.count ≡ count_by (is_open l.graph l.fleet) (range 0 l.number);
  small : l.count ≤ l.number;
}
