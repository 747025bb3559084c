use Rattle.cert_check.specs.Rooms.{IsRoomFor}
use Rattle.cert_bench.proofs.checks.check_often.Given as goal

abbrev pub invariant-loop : goal.invariant-loop
invariant-loop l = IsRoomFor l.graph l.scratch
