use Rattle.std.proofs.Common.{get_or, arith}
use Rattle.fleet_serve.proofs.GoingOn.{one_taken}
use Rattle.fleet_serve.proofs.line_stream.end_at_limit.Goals as goal

pub returns-in-Ok-clause-limit : goal.returns-in-Ok-clause-limit
returns-in-Ok-clause-limit g c is = (
  get_or c.read.new.room 0 0,
  λ tells. one_taken _ _ _ c.read.new.room c.in-Ok.field-0 (c.in-Ok.ensures.bytes tells) (omega (arith, c.in-Ok.ensures.bound, c.read.auto.room, c.in-Ok.field-0-test)),
)
