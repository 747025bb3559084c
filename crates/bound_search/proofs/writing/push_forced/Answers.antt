use Rattle.bound_search.proofs.Walks.{one_forced}
use Rattle.bound_search.proofs.writing.push_forced.Goals as goal

pub loop-forcing-preserved : goal.loop-forcing-preserved
loop-forcing-preserved c = one_forced c.args.cert.now c.loop-forcing.cert c.push.new.self c.args.forced.now c.loop-forcing.forcing-index _ c.in_ok-force.field-0 c.loop-forcing-test.true c.loop-forcing.invariant c.in_ok-force.ensures c.in_ok-push.ensures.ok
