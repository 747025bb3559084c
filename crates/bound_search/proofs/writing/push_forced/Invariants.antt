use Rattle.std.proofs.Common.{◌≡◌, ◌++◌, take}
use Rattle.order_choice.specs.Writing.{forced_nodes}
use Rattle.bound_search.proofs.writing.push_forced.Given as goal

abbrev pub invariant-loop-forcing : goal.invariant-loop-forcing
invariant-loop-forcing l = l.cert ≡ l.initial.cert ++ forced_nodes (take l.forcing-index l.forced)
