use Rattle.std.proofs.Common.{◌-◌, ap, ◌∙◌, arith}
use Rattle.order_choice.specs.declared.made.MadeNode.{MadeNode}
use Rattle.bound_search.proofs.Walks.{taken_out, taken_written}
use Rattle.bound_search.proofs.under_way.Search.take.Goals as goal

pub returns-then-left_out-gt0-clause-taken : goal.returns-then-left_out-gt0-clause-taken
returns-then-left_out-gt0-clause-taken c = λ node way at.
    taken_out c.args.self.now.maker node way c.args.cert.now c.args.left_out (c.args.left_out - 1) _ (omega (arith, c.if-left_out-gt0.true)) (c.children.ensures.children node way (c.args.left_out - 1) at)

pub returns-clause-taken : goal.returns-clause-taken
returns-clause-taken c = λ node way at.
    let e = c.in_ok-written.ensures in
    taken_written c.written.new.self.maker node way c.args.cert.now c.push_forced.new.cert c.push.new.self c.in_ok-written.written.node c.args.left_out c.in_ok-written.written.left_out c.as_slice.result.now (omega (arith, c.if-left_out-gt0.false)) (e.written node way at)
    (c.as_slice.ensures ∙ ap (λ (n : MadeNode). n.forced) (c.node.ensures at.front at.back node at.place)) c.in_ok-push_forced.ensures c.in_ok-push.ensures.ok
