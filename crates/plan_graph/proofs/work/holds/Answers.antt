use Rattle.std.specs.Option.{IfNone}
use Rattle.std.proofs.Common.{sym, subst, Option, ℕ}
use Rattle.plan_graph.specs.Listing.{IsPassed}
use Rattle.plan_graph.specs.Views.{order_in}
use Rattle.plan_graph.proofs.work.holds.Goals as goal

pub returns-in_err-tail-clause-passed : goal.returns-in_err-tail-clause-passed
returns-in_err-tail-clause-passed c =
    subst (λ (o : Option ℕ). IfNone o (IsPassed c.args.view.now.graph (order_in c.args.view.now) c.args.listed.now c.args.visit c.args.pair)) (sym c.from_residual.ensures)
    (λ u e here. absurd (c.in_err-tail.ensures.none u e))
