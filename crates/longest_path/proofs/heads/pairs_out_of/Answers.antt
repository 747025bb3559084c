use Rattle.std.proofs.Common.{ℕ, ◌≡◌, ◌-◌, ◌∙◌, List, Some, sym, ap, subst}
use Rattle.std.specs.Prelude.{Contains, slice_get}
use Rattle.fleet_base.specs.declared.order.PairId.{PairId}
use Rattle.plan_graph.specs.Views.{order_in}
use Rattle.plan_graph.proofs.Numbers.{numbers_within}
use Rattle.longest_path.proofs.Places.{visit}
use Rattle.longest_path.proofs.Leaving.{out_numbered}
use Rattle.longest_path.proofs.heads.pairs_out_of.Goals as goal

pub returns-clause-all : goal.returns-clause-all
returns-clause-all c =
    λ q w e. subst (λ (qs : List PairId). Contains qs (record { 0 = q })) (sym c.into_of.ensures) (out_numbered c.args.view.now.graph (order_in c.args.view.now) q c.args.v w e)

pub returns-clause-there : goal.returns-clause-there
returns-clause-there c =
    λ k q at. numbers_within c.args.view.now.graph.pairs (visit c.args.v.robot (c.args.v.index - 1)) k q (sym (ap (λ (qs : List PairId). slice_get qs k) c.into_of.ensures) ∙ at)
