use Rattle.std.proofs.Common.{ℕ, ◌≡◌, ◌+◌, ◌<◌, ◌≤◌, List, Bool, sym, ap, ◌∙◌, subst, refl, inl, arith}
use Rattle.fleet_base.specs.Order.{Graph, IsVisit, last_in, next_visit}
use Rattle.fleet_base.specs.State.{duration_of}
use Rattle.fleet_base.specs.VisitRows.{tick_in}
use Rattle.plan_graph.specs.Views.{order_in}
use Rattle.longest_path.proofs.Falling.{waking_begins, waking_next}
use Rattle.longest_path.proofs.settling.wake_along.Goals as goal

pub returns-clause-waking : goal.returns-clause-waking
returns-clause-waking c =
    let g = c.args.view.now.graph in
    let x = c.args.fleet.now in
    let order = order_in c.args.view.now in
    let v = c.args.v in
    let w = next_visit v in
    let rows = c.args.rows.now in
    let marks = c.args.waiting.now in
    let last : c.last.result ≡ last_in g v.robot = c.last.ensures ∙ ap (λ (h : Graph). last_in h v.robot) c.graph-2.ensures in
    let iw : IsVisit g w = record { robot = c.requires.there.robot; index = omega (arith, c.if-v-last.false, last) } in
    (waking_next g x order v rows marks marks c.wake_one.new.waiting w (c.args.tick + duration_of x w) c.requires.rows (waking_begins g x order v rows marks c.requires.alike) iw (inl refl) c.wake_one.ensures.rests c.wake_one.ensures.others).0
