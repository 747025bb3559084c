use Rattle.std.proofs.Common.{ℕ, ◌≡◌, ◌⊎◌, ◌+◌, ◌<◌, ◌≤◌, sym, ap, ◌∙◌, subst, refl, inl, inr, arith}
use Rattle.fleet_base.specs.declared.geometry.Visit.{Visit}
use Rattle.fleet_base.specs.Order.{IsVisit, Before, next_visit}
use Rattle.fleet_base.specs.State.{duration_of}
use Rattle.fleet_base.specs.VisitRows.{tick_in}
use Rattle.plan_graph.specs.Views.{order_in}
use Rattle.longest_path.proofs.Handing.{handing_on, handed_all, under_done}
use Rattle.longest_path.proofs.spreading.hand_on.Goals as goal

pub returns-clause-under_way : goal.returns-clause-under_way
returns-clause-under_way c = λ tail given apart u.
    let g = c.args.view.now.graph in
    let x = c.args.fleet.now in
    let more = order_in c.args.view.now in
    let v = c.args.v in
    let tick = c.tick_at-tick.result in
    let rows = c.hand_across.new.rows in
    let work = c.hand_across.new.work in
    let h = handing_on g x c.requires.state more c.requires.closed v tick c.args.rows.now c.args.work.now c.hand_along.new.rows c.hand_along.new.work rows work c.hand_along.ensures.handing c.hand_across.ensures.handing in
    let handed : (w : Visit) → IsVisit g w → Before g more v w → tick_in rows v + duration_of x w ≤ tick_in rows w = handed_all g x more v tick (tick_in c.hand_along.new.rows) (tick_in rows) h.here c.hand_along.ensures.obeyed c.hand_across.ensures.handing.rises c.hand_across.ensures.obeyed in
    under_done g x more tail given (tick_in rows) work.waiting v (h.under tail given apart u) handed
