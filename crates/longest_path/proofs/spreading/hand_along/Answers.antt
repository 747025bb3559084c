use Rattle.std.proofs.Common.{ℕ, ◌≡◌, ◌+◌, ◌<◌, ◌≤◌, sym, ap, ◌∙◌, subst, refl, inl, arith}
use Rattle.fleet_base.specs.Order.{Graph, IsVisit, last_in, next_visit}
use Rattle.fleet_base.specs.State.{duration_of}
use Rattle.fleet_base.specs.VisitRows.{tick_in}
use Rattle.plan_graph.specs.Views.{order_in}
use Rattle.longest_path.specs.Working.{noted}
use Rattle.longest_path.specs.Cells.{put}
use Rattle.longest_path.proofs.Handing.{handing_begins, handing_raised}
use Rattle.longest_path.proofs.spreading.hand_along.Goals as goal

pub returns-clause-handing : goal.returns-clause-handing
returns-clause-handing c =
    let g = c.args.view.now.graph in
    let x = c.args.fleet.now in
    let more = order_in c.args.view.now in
    let v = c.args.v in
    let w = next_visit v in
    let last : c.last.result ≡ last_in g v.robot = c.last.ensures ∙ ap (λ (h : Graph). last_in h v.robot) c.graph-2.ensures in
    let iw : IsVisit g w = record { robot = c.requires.there.robot; index = omega (arith, c.if-v-last.false, last) } in
    let next : c.args.tick + 1 + c.delay.result ≡ c.args.tick + duration_of x w = omega (arith, c.delay.ensures) in
    let made = handing_raised g x c.requires.state more c.requires.closed v c.args.tick c.args.rows.now c.args.work.now c.args.rows.now c.args.work.now (handing_begins g x c.requires.state more c.requires.closed v c.args.tick c.args.rows.now c.args.work.now c.requires.rows c.requires.room c.requires.here) w (inl refl) iw c.requires.low c.raise.new.rows c.raise.new.self
    (λ lt. c.raise.ensures.later (omega (arith, lt, next)) ∙ ap (λ n. put c.args.rows.now w n) next)
    (λ lt. c.raise.ensures.noted (omega (arith, lt, next)))
    (λ le. c.raise.ensures.stays (omega (arith, le, next)))
    (λ le. c.raise.ensures.rests (omega (arith, le, next))) in
    made.0
