use Rattle.std.proofs.Common.{ℕ, ◌≡◌, ◌≢◌, ◌⊎◌, ◌+◌, ◌*◌, ◌<◌, ◌≤◌, List, Bool, sym, ap, ◌∙◌, subst, refl, inl, inr, arith}
use Rattle.fleet_base.specs.declared.geometry.Visit.{Visit}
use Rattle.fleet_base.specs.Order.{Graph, IsVisit, Before, next_visit}
use Rattle.fleet_base.specs.State.{duration_of}
use Rattle.fleet_base.specs.VisitRows.{tick_in}
use Rattle.plan_graph.specs.Views.{order_in}
use Rattle.plan_graph.specs.Limits.{IsGraphWithinLimits}
use Rattle.longest_path.specs.Earliest.{IsEarliestAhead}
use Rattle.longest_path.specs.Cells.{put, mark_count}
use Rattle.longest_path.specs.Rising.{Marked}
use Rattle.longest_path.specs.Falling.{IsFalling, tick_total}
use Rattle.longest_path.proofs.Falling.{falling_stays, falling_falls, falling_less, waking_on, woken_everywhere}
use Rattle.longest_path.proofs.settling.look_again.Goals as goal

pub returns-then-tick-before-clause-falling : goal.returns-then-tick-before-clause-falling
returns-then-tick-before-clause-falling c =
    let g = c.args.view.now.graph in
    let x = c.args.fleet.now in
    let order = order_in c.args.view.now in
    let v = c.args.v in
    let rows = c.args.rows.now in
    let marks = c.args.waiting.now in
    let f = c.requires.falling in
    let m = c.earliest_tick-tick.result in
    let e : IsEarliestAhead g x order (tick_in rows) v m = c.earliest_tick-tick.ensures.ahead (f.ahead v (inr refl)) in
    falling_stays g x c.requires.state order c.requires.closed rows marks v c.requires.there f (subst (λ n. IsEarliestAhead g x order (tick_in rows) v n) (c.if-tick-before.true ∙ c.tick_at-before.ensures) e)

pub returns-clause-falling : goal.returns-clause-falling
returns-clause-falling c =
    let g = c.args.view.now.graph in
    let x = c.args.fleet.now in
    let order = order_in c.args.view.now in
    let v = c.args.v in
    let rows = c.args.rows.now in
    let marks = c.args.waiting.now in
    let f = c.requires.falling in
    let m = c.earliest_tick-tick.result in
    let e : IsEarliestAhead g x order (tick_in rows) v m = c.earliest_tick-tick.ensures.ahead (f.ahead v (inr refl)) in
    let more = c.wake_across.new.waiting in
    let ne : m ≢ tick_in rows v = λ same. c.if-tick-before.false (same ∙ sym c.tick_at-before.ensures) in
    let before : c.tick_at-before.result ≡ tick_in rows v = c.tick_at-before.ensures in
    let waking = waking_on g x order v rows marks c.wake_along.new.waiting more c.wake_along.ensures.waking c.wake_across.ensures.waking in
    let woken : (w : Visit) → IsVisit g w → Before g order v w → tick_in rows w ≡ tick_in rows v + duration_of x w → Marked more w =
    woken_everywhere g x order rows v (tick_in rows v) c.wake_along.new.waiting more
    (λ is t. c.wake_along.ensures.woken is (t ∙ ap (λ n. n + duration_of x (next_visit v)) (sym before)))
    c.wake_across.ensures.waking.stays
    (λ q w h t. c.wake_across.ensures.woken q w h (t ∙ ap (λ n. n + duration_of x w) (sym before))) in
    subst (λ (r : List (List ℕ)). IsFalling g x order r more (Marked more)) (sym c.set_in.ensures) (falling_falls g x c.requires.state order c.requires.closed rows marks v c.requires.there f m e ne more waking woken)

pub returns-clause-less : goal.returns-clause-less
returns-clause-less c =
    let g = c.args.view.now.graph in
    let x = c.args.fleet.now in
    let order = order_in c.args.view.now in
    let v = c.args.v in
    let rows = c.args.rows.now in
    let marks = c.args.waiting.now in
    let f = c.requires.falling in
    let m = c.earliest_tick-tick.result in
    let e : IsEarliestAhead g x order (tick_in rows) v m = c.earliest_tick-tick.ensures.ahead (f.ahead v (inr refl)) in
    let more = c.wake_across.new.waiting in
    let ne : m ≢ tick_in rows v = λ same. c.if-tick-before.false (same ∙ sym c.tick_at-before.ensures) in
    let before : c.tick_at-before.result ≡ tick_in rows v = c.tick_at-before.ensures in
    let waking = waking_on g x order v rows marks c.wake_along.new.waiting more c.wake_along.ensures.waking c.wake_across.ensures.waking in
    let woken : (w : Visit) → IsVisit g w → Before g order v w → tick_in rows w ≡ tick_in rows v + duration_of x w → Marked more w =
    woken_everywhere g x order rows v (tick_in rows v) c.wake_along.new.waiting more
    (λ is t. c.wake_along.ensures.woken is (t ∙ ap (λ n. n + duration_of x (next_visit v)) (sym before)))
    c.wake_across.ensures.waking.stays
    (λ q w h t. c.wake_across.ensures.woken q w h (t ∙ ap (λ n. n + duration_of x w) (sym before))) in
    let limits = subst (λ (h : Graph). IsGraphWithinLimits h) c.graph.ensures c.robots-within.ensures.limits in
    subst (λ (r : List (List ℕ)). mark_count more + 65537 * tick_total r ≤ mark_count marks + 65537 * tick_total rows) (sym c.set_in.ensures) (falling_less g x c.requires.state order c.requires.closed rows marks v c.requires.there f m e ne more waking woken limits)
