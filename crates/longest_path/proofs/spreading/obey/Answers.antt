use Rattle.std.proofs.Common.{ℕ, ◌≡◌, ◌+◌, ◌<◌, ◌≤◌, sym, ap, ◌∙◌, subst, arith}
use Rattle.fleet_base.specs.Order.{Graph}
use Rattle.fleet_base.specs.State.{duration_of}
use Rattle.fleet_base.specs.VisitRows.{tick_in}
use Rattle.plan_graph.specs.Views.{order_in}
use Rattle.plan_graph.specs.Limits.{IsGraphWithinLimits}
use Rattle.longest_path.specs.Rising.{IsUnderWay, Marked}
use Rattle.longest_path.proofs.Handing.{HasBegun, has_begun_at}
use Rattle.longest_path.proofs.Smallness.{least_rows_small}
use Rattle.longest_path.proofs.spreading.obey.Goals as goal

pub spread-obeyed-requires-clause-rows : goal.spread-obeyed-requires-clause-rows
spread-obeyed-requires-clause-rows c =
    let begun = has_begun_at c.args.view.now.graph c.args.fleet.now c.requires.state (order_in c.args.view.now) c.args.edge c.args.rows.now c.args.work.now c.requires.rows c.requires.small c.requires.room c.requires.idle c.requires.added
    (c.tick_at-given.result + 1 + c.delay.result) (let z : c.tick_at-given.result + 1 + c.delay.result ≡ tick_in c.args.rows.now c.args.edge.tail + duration_of c.args.fleet.now c.args.edge.head = omega (arith, c.tick_at-given.ensures, c.delay.ensures) in z)
    c.raise.new.rows c.raise.new.self c.raise.ensures.later c.raise.ensures.noted c.raise.ensures.stays c.raise.ensures.rests in
    begun.rows_are

pub spread-obeyed-requires-clause-room : goal.spread-obeyed-requires-clause-room
spread-obeyed-requires-clause-room c =
    let begun = has_begun_at c.args.view.now.graph c.args.fleet.now c.requires.state (order_in c.args.view.now) c.args.edge c.args.rows.now c.args.work.now c.requires.rows c.requires.small c.requires.room c.requires.idle c.requires.added
    (c.tick_at-given.result + 1 + c.delay.result) (let z : c.tick_at-given.result + 1 + c.delay.result ≡ tick_in c.args.rows.now c.args.edge.tail + duration_of c.args.fleet.now c.args.edge.head = omega (arith, c.tick_at-given.ensures, c.delay.ensures) in z)
    c.raise.new.rows c.raise.new.self c.raise.ensures.later c.raise.ensures.noted c.raise.ensures.stays c.raise.ensures.rests in
    begun.work_is

pub spread-obeyed-requires-clause-under_way : goal.spread-obeyed-requires-clause-under_way
spread-obeyed-requires-clause-under_way c =
    let begun = has_begun_at c.args.view.now.graph c.args.fleet.now c.requires.state (order_in c.args.view.now) c.args.edge c.args.rows.now c.args.work.now c.requires.rows c.requires.small c.requires.room c.requires.idle c.requires.added
    (c.tick_at-given.result + 1 + c.delay.result) (let z : c.tick_at-given.result + 1 + c.delay.result ≡ tick_in c.args.rows.now c.args.edge.tail + duration_of c.args.fleet.now c.args.edge.head = omega (arith, c.tick_at-given.ensures, c.delay.ensures) in z)
    c.raise.new.rows c.raise.new.self c.raise.ensures.later c.raise.ensures.noted c.raise.ensures.stays c.raise.ensures.rests in
    subst (λ n. IsUnderWay c.args.view.now.graph c.args.fleet.now (order_in c.args.view.now) c.args.edge.tail n (tick_in c.raise.new.rows) (Marked c.raise.new.self.waiting)) (sym c.tick_at-given.ensures) begun.under_way

pub returns-then-obeyed-clause-small : goal.returns-then-obeyed-clause-small
returns-then-obeyed-clause-small c =
    let limits = subst (λ (h : Graph). IsGraphWithinLimits h) c.graph.ensures c.robots-within.ensures.limits in
    least_rows_small c.args.view.now.graph c.args.fleet.now c.requires.state limits (order_in c.args.view.now) c.requires.closed c.spread-obeyed.new.rows c.spread-obeyed.ensures.rows (c.spread-obeyed.ensures.least c.if-obeyed.true)

pub returns-then-obeyed-clause-room : goal.returns-then-obeyed-clause-room
returns-then-obeyed-clause-room c = c.keep.ensures.room c.spread-obeyed.new.rows c.spread-obeyed.ensures.room

pub returns-else-obeyed-clause-stays : goal.returns-else-obeyed-clause-stays
returns-else-obeyed-clause-stays c =
    let begun = has_begun_at c.args.view.now.graph c.args.fleet.now c.requires.state (order_in c.args.view.now) c.args.edge c.args.rows.now c.args.work.now c.requires.rows c.requires.small c.requires.room c.requires.idle c.requires.added
    (c.tick_at-given.result + 1 + c.delay.result) (let z : c.tick_at-given.result + 1 + c.delay.result ≡ tick_in c.args.rows.now c.args.edge.tail + duration_of c.args.fleet.now c.args.edge.head = omega (arith, c.tick_at-given.ensures, c.delay.ensures) in z)
    c.raise.new.rows c.raise.new.self c.raise.ensures.later c.raise.ensures.noted c.raise.ensures.stays c.raise.ensures.rests in
    λ _ v. c.take_back.ensures.back (tick_in c.args.rows.now) (c.spread-obeyed.ensures.kept (tick_in c.args.rows.now) begun.kept) v

pub returns-else-obeyed-clause-small : goal.returns-else-obeyed-clause-small
returns-else-obeyed-clause-small c =
    let begun = has_begun_at c.args.view.now.graph c.args.fleet.now c.requires.state (order_in c.args.view.now) c.args.edge c.args.rows.now c.args.work.now c.requires.rows c.requires.small c.requires.room c.requires.idle c.requires.added
    (c.tick_at-given.result + 1 + c.delay.result) (let z : c.tick_at-given.result + 1 + c.delay.result ≡ tick_in c.args.rows.now c.args.edge.tail + duration_of c.args.fleet.now c.args.edge.head = omega (arith, c.tick_at-given.ensures, c.delay.ensures) in z)
    c.raise.new.rows c.raise.new.self c.raise.ensures.later c.raise.ensures.noted c.raise.ensures.stays c.raise.ensures.rests in
    λ v. omega (arith, c.take_back.ensures.back (tick_in c.args.rows.now) (c.spread-obeyed.ensures.kept (tick_in c.args.rows.now) begun.kept) v, c.requires.small v)
