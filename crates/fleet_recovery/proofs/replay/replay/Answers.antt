use Rattle.std.proofs.Common.{◌≡◌, ℕ, ◌+◌, ◌-◌, ◌^◌, ◌<◌, ◌≤◌, Bool, true, false, IsTrue, cond, refl, ap, ◌∙◌, subst, arith}
use Rattle.fleet_base.specs.State.{FleetState}
use Rattle.fleet_recovery.specs.Replaying.{HasLedUntil}
use Rattle.station_api.proofs.Moments.{quiet_on, counted_on}
use Rattle.fleet_recovery.proofs.Replays.{told_on, entry_refuses, led_on, stuck_there}
use Rattle.fleet_recovery.proofs.replay.replay.Goals as goal

-- an entry more leaves fewer numbers of reports, and none ends the loop
smaller : (was more : Bool) (before after : ℕ) → was ≡ true → (IsTrue more → after ≡ before + 1) → (¬ IsTrue more → after ≡ before) → after ≤ 2 ^ 62 → (2 ^ 62 - after) + cond more 1 0 < (2 ^ 62 - before) + cond was 1 0
smaller true true before after is_more one same few = let is = one refl in omega (arith, is, few)
smaller true false before after is_more one same few = let is = same (λ yes. cc) in omega (arith, is)
smaller false more before after is_more one same few = absurd cc

pub returns-in_err-more-clause-refused : goal.returns-in_err-more-clause-refused
returns-in_err-more-clause-refused g c =
    let kept = c.loop-more.invariant in
    told_on _ c.from_residual-in_err-more.result c.in_err-more.field-0.0 _ c.from_residual-in_err-more.ensures.1
    (entry_refuses _ _ _ c.in_err-more.field-0.0 c.in_err-more.ensures.refused
    (λ stuck told. stuck_there c.args.graph.now c.args.fleet.now c.loop-more.fleet c.args.journal.now c.loop-more.journal _ _ (kept.quiet told).seen c.loop-more.more c.loop-more-test.true (kept.leads told) kept.side (stuck told)))

pub loop-more-smaller : goal.loop-more-smaller
loop-more-smaller g c =
    smaller c.loop-more.more c.in_ok-more.more c.loop-more.fleet.count c.enter_next.new.fleet.count c.loop-more-test.true c.in_ok-more.ensures.count (λ none. ap (λ (x : FleetState). x.count) (c.in_ok-more.ensures.stays none)) (let rules = c.in_ok-more.ensures.rules in rules.count)

pub loop-more-preserved : goal.loop-more-preserved
loop-more-preserved g c =
    let kept = c.loop-more.invariant in
    record {
      rules = c.in_ok-more.ensures.rules;
      room = c.enter_next.ensures.fits;
      side = c.enter_next.ensures.side ∙ kept.side;
      quiet = λ told. quiet_on _ _ _ (kept.quiet told) (c.enter_next.ensures.quiet told);
      counted = counted_on _ _ _ kept.counted c.enter_next.ensures.counted;
      leads = λ told. led_on c.args.graph.now c.args.fleet.now c.loop-more.fleet c.args.journal.now c.loop-more.journal _ _ (kept.quiet told).seen c.loop-more.more c.loop-more-test.true (kept.leads told) _ _ c.in_ok-more.more (c.in_ok-more.ensures.goes_on told);
    }

pub returns-clause-leads : goal.returns-clause-leads
returns-clause-leads g c told header has =
    subst (HasLedUntil c.args.graph.now c.args.fleet.now c.loop-more.fleet c.loop-more.journal header (g.T.Station.clock c.args.station.now).seen) c.loop-more-test.false (c.loop-more.invariant.leads told header has)
