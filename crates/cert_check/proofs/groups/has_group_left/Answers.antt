use Rattle.std.proofs.Common.{ℕ, ◌≡◌, ◌+◌, ◌<◌, ◌⊎◌, inl, inr, true, refl, sym, subst, arith}
use Rattle.std.proofs.lemmas.Bool.{cases_eq, false≢true}
use Rattle.fleet_base.specs.Groups.{IsGroupOf}
use Rattle.cert_check.specs.Taken.{taken_at}
use Rattle.cert_check.proofs.GroupLaws.{name_within, group_is_left, none_is_left}
use Rattle.cert_check.proofs.groups.has_group_left.Goals as goal

pub bounds-taken-group : goal.bounds-taken-group
bounds-taken-group c = omega (arith, name_within c.args.graph.now c.loop-number.number c.group_of-group.result.0 (omega (arith, c.loop-number-test.true, c.pair_count-number-end.ensures)) (c.group_of-group.ensures c.args.graph.now c.requires.groups), c.take_groups.ensures.taken, c.requires.taken)

pub loop-number-preserved : goal.loop-number-preserved
loop-number-preserved c = λ q lt. go q lt (cases_eq q c.loop-number.number)
  where
    go : (q : ℕ) → q < c.loop-number.number + 1 → (q ≡ c.loop-number.number) ⊎ (q ≡ c.loop-number.number → ⊥) → (n : ℕ) × IsGroupOf c.args.graph.now q n × (taken_at c.take_groups.new.taken n ≡ true)
    go q lt (inl e) = (c.group_of-group.result.0, subst (λ k. IsGroupOf c.args.graph.now k c.group_of-group.result.0) (sym e) (c.group_of-group.ensures c.args.graph.now c.requires.groups), c.if-not-taken-group.false)
    go q lt (inr n) = c.loop-number.invariant q (omega (arith, lt, n))

pub returns-then-not-taken-group-clause-left : goal.returns-then-not-taken-group-clause-left
returns-then-not-taken-group-clause-left c = λ way gives. (λ t. group_is_left c.args.graph.now c.args.fleet.now c.args.sides.now c.take_groups.new.taken c.take_groups.ensures.groups c.loop-number.number c.group_of-group.result.0 (omega (arith, c.loop-number-test.true, c.pair_count-number-end.ensures)) (c.group_of-group.ensures c.args.graph.now c.requires.groups) c.if-not-taken-group.true way gives, λ h. refl)

pub returns-clause-left : goal.returns-clause-left
returns-clause-left c = λ way gives. (λ t. absurd (false≢true t), λ h. absurd (none_is_left c.args.graph.now c.args.fleet.now c.args.sides.now c.take_groups.new.taken c.take_groups.ensures.groups (λ q lt. c.loop-number.invariant q (omega (arith, lt, c.loop-number-test.false, c.pair_count-number-end.ensures))) way gives h))
