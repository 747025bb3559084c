use Rattle.std.proofs.Common.{ℕ, ◌≡◌, ◌+◌, ◌<◌, ◌⊎◌, inl, inr, true, refl, sym, ◌∙◌, subst, arith}
use Rattle.std.proofs.lemmas.Bool.{cases_eq, eqb-true, eq-eqb, false≢true}
use Rattle.fleet_base.specs.Open.{is_open}
use Rattle.fleet_base.specs.Groups.{AreGrouped}
use Rattle.cert_check.proofs.GroupLaws.{joined_by, one_name, grouped_within}
use Rattle.cert_check.proofs.groups.is_in_open_group.Goals.{else-eq-via-then-eq+else-not-is_open, else-eq-via-else-eq}
use Rattle.cert_check.proofs.groups.is_in_open_group.Goals as goal

pub returns-then-not-is_open : goal.returns-then-not-is_open
returns-then-not-is_open c =
    let g = c.args.graph.now in
    let name = c.group_of-group.ensures g c.requires.groups in
    let other = c.group_of.ensures g c.requires.groups in
    let same = eqb-true c.group_of.result.0 c.group_of-group.result.0 (sym c.eq.ensures ∙ c.if-eq.true) in
    (λ h. absurd (false≢true h), λ opened. absurd (false≢true (sym c.if-not-is_open.true ∙ c.is_open.ensures ∙ opened c.loop-number.number (joined_by g c.args.q.0 c.loop-number.number c.group_of-group.result.0 c.group_of.result.0 name other (sym same)))))

pub loop-number-preserved : goal.loop-number-preserved
loop-number-preserved c = λ r lt j. go r lt j (cases_eq r c.loop-number.number)
  where
    here : AreGrouped c.args.graph.now c.args.q.0 c.loop-number.number → is_open c.args.graph.now c.args.fleet.now c.loop-number.number ≡ true
    here j = elim c.else-eq.branch [
      | else-eq-via-then-eq+else-not-is_open w ↦ sym w.is_open.ensures ∙ w.if-not-is_open.false
      | else-eq-via-else-eq w ↦
          let g = c.args.graph.now in
          let same = one_name g c.args.q.0 c.loop-number.number c.group_of-group.result.0 c.group_of.result.0 (c.group_of-group.ensures g c.requires.groups) (c.group_of.ensures g c.requires.groups) j in
          absurd (false≢true (sym w.if-eq.false ∙ c.eq.ensures ∙ eq-eqb c.group_of.result.0 c.group_of-group.result.0 (sym same)))
    ]

    go : (r : ℕ) → r < c.loop-number.number + 1 → AreGrouped c.args.graph.now c.args.q.0 r → (r ≡ c.loop-number.number) ⊎ (r ≡ c.loop-number.number → ⊥) → is_open c.args.graph.now c.args.fleet.now r ≡ true
    go r lt j (inl e) = subst (λ k. is_open c.args.graph.now c.args.fleet.now k ≡ true) (sym e) (here (subst (λ k. AreGrouped c.args.graph.now c.args.q.0 k) e j))
    go r lt j (inr n) = c.loop-number.invariant r (omega (arith, lt, n)) j

pub returns : goal.returns
returns c = (λ t r j. c.loop-number.invariant r (omega (arith, grouped_within c.args.graph.now c.args.q.0 r c.requires.pair j, c.loop-number-test.false, c.pair_count-number-end.ensures)) j, λ o. refl)
