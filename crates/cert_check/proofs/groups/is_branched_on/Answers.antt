use Rattle.std.proofs.Common.{List, ◌≡◌, length, reverse, refl, sym, ◌∙◌, subst}
use Rattle.std.specs.Prelude.{Contains, slice_index_or}
use Rattle.std.proofs.lemmas.Bool.{eqb-true, eq-eqb, false≢true}
use Rattle.std.proofs.lemmas.List.{take_all}
use Rattle.std.proofs.lemmas.Option.{slice_get-get_or}
use Rattle.fleet_base.specs.declared.order.PairId.{PairId}
use Rattle.fleet_base.specs.Groups.{AreGrouped}
use Rattle.fleet_base.proofs.Members.{in_none}
use Rattle.cert_tree.specs.GroupRules.{branch_pairs}
use Rattle.cert_check.specs.declared.way.Step.{Step}
use Rattle.cert_check.specs.declared.way.Step.TheVariants.{Lower}
use Rattle.cert_check.specs.Ways.{way_of}
use Rattle.cert_check.proofs.GroupLaws.{joined_by, one_name, step_within, one_step_more, branched_there}
use Rattle.cert_check.proofs.groups.is_branched_on.Goals.{in-Some+else-eq, in_default}
use Rattle.cert_check.proofs.groups.is_branched_on.Goals as goal

pub group_of-requires : goal.group_of-requires
group_of-requires c =
    let k = c.loop-step.step-index in
    step_within (length c.args.groups.now) c.args.steps.now k (slice_index_or c.args.steps.now k (Lower (record { 0 = 0 }))) c.in-Some.pair c.requires.steps (slice_get-get_or c.args.steps.now k (Lower (record { 0 = 0 })) c.loop-step-test.true) (sym c.branched_on.ensures ∙ c.in-Some.is)

pub loop-step-init : goal.loop-step-init
loop-step-init c = λ g all r h j. in_none r h

pub loop-step-preserved : goal.loop-step-preserved
loop-step-preserved c = λ g all.
    let k = c.loop-step.step-index in
    let s = slice_index_or c.args.steps.now k (Lower (record { 0 = 0 })) in
    one_step_more g c.args.q.0 c.args.steps.now k s (slice_get-get_or c.args.steps.now k (Lower (record { 0 = 0 })) c.loop-step-test.true)
    (elim c.match-branched_on.branch [
      | in-Some+else-eq w ↦ λ p e j.
          let one : w.in-Some.pair ≡ p = let a = w.in-Some.is in let b = c.branched_on.ensures in cc in
          let same = one_name g c.args.q.0 w.in-Some.pair.0 c.group_of-group.result.0 w.group_of.result.0 (c.group_of-group.ensures g all) (w.group_of.ensures g all) (subst (λ (q : PairId). AreGrouped g c.args.q.0 q.0) (sym one) j) in
          absurd (false≢true (sym w.if-eq.false ∙ w.eq.ensures ∙ eq-eqb w.group_of.result.0 c.group_of-group.result.0 (sym same)))
      | in_default w ↦ λ p e j. absurd (let a = w.in_default.is in let b = c.branched_on.ensures in cc)
    ]) (c.loop-step.invariant g all)

pub returns : goal.returns
returns c = λ g all. (λ t. absurd (false≢true t), λ (r, h, j). absurd (c.loop-step.invariant g all r (subst (λ (l : List Step). Contains (branch_pairs (way_of (reverse l))) r) (sym (take_all c.loop-step.step-index c.args.steps.now c.loop-step-test.false)) h) j))

pub returns-then-eq : goal.returns-then-eq
returns-then-eq c = λ g all.
    let k = c.loop-step.step-index in
    let s = slice_index_or c.args.steps.now k (Lower (record { 0 = 0 })) in
    let there = slice_get-get_or c.args.steps.now k (Lower (record { 0 = 0 })) c.loop-step-test.true in
    let same = eqb-true c.group_of.result.0 c.group_of-group.result.0 (sym c.eq.ensures ∙ c.if-eq.true) in
    (λ t. (c.in-Some.pair.0, branched_there g c.args.q.0 c.args.steps.now k s there c.in-Some.pair (sym c.branched_on.ensures ∙ c.in-Some.is), joined_by g c.args.q.0 c.in-Some.pair.0 c.group_of-group.result.0 c.group_of.result.0 (c.group_of-group.ensures g all) (c.group_of.ensures g all) (sym same)), λ h. refl)
