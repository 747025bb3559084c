use Rattle.std.proofs.Common.{◌+◌, ◌<◌, length, sym, ◌∙◌, subst, arith}
use Rattle.std.proofs.lemmas.Bool.{false≢true}
use Rattle.cert_check.specs.Taken.{AreTaken}
use Rattle.cert_check.proofs.GroupLaws.{name_within, all_off, none_taken, taken_same, taken_more}
use Rattle.cert_check.proofs.groups.take_groups.Goals.{then-not-is_free, else-not-is_free}
use Rattle.cert_check.proofs.groups.take_groups.Goals as goal

pub bounds-taken-group : goal.bounds-taken-group
bounds-taken-group c = omega (arith, name_within c.args.graph.now c.loop-number.number c.group_of-group.result.0 (omega (arith, c.loop-number-test.true, c.pair_count-number-end.ensures)) (c.group_of-group.ensures c.args.graph.now c.requires.groups), c.loop-number.invariant.long, c.requires.taken)

pub loop-number-init : goal.loop-number-init
loop-number-init c = record { taken = none_taken c.args.graph.now c.args.fleet.now c.args.sides.now c.fill.new.self (λ n. all_off (length c.args.taken.now) n c.fill.new.self (c.fill.ensures.after (λ y e. e))); long = c.fill.ensures.len }

pub loop-number-preserved : goal.loop-number-preserved
loop-number-preserved c =
    let g = c.args.graph.now in
    let x = c.args.fleet.now in
    let k = c.loop-number.number in
    let inside : k < length g.pairs = omega (arith, c.loop-number-test.true, c.pair_count-number-end.ensures) in
    let long = c.if-not-is_free.auto.taken ∙ c.loop-number.invariant.long in
    elim c.if-not-is_free.branch [
      | then-not-is_free w ↦
          let name = w.group_of-group.ensures g c.requires.groups in
          record {
            taken = taken_more g x c.args.sides.now k w.group_of-group.result.0 c.loop-number.taken c.if-not-is_free.taken (λ f. false≢true (sym w.if-not-is_free.true ∙ c.is_free.ensures.1 f)) name (omega (arith, name_within g k w.group_of-group.result.0 inside name, c.loop-number.invariant.long, c.requires.taken)) w.taken-is c.loop-number.invariant.taken;
            long = long;
          }
      | else-not-is_free w ↦ record {
        taken = subst (λ t. AreTaken g x c.args.sides.now (k + 1) t) (sym w.taken-is) (taken_same g x c.args.sides.now k c.loop-number.taken (c.is_free.ensures.0 w.if-not-is_free.false) c.loop-number.invariant.taken);
        long = long;
      }
    ]

pub returns-clause-groups : goal.returns-clause-groups
returns-clause-groups c = subst (λ n. AreTaken c.args.graph.now c.args.fleet.now c.args.sides.now n c.loop-number.taken) (omega (arith, c.loop-number-test.false, c.loop-number.auto.number-end, c.pair_count-number-end.ensures)) c.loop-number.invariant.taken
