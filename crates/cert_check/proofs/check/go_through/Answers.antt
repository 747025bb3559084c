use Rattle.std.proofs.Common.{List, Option, refl, sym, ap, arith, reverse, subst, ◌∙◌}
use Rattle.std.specs.Vec.{vec_capacity}
use Rattle.fleet_base.specs.declared.order.Side.{Side}
use Rattle.cert_tree.specs.Preorder.{ways_after}
use Rattle.cert_check.specs.declared.way.Step.{Step}
use Rattle.cert_check.specs.declared.workspace.Workspace.{Workspace}
use Rattle.cert_check.specs.Sides.{decided}
use Rattle.cert_check.specs.Sums.{AreSums}
use Rattle.cert_check.specs.Ways.{HasWay, NextWay, way_of, ways_of}
use Rattle.cert_check.proofs.RoundLaws.{has_ticks_of}
use Rattle.cert_check.proofs.ThroughLaws.{item_there, behind_the_end, node_fails, one_more_right, next_way, ends_early, decides_free, right_of}
use Rattle.cert_check.proofs.WayLaws.{has_way_kept}
use Rattle.cert_check.proofs.WorkLaws.{work_kept, keeps_on}
use Rattle.cert_check.proofs.check.go_through.Goals as goal

pub sum_up-requires-clause-rows : goal.sum_up-requires-clause-rows
sum_up-requires-clause-rows c = has_ticks_of c.args.graph.now c.args.work.now.sums c.requires.work.sums

pub returns-then-not-goes_on-clause-some : goal.returns-then-not-goes_on-clause-some
returns-then-not-goes_on-clause-some c = behind_the_end c.args.graph.now c.args.fleet.now c.args.cost c.args.kind c.args.nodes.now c.loop-number.number c.loop-number.invariant.right c.loop-number.work.way c.loop-number.goes_on c.if-not-goes_on.true c.loop-number.invariant.next c.loop-number-test.true

pub judge-requires-clause-work : goal.judge-requires-clause-work
judge-requires-clause-work c = work_kept c.args.graph.now c.args.work.now c.loop-number.work c.requires.work c.loop-number.invariant.keeps

pub returns-in-Some-clause-some : goal.returns-in-Some-clause-some
returns-in-Some-clause-some c = node_fails c.args.graph.now c.args.fleet.now c.args.cost c.args.kind c.args.nodes.now c.loop-number.number c.loop-number.invariant.right c.loop-number.work.way c.loop-number.goes_on c.index-nodes-number.result c.in-Some.why c.if-not-goes_on.false c.loop-number.invariant.next (item_there c.args.nodes.now c.loop-number.number c.index-nodes-number.result c.loop-number-test.true c.index-nodes-number.is) c.in-Some.ensures.word

pub returns-in-Some-clause-work : goal.returns-in-Some-clause-work
returns-in-Some-clause-work c = keeps_on c.args.work.now c.loop-number.work c.judge.new.work c.loop-number.invariant.keeps c.in-Some.ensures.work

pub follow-goes_on-requires-clause-way : goal.follow-goes_on-requires-clause-way
follow-goes_on-requires-clause-way c = has_way_kept c.loop-number.work.way c.judge.new.work.way (reverse c.loop-number.work.way.steps.items) c.loop-number.invariant.way (ap (λ v. v.items) c.in_default.ensures.steps) (ap (λ v. vec_capacity v) c.in_default.ensures.steps) c.in_default.ensures.sides c.in_default.ensures.work.sides

pub follow-goes_on-requires-clause-free : goal.follow-goes_on-requires-clause-free
follow-goes_on-requires-clause-free c =
    let way = way_of (reverse c.loop-number.work.way.steps.items) in
    decides_free c.args.graph.now c.args.fleet.now c.args.cost c.args.kind c.args.nodes.now c.judge.new.work.way c.index-nodes-number.result way (λ q. ap (λ (l : List (Option Side)). decided l q) c.in_default.ensures.sides ∙ c.loop-number.invariant.way.sides q) (c.in_default.ensures.work.sides ∙ c.loop-number.invariant.keeps.sides ∙ c.requires.work.sides) (right_of c.args.graph.now c.args.fleet.now c.args.cost c.args.kind c.args.nodes.now way c.index-nodes-number.result c.in_default.ensures.word)

pub loop-number-init : goal.loop-number-init
loop-number-init c =
    let kept = c.clear.ensures.way.kept in
    record {
      right = tt;
      next = ap (λ (l : List Step). ways_of l) (sym kept);
      way = subst (λ (l : List Step). HasWay c.clear.new.self l) (sym kept) c.clear.ensures.way;
      sums = c.sum_up.ensures.sums;
      keeps = record { sides = c.clear.ensures.sides; steps = c.clear.ensures.way.room; ticks = refl; sums = c.sum_up.ensures.rows; groups = refl; taken = refl };
    }

pub loop-number-preserved : goal.loop-number-preserved
loop-number-preserved c =
    let after : Workspace = record { way = c.follow-goes_on.new.self; ticks = c.judge.new.work.ticks; sums = c.judge.new.work.sums; groups = c.judge.new.work.groups; taken = c.judge.new.work.taken } in
    record {
      right = one_more_right c.args.graph.now c.args.fleet.now c.args.cost c.args.kind c.args.nodes.now c.loop-number.number c.loop-number.invariant.right c.loop-number.work.way c.loop-number.goes_on c.index-nodes-number.result c.if-not-goes_on.false c.loop-number.invariant.next (item_there c.args.nodes.now c.loop-number.number c.index-nodes-number.result c.loop-number-test.true c.index-nodes-number.is) c.in_default.ensures.word;
      next = next_way c.args.graph.now c.args.fleet.now c.args.cost c.args.kind c.args.nodes.now c.loop-number.number c.loop-number.invariant.right c.loop-number.work.way c.loop-number.goes_on c.index-nodes-number.result c.follow-goes_on.new.self c.follow-goes_on.result c.if-not-goes_on.false c.loop-number.invariant.next (item_there c.args.nodes.now c.loop-number.number c.index-nodes-number.result c.loop-number-test.true c.index-nodes-number.is) (subst (λ (l : List Step). NextWay (ways_after c.index-nodes-number.result (ways_of (reverse l))) c.follow-goes_on.new.self c.follow-goes_on.result) (ap (λ v. v.items) c.in_default.ensures.steps) c.follow-goes_on.ensures.next);
      way = c.follow-goes_on.ensures.way;
      sums = subst (λ s. AreSums c.args.graph.now c.args.fleet.now s) (sym c.in_default.ensures.sums) c.loop-number.invariant.sums;
      keeps = keeps_on c.args.work.now c.loop-number.work after c.loop-number.invariant.keeps (record {
        sides = c.follow-goes_on.ensures.sides ∙ c.in_default.ensures.work.sides;
        steps = c.follow-goes_on.ensures.way.room;
        ticks = c.in_default.ensures.work.ticks;
        sums = c.in_default.ensures.work.sums;
        groups = c.in_default.ensures.work.groups;
        taken = c.in_default.ensures.work.taken;
      });
    }

pub returns-then-goes_on-clause-some : goal.returns-then-goes_on-clause-some
returns-then-goes_on-clause-some c = ends_early c.args.graph.now c.args.fleet.now c.args.cost c.args.kind c.args.nodes.now c.loop-number.number c.loop-number.invariant.right c.loop-number.work.way c.loop-number.goes_on (omega (arith, c.loop-number-test.false, c.loop-number.auto.number-end)) c.if-goes_on.true c.loop-number.invariant.next
