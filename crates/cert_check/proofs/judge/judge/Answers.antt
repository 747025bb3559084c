use Rattle.std.proofs.Common.{List, [], Option, reverse, length, ap, ◌∙◌}
use Rattle.std.specs.Vec.{with_items}
use Rattle.std.proofs.lemmas.List.{with_items_is}
use Rattle.fleet_base.specs.declared.order.Side.{Side}
use Rattle.cert_check.specs.Sides.{decided}
use Rattle.cert_check.specs.Ways.{way_of}
use Rattle.cert_check.proofs.RoundLaws.{has_ticks_of}
use Rattle.cert_check.proofs.ThroughLaws.{decides_free}
use Rattle.cert_check.proofs.TwoRules.{met_alone, fails_at_kind, decide_at_kind, as_optimal}
use Rattle.cert_check.proofs.judge.judge.Goals as goal

pub judge_alone-word-requires-clause-ticks : goal.judge_alone-word-requires-clause-ticks
judge_alone-word-requires-clause-ticks c = has_ticks_of c.args.graph.now c.args.work.now.ticks c.requires.work.ticks

pub judge_group-requires-clause-free : goal.judge_group-requires-clause-free
judge_group-requires-clause-free c =
    let g = c.args.graph.now in
    let x = c.args.fleet.now in
    let w = c.args.work.now.way in
    let way = way_of (reverse w.steps.items) in
    let found = c.judge_alone-word.ensures.word way (λ q. ap (λ (l : List (Option Side)). decided l q) c.deref_mut.ensures.value ∙ c.requires.way.sides q) in
    let items = with_items_is w.sides c.judge_alone-word.new.sides (ap length c.judge_alone-word.ensures.sides ∙ c.deref_mut.ensures.len) ∙ c.judge_alone-word.ensures.sides ∙ c.deref_mut.ensures.value in
    let met = met_alone g x c.args.cost c.in-Spent.least way c.judge_alone-word.result c.args.kind c.if-is_none.ensures c.in-Spent.is c.args.node.now found in
    decides_free g x c.args.cost c.args.kind [] (record { sides = with_items w.sides c.judge_alone-word.new.sides; steps = w.steps }) c.args.node.now way (λ q. ap (λ (l : List (Option Side)). decided l q) items ∙ c.requires.way.sides q) c.requires.work.sides met.0

pub returns-in-Spent-clause-word : goal.returns-in-Spent-clause-word
returns-in-Spent-clause-word c =
    let g = c.args.graph.now in
    let x = c.args.fleet.now in
    let w = c.args.work.now.way in
    let way = way_of (reverse w.steps.items) in
    let found = c.judge_alone-word.ensures.word way (λ q. ap (λ (l : List (Option Side)). decided l q) c.deref_mut.ensures.value ∙ c.requires.way.sides q) in
    let met = met_alone g x c.args.cost c.in-Spent.least way c.judge_alone-word.result c.args.kind c.if-is_none.ensures c.in-Spent.is c.args.node.now found in
    decide_at_kind g x c.args.cost c.in-Spent.least way c.judge_group.result c.args.kind c.in-Spent.is c.args.node.now met c.judge_group.ensures.word

pub returns-in_default-clause-word : goal.returns-in_default-clause-word
returns-in_default-clause-word c =
    let g = c.args.graph.now in
    let x = c.args.fleet.now in
    let w = c.args.work.now.way in
    let way = way_of (reverse w.steps.items) in
    let found = c.judge_alone-word.ensures.word way (λ q. ap (λ (l : List (Option Side)). decided l q) c.deref_mut.ensures.value ∙ c.requires.way.sides q) in
    fails_at_kind g x c.args.cost c.in-Spent.least way c.judge_alone-word.result c.args.kind c.if-is_none.ensures c.in-Spent.is c.args.node.now found

pub returns-in_default-2-clause-word : goal.returns-in_default-2-clause-word
returns-in_default-2-clause-word c =
    let g = c.args.graph.now in
    let x = c.args.fleet.now in
    let w = c.args.work.now.way in
    let way = way_of (reverse w.steps.items) in
    let found = c.judge_alone-word.ensures.word way (λ q. ap (λ (l : List (Option Side)). decided l q) c.deref_mut.ensures.value ∙ c.requires.way.sides q) in
    as_optimal g x c.args.cost way c.judge_alone-word.result c.args.kind c.in_default.is c.args.node.now found
