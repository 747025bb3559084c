use Rattle.std.proofs.Common.{◌≡◌, ◌+◌, ◌<◌, ◌∙◌, ap, arith, length, map, set}
use Rattle.std.proofs.lemmas.List.{length-set}
use Rattle.fleet_base.specs.declared.geometry.Visit.{Visit}
use Rattle.fleet_base.specs.Lists.{row_of}
use Rattle.fleet_base.specs.State.{duration_of}
use Rattle.fleet_base.specs.Paths.{travel}
use Rattle.fleet_base.proofs.Walking.{travel_none}
use Rattle.cert_tree.proofs.EdgeLaws.{visit}
use Rattle.cert_tree.proofs.Walks.{travel_more}
use Rattle.cert_check.specs.Sums.{first_of}
use Rattle.cert_check.proofs.ForgetLaws.{row_len, same_rows}
use Rattle.cert_check.proofs.RoundLaws.{lengths_set}
use Rattle.cert_check.proofs.SumLaws.{row_start, row_more, others_stay}
use Rattle.cert_check.proofs.sums.sum_row.Goals as goal

pub loop-index-init : goal.loop-index-init
loop-index-init c =
    let rows = c.args.sums.now in
    let i = c.args.robot in
    let inside : i < length rows = omega (arith, c.requires.rows.robots, c.requires.robot) in
    let there : 0 < length (row_of rows i) = omega (arith, c.requires.rows.visits i c.requires.robot) in
    let none = travel_none c.args.fleet.now (first_of i) in
    record {
      sum = omega (arith, none);
      short = omega arith;
      row = row_start c.args.fleet.now rows c.set_in.new.self i inside there c.set_in.ensures;
      others = λ v ne. others_stay c.args.fleet.now rows c.set_in.new.self i 0 0 v inside c.set_in.ensures ne;
      rows = ap (λ r. map length r) c.set_in.ensures ∙ lengths_set rows i (set (row_of rows i) 0 0) (length-set (row_of rows i) 0 0);
    }

pub set_in-requires-in-loop-index-clause-at : goal.set_in-requires-in-loop-index-clause-at
set_in-requires-in-loop-index-clause-at c =
    let same = row_len c.loop-index.sums c.args.sums.now c.args.robot c.loop-index.invariant.rows in
    let at = ap (λ (v : Visit). v.index) c.next-next.ensures in
    omega (arith, same, at, c.requires.rows.visits c.args.robot c.requires.robot, c.loop-index-test.true, c.last-index-end.ensures)

pub loop-index-preserved : goal.loop-index-preserved
loop-index-preserved c =
    let rows = c.loop-index.sums in
    let i = c.args.robot in
    let n = c.loop-index.index in
    let sum = c.loop-index.sum + c.duration-sum.result in
    let at = ap (λ (v : Visit). v.index) c.next-next.ensures in
    let is = c.set_in-in-loop-index.ensures ∙ ap (λ k. set rows i (set (row_of rows i) k sum)) at in
    let same = row_len rows c.args.sums.now i c.loop-index.invariant.rows in
    let inside : i < length rows = omega (arith, same_rows rows c.args.sums.now c.loop-index.invariant.rows, c.requires.rows.robots, c.requires.robot) in
    let there : n + 1 < length (row_of rows i) = omega (arith, same, c.requires.rows.visits i c.requires.robot, c.loop-index-test.true, c.last-index-end.ensures) in
    let more = travel_more c.args.fleet.now (first_of i) n (omega arith) in
    let one = c.duration-sum.ensures ∙ ap (λ (v : Visit). duration_of c.args.fleet.now v) c.next-next.ensures in
    let delay = c.requires.state.delays (visit i (n + 1)) in
    let total : sum ≡ travel c.args.fleet.now (first_of i) (n + 1) = omega (arith, c.loop-index.invariant.sum, more, one) in
    record {
      sum = total;
      short = omega (arith, c.loop-index.invariant.short, one, delay);
      row = row_more c.args.fleet.now rows c.set_in-in-loop-index.new.self i n sum inside there is total (omega (arith, c.loop-index.invariant.short, one, delay)) c.loop-index.invariant.row;
      others = λ v ne. others_stay c.args.fleet.now rows c.set_in-in-loop-index.new.self i (n + 1) sum v inside is ne ∙ c.loop-index.invariant.others v ne;
      rows = ap (λ r. map length r) is ∙ lengths_set rows i (set (row_of rows i) (n + 1) sum) (length-set (row_of rows i) (n + 1) sum) ∙ c.loop-index.invariant.rows;
    }
