use Rattle.std.proofs.Common.{◌≡◌, ◌∙◌, ap, arith, [], List}
use Rattle.fleet_base.specs.declared.order.Pair.{Pair}
use Rattle.fleet_base.specs.declared.order.PairId.{PairId}
use Rattle.fleet_base.specs.Lists.{row_of}
use Rattle.fleet_base.specs.Pairs.{numbers_of}
use Rattle.fleet_base.proofs.pairs.PairTable.of.Goals as goal

pub returns-in-Some : goal.returns-in-Some
returns-in-Some c =
    let row : c.in-Some.row.now ≡ row_of c.deref.result.now c.args.v.robot = c.in-Some.ensures.lookup.4 (omega arith) [] in
    c.row.ensures ∙ ap (λ (r : List (List PairId)). row_of r c.args.v.index) (row ∙ ap (λ (rs : List (List (List PairId))). row_of rs c.args.v.robot) c.deref.ensures.value)
    ∙ c.self.invariant.numbers c.args.v.robot c.args.v.index ∙ ap (λ (ps : List Pair). numbers_of ps c.args.v) c.self.view_is

pub returns-in-None : goal.returns-in-None
returns-in-None c =
    let row : [] ≡ row_of c.deref.result.now c.args.v.robot = c.in-None.ensures.lookup.4 (omega arith) [] in
    ap (λ (r : List (List PairId)). row_of r c.args.v.index) (row ∙ ap (λ (rs : List (List (List PairId))). row_of rs c.args.v.robot) c.deref.ensures.value)
    ∙ c.self.invariant.numbers c.args.v.robot c.args.v.index ∙ ap (λ (ps : List Pair). numbers_of ps c.args.v) c.self.view_is
