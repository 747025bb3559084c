use Rattle.std.proofs.Common.{ℕ, ◌≡◌, ◌<◌, List, sym, ◌∙◌, subst, ap, arith, length}
use Rattle.std.proofs.lemmas.Grind.{get_or_default_zero}
use Rattle.fleet_base.specs.declared.order.PairId.{PairId}
use Rattle.edge_groups.specs.Kept.{rows_in}
use Rattle.edge_groups.specs.Names.{IsNameOf}
use Rattle.edge_groups.proofs.Rows.{names_group}
use Rattle.edge_groups.proofs.table.GroupTable.group_of.Goals as goal

pub returns : goal.returns
returns c =
    let rows_are : rows_in c.self.inside.lists ≡ c.args.self.now = c.self.view_is in
    let there : c.args.q.0 < length (rows_in c.self.inside.lists) = omega (arith, c.requires, ap length rows_are) in
    let name_is = c.index.ensures ∙ get_or_default_zero c.self.inside.names.items c.args.q.0 c.index.result.now (omega (arith, there, c.self.invariant.names.count)) in
    λ g all. names_group g c.args.self.now all c.args.q.0 c.index.result.now
    (subst (λ (rows : List (List PairId)). IsNameOf rows c.args.q.0 c.index.result.now) rows_are
    (subst (λ (n : ℕ). IsNameOf (rows_in c.self.inside.lists) c.args.q.0 n) (sym name_is) (c.self.invariant.names.each c.args.q.0 there)))
