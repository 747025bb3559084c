use Rattle.std.proofs.Common.{ℕ, ◌≡◌, ◌≢◌, ◌+◌, ◌<◌, List, [], sym, ◌∙◌, ap, subst, arith, length, get_or}
use Rattle.std.proofs.lemmas.List.{with_items_is}
use Rattle.std.proofs.lemmas.Grind.{get_or_default_zero}
use Rattle.edge_groups.specs.Kept.{rows_in}
use Rattle.edge_groups.specs.Naming.{IsNaming}
use Rattle.edge_groups.proofs.Spreading.{named_all, named_next}
use Rattle.edge_groups.proofs.naming.name_groups.Goals as goal
use Rattle.edge_groups.proofs.naming.name_groups.Goals.{then-index+in_ok-name_group, else-index}

pub loop-q-preserved : goal.loop-q-preserved
loop-q-preserved c =
    let now = c.loop-q.invariant in
    elim c.if-index.branch [
      | then-index+in_ok-name_group w ↦
          let kept = with_items_is c.loop-q.names w.name_group.new.names (w.in_ok-name_group.ensures.naming.count ∙ sym now.0.count ∙ sym c.loop-q.names.ok.0) in
          let names = ap (λ v. v.items) w.names-is ∙ kept in (
            subst (λ (ns : List ℕ). IsNaming (rows_in c.args.lists.now) ns [] (c.loop-q.q + 1)) (sym names) w.in_ok-name_group.ensures.naming,
            ap (λ v. v.items) w.waiting-is ∙ w.in_ok-name_group.ensures.none,
            ap length names ∙ w.in_ok-name_group.ensures.naming.count ∙ sym now.0.count ∙ now.2,
          )
      | else-index w ↦
          let there : c.loop-q.q < length c.loop-q.names.items = omega (arith, c.loop-q-test.true, now.2) in
          let named : get_or c.loop-q.names.items c.loop-q.q 0 ≢ 4294967295 = λ e. w.if-index.false (c.index.ensures ∙ get_or_default_zero c.loop-q.names.items c.loop-q.q c.index.result.now there ∙ e) in (
            subst (λ (ns : List ℕ). IsNaming (rows_in c.args.lists.now) ns [] (c.loop-q.q + 1)) (sym (ap (λ v. v.items) w.names-is)) (named_next (rows_in c.args.lists.now) c.requires.mutual c.loop-q.names.items c.loop-q.q there named now.0),
            ap (λ v. v.items) w.waiting-is ∙ now.1,
            ap length (ap (λ v. v.items) w.names-is) ∙ now.2,
          )
    ]

pub returns : goal.returns
returns c =
    let now = c.loop-q.invariant in
    let all : c.loop-q.q ≡ length (rows_in c.args.lists.now) = omega (arith, c.loop-q-test.false, c.loop-q.auto.q-end, now.2, now.0.count) in
    named_all (rows_in c.args.lists.now) c.requires.mutual c.loop-q.names.items (subst (λ (n : ℕ). IsNaming (rows_in c.args.lists.now) c.loop-q.names.items [] n) all now.0)
