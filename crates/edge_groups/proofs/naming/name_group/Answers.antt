use Rattle.std.proofs.Common.{ℕ, ◌+◌, ◌<◌, ◌∷◌, ◌++◌, [], List, sym, ◌∙◌, ap, subst, arith, set}
use Rattle.fleet_base.proofs.GraphLaws.{length-map}
use Rattle.edge_groups.specs.Kept.{rows_in, mates_at}
use Rattle.edge_groups.specs.Naming.{IsNaming, AreNamed}
use Rattle.edge_groups.proofs.Spreading.{group_begun, taken}
use Rattle.edge_groups.proofs.naming.name_group.Goals as goal

pub loop-q-init : goal.loop-q-init
loop-q-init c =
    let small : c.args.least < 1048577 = omega (arith, c.requires.there, c.requires.naming.count, c.requires.kept.few, length-map (mates_at c.args.lists.now.mates.items) c.args.lists.now.places.items) in
    subst (λ (waiting : List ℕ). IsNaming (rows_in c.args.lists.now) (set c.args.names.now c.args.least c.args.least) waiting (c.args.least + 1) × AreNamed (set c.args.names.now c.args.least c.args.least) waiting c.args.least)
    (sym (c.in_ok-wait.ensures ∙ ap (λ (ws : List ℕ). ws ++ c.args.least ∷ []) c.requires.none))
    (group_begun (rows_in c.args.lists.now) c.requires.mutual c.args.names.now c.args.least (λ e. omega (arith, small, e)) c.requires.there c.requires.unnamed c.requires.naming)

pub name_mates-requires-clause-naming : goal.name_mates-requires-clause-naming
name_mates-requires-clause-naming c =
    let now = subst (λ (waiting : List ℕ). IsNaming (rows_in c.args.lists.now) c.loop-q.names waiting (c.args.least + 1) × AreNamed c.loop-q.names waiting c.args.least) c.in-Some.ensures.items c.loop-q.invariant in
    (taken (rows_in c.args.lists.now) c.requires.mutual c.loop-q.names c.pop.new.self.items c.in-Some.q c.args.least (c.args.least + 1) now.0 now.1).0

pub name_mates-requires-clause-pending : goal.name_mates-requires-clause-pending
name_mates-requires-clause-pending c =
    let now = subst (λ (waiting : List ℕ). IsNaming (rows_in c.args.lists.now) c.loop-q.names waiting (c.args.least + 1) × AreNamed c.loop-q.names waiting c.args.least) c.in-Some.ensures.items c.loop-q.invariant in
    (taken (rows_in c.args.lists.now) c.requires.mutual c.loop-q.names c.pop.new.self.items c.in-Some.q c.args.least (c.args.least + 1) now.0 now.1).1
