use Rattle.std.proofs.Common.{ℕ, ◌+◌, ◌∙◌, List, length, arith, ap, subst, sym, set, get_or}
use Rattle.fleet_base.proofs.GraphLaws.{length-map}
use Rattle.fleet_base.proofs.Members.{head_in}
use Rattle.edge_groups.specs.Kept.{rows_in, mates_at}
use Rattle.edge_groups.specs.Naming.{unnamed_in}
use Rattle.edge_groups.proofs.Spreading.{Spreads, mate_there, spread_old, spread_new, spread_all}
use Rattle.edge_groups.proofs.naming.name_mates.Goals as goal
use Rattle.edge_groups.proofs.naming.name_mates.Goals.{then-names-mate+in_ok-wait, else-names-mate}

pub row-mate-items-requires-clause-there : goal.row-mate-items-requires-clause-there
row-mate-items-requires-clause-there c =
    let named = c.requires.pending c.args.q (head_in c.args.q c.args.waiting.now.items) in
    omega (arith, named.0.0, c.requires.naming.count, length-map (mates_at c.args.lists.now.mates.items) c.args.lists.now.places.items)

pub bounds-names-mate : goal.bounds-names-mate
bounds-names-mate c =
    mate_there (rows_in c.args.lists.now) c.requires.mutual c.row-mate-items.result.now c.args.q c.args.name (length c.args.waiting.now.items + unnamed_in c.args.names.now) c.loop-mate.names c.loop-mate.waiting.items c.loop-mate.mate-index
    c.row-mate-items.ensures c.loop-mate-test.true c.loop-mate.invariant

pub loop-mate-preserved : goal.loop-mate-preserved
loop-mate-preserved c =
    let rows = rows_in c.args.lists.now in
    let mates = c.row-mate-items.result.now in
    let left = length c.args.waiting.now.items + unnamed_in c.args.names.now in
    let k = c.loop-mate.mate-index in
    let m = (get_or mates k (record { 0 = 0 })).0 in
    elim c.if-names-mate.branch [
      | then-names-mate+in_ok-wait w ↦
          subst (λ (names : List ℕ). Spreads rows c.requires.mutual mates c.args.q c.args.name left names c.if-names-mate.waiting.items (k + 1)) (sym w.names-is)
          (subst (λ (waiting : List ℕ). Spreads rows c.requires.mutual mates c.args.q c.args.name left (set c.loop-mate.names m c.args.name) waiting (k + 1)) (sym (ap (λ v. v.items) w.waiting-is ∙ w.in_ok-wait.ensures))
          (spread_new rows c.requires.mutual mates c.args.q c.args.name left c.loop-mate.names c.loop-mate.waiting.items k c.row-mate-items.ensures c.loop-mate-test.true c.loop-mate.invariant w.if-names-mate.true))
      | else-names-mate w ↦
          subst (λ (names : List ℕ). Spreads rows c.requires.mutual mates c.args.q c.args.name left names c.if-names-mate.waiting.items (k + 1)) (sym w.names-is)
          (subst (λ (waiting : List ℕ). Spreads rows c.requires.mutual mates c.args.q c.args.name left c.loop-mate.names waiting (k + 1)) (sym (ap (λ v. v.items) w.waiting-is))
          (spread_old rows c.requires.mutual mates c.args.q c.args.name left c.loop-mate.names c.loop-mate.waiting.items k c.row-mate-items.ensures c.loop-mate-test.true c.loop-mate.invariant w.if-names-mate.false))
    ]

pub returns-clause-naming : goal.returns-clause-naming
returns-clause-naming c =
    (spread_all (rows_in c.args.lists.now) c.requires.mutual c.row-mate-items.result.now c.args.q c.args.name (length c.args.waiting.now.items + unnamed_in c.args.names.now) c.loop-mate.names c.loop-mate.waiting.items c.loop-mate.mate-index
    c.row-mate-items.ensures c.loop-mate-test.false c.loop-mate.invariant).0

pub returns-clause-pending : goal.returns-clause-pending
returns-clause-pending c =
    (spread_all (rows_in c.args.lists.now) c.requires.mutual c.row-mate-items.result.now c.args.q c.args.name (length c.args.waiting.now.items + unnamed_in c.args.names.now) c.loop-mate.names c.loop-mate.waiting.items c.loop-mate.mate-index
    c.row-mate-items.ensures c.loop-mate-test.false c.loop-mate.invariant).1
