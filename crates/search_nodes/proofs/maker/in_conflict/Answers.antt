use Rattle.std.proofs.Common.{sym, ◌∙◌}
use Rattle.fleet_base.specs.declared.order.Side.TheVariants.{Lower}
use Rattle.fleet_base.proofs.OpenPairs.{open_listed}
use Rattle.longest_path.specs.Deciding.{order_in_force}
use Rattle.search_nodes.proofs.Sides.{free_of_none, no_side}
use Rattle.search_nodes.proofs.Conflicts.{neither_told}
use Rattle.search_nodes.proofs.maker.in_conflict.Goals as goal

pub obeys-requires-clause-open : goal.obeys-requires-clause-open
obeys-requires-clause-open c = (free_of_none c.args.live.now.graph c.args.live.now.state c.args.live.now.decisions c.requires.state c.args.q.0 c.requires.there (sym c.side.ensures ∙ no_side c.side.result c.if-is_some.ensures)).0

pub obeys-requires-2-clause-open : goal.obeys-requires-2-clause-open
obeys-requires-2-clause-open c = (free_of_none c.args.live.now.graph c.args.live.now.state c.args.live.now.decisions c.requires.state c.args.q.0 c.requires.there (sym c.side.ensures ∙ no_side c.side.result c.if-is_some.ensures)).0

pub returns-clause-none : goal.returns-clause-none
returns-clause-none c = λ t. sym c.side.ensures ∙ no_side c.side.result c.if-is_some.ensures

pub returns-clause-conflict : goal.returns-clause-conflict
returns-clause-conflict c =
    let g = c.args.live.now.graph in
    let x = c.args.live.now.state in
    let none = sym c.side.ensures ∙ no_side c.side.result c.if-is_some.ensures in
    let free = free_of_none g x c.args.live.now.decisions c.requires.state c.args.q.0 c.requires.there none in
    let p = open_listed g x c.args.q.0 free.0 in
    λ s least.
    neither_told g x (order_in_force c.args.live.now) c.args.q.0 s c.obeys-2.result p.0 none p.1 (λ h. let t = (c.obeys.ensures p.0 s p.1 least).1 h in let f = c.if-obeys.false in cc) (c.obeys-2.ensures p.0 s p.1 least)

pub returns-then-obeys-clause-conflict : goal.returns-then-obeys-clause-conflict
returns-then-obeys-clause-conflict c =
    let g = c.args.live.now.graph in
    let x = c.args.live.now.state in
    let none = sym c.side.ensures ∙ no_side c.side.result c.if-is_some.ensures in
    let free = free_of_none g x c.args.live.now.decisions c.requires.state c.args.q.0 c.requires.there none in
    let p = open_listed g x c.args.q.0 free.0 in
    λ s least. (λ t. absurd (let z = t in cc), λ u. absurd (u.neither p.0 Lower p.1 ((c.obeys.ensures p.0 s p.1 least).0 c.if-obeys.true)))
