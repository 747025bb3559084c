use Rattle.std.proofs.lemmas.Result.{on_ok_weaker}
use Rattle.std.proofs.Common.{List, ◌++◌, ap, ◌∙◌}
use Rattle.std.specs.Option.{option_to_list}
use Rattle.fleet_base.specs.declared.order.PairId.{PairId}
use Rattle.edge_groups.proofs.Rows.{closed_row, found_mates, reached_for}
use Rattle.edge_groups.proofs.listing.Finder.list.Goals as goal

pub returns-clause-row : goal.returns-clause-row
returns-clause-row c =
    let g = c.args.graph.now in
    let plan = c.robots-plan.ensures.plan in
    let q = c.args.q.0 in
    let rank = c.rank_at-rank.result in
    let at = c.rank_at-rank.ensures.rank in
    let f = c.args.self.now in
    let xs = option_to_list c.find-first.result in
    let ys = option_to_list c.find-second.result in
    let zs = option_to_list c.find-third.result in
    let ws = option_to_list c.find-fourth.result in
    let appended =
    c.in_ok-push-4.ensures.mates
    ∙ ap (λ (ms : List PairId). ms ++ ws) (c.in_ok-push-3.ensures.mates ∙ ap (λ (ms : List PairId). ms ++ zs) (c.in_ok-push-2.ensures.mates ∙ ap (λ (ms : List PairId). ms ++ ys) c.in_ok-push.ensures.mates)) in
    let places = c.in_ok-push-4.ensures.places ∙ c.in_ok-push-3.ensures.places ∙ c.in_ok-push-2.ensures.places ∙ c.in_ok-push.ensures.places in
    on_ok_weaker c.close.result
    (λ rows. (
      xs ++ (ys ++ (zs ++ ws)),
      closed_row c.args.lists.now.mates.items c.push-4.new.self.mates.items c.args.lists.now.places.items c.push-4.new.self.places.items _ xs ys zs ws c.len-start.result appended places (c.len-start.ensures ∙ c.args.lists.now.mates.ok.0) c.requires.kept.within rows,
      found_mates g plan q c.requires.there c.find-first.result c.find-second.result c.find-third.result c.find-fourth.result
          (reached_for g plan f.before_before 131073 0 q rank c.find-first.result c.requires.ready.before_before at c.find-first.ensures.found)
          (reached_for g plan f.before_behind 131071 0 q rank c.find-second.result c.requires.ready.before_behind at c.find-second.ensures.found)
          (reached_for g plan f.behind_before 0 131071 q rank c.find-third.result c.requires.ready.behind_before at c.find-third.ensures.found)
          (reached_for g plan f.behind_behind 0 131073 q rank c.find-fourth.result c.requires.ready.behind_behind at c.find-fourth.ensures.found),
    ))
    c.close.ensures.rows
