use Rattle.std.proofs.Common.{rules}
use Rattle.std.proofs.lemmas.List.Sorted.{answers_always}
use Rattle.switch_pairs.proofs.Robots.{are_stops}
use Rattle.switch_pairs.proofs.stops.stops_by_cell.Goals as goal

pub returns : goal.returns
returns c =
    are_stops c.args.plan.now c.in_ok-stops.stops.items c.sort_by_key.new.self.items c.robots-robots.ensures.sound c.in_ok-stops.ensures c.sort_by_key.ensures.permutation
    (c.in_ok-sort_by_key.ensures.sorted (λ s. s.cell) (answers_always _ _ _ (λ f a r g h. search rules)))
    (c.sort_by_key.ensures.stable (λ s. s.cell) (answers_always _ _ _ (λ f a r g h. search rules)))
