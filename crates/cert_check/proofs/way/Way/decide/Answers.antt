use Rattle.std.proofs.Common.{arith, sym, ◌∙◌}
use Rattle.std.proofs.lemmas.List.{length-reverse}
use Rattle.cert_check.proofs.WayLaws.{few}
use Rattle.cert_check.proofs.way.Way.decide.Goals as goal

pub push_reserved-requires : goal.push_reserved-requires
push_reserved-requires c =
    let way = c.requires.way in
    let free = sym (way.sides _) ∙ c.requires.free in
    omega (arith, few _ _ _ way.apart way.within c.requires.pair free, way.room, length-reverse c.args.self.now.steps.items)
