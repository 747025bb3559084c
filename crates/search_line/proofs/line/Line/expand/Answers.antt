use Rattle.std.proofs.Common.{◌<◌, ◌+◌, ◌∙◌, ◌∷◌, ◌++◌, length, sym, subst}
use Rattle.std.specs.Prelude.{List}
use Rattle.search_line.specs.declared.kept.Kept.{Kept}
use Rattle.search_line.proofs.Linking.{numbered}
use Rattle.search_line.proofs.Growing.{grown}
use Rattle.search_line.proofs.Holding.{holds, as_read, expanded_line, slot_within}
use Rattle.search_line.proofs.line.Line.expand.Goals as goal

pub keep_children-requires-clause-there : goal.keep_children-requires-clause-there
keep_children-requires-clause-there c =
    let w = c.requires.waits in
    subst (λ (z : List Kept). c.args.waiting.number < length z) (sym c.make_room.ensures.stays) (slot_within c.self.inside c.args.self.now c.args.waiting.number w.there.front w.there.back w.node c.self.invariant c.self.view_is w.there.place)

pub invariant_of-self-2 : goal.invariant_of-self-2
invariant_of-self-2 c =
    let w = c.requires.waits in
    let line = c.args.self.now in
    holds (record { nodes = c.keep_children.new.nodes; turns = c.exchange.new.turns }) (w.there.front ++ numbered c.args.waiting.number (grown w.node c.args.waiting.cost c.args.q) ∷ numbered (length line) c.args.lower ∷ numbered (length line + 1) c.args.higher ∷ w.there.back)
    (expanded_line c.self.inside line c.make_room.new.nodes.items c.keep_children.new.nodes.items c.exchange.new.turns c.args.waiting.number c.args.waiting.cost c.len-first.result c.args.q c.args.lower c.args.higher c.turn_of-lower_turn.result c.turn_of-higher_turn.result w.there.front w.there.back w.node c.self.invariant c.self.view_is w c.make_room.ensures.stays (c.len-first.ensures ∙ c.make_room.new.nodes.ok.0) c.keep_children.ensures c.in_ok-exchange.ensures.exchanged c.turn_of-lower_turn.ensures c.turn_of-higher_turn.ensures c.requires.lower c.requires.higher c.in_ok-make_room.ensures.few w.there.place)

pub returns-clause-expanded : goal.returns-clause-expanded
returns-clause-expanded c front back node place =
    let line = c.args.self.now in
    as_read (record { nodes = c.keep_children.new.nodes; turns = c.exchange.new.turns }) (front ++ numbered c.args.waiting.number (grown node c.args.waiting.cost c.args.q) ∷ numbered (length line) c.args.lower ∷ numbered (length line + 1) c.args.higher ∷ back)
    (expanded_line c.self.inside line c.make_room.new.nodes.items c.keep_children.new.nodes.items c.exchange.new.turns c.args.waiting.number c.args.waiting.cost c.len-first.result c.args.q c.args.lower c.args.higher c.turn_of-lower_turn.result c.turn_of-higher_turn.result front back node c.self.invariant c.self.view_is c.requires.waits c.make_room.ensures.stays (c.len-first.ensures ∙ c.make_room.new.nodes.ok.0) c.keep_children.ensures c.in_ok-exchange.ensures.exchanged c.turn_of-lower_turn.ensures c.turn_of-higher_turn.ensures c.requires.lower c.requires.higher c.in_ok-make_room.ensures.few place)
