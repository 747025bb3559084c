use Rattle.std.proofs.Common.{◌≡◌, List, [], ◌∷◌, ◌++◌, Bool, sym, ap, ◌∙◌}
use Rattle.fleet_gen.specs.Words.{word_of}
use Rattle.fleet_gen.specs.Draws.{stays_free}
use Rattle.fleet_gen.proofs.Drawing.{after_none, word_drawn, generator_drawn, marks_none, marks_more, mark_on_road, mark_apart}
use Rattle.fleet_gen.proofs.draws.draw_marks.Goals as goal
use Rattle.fleet_gen.proofs.draws.draw_marks.Goals.{then-on_a_road, else-on_a_road}

pub loop-number-init : goal.loop-number-init
loop-number-init c = record { marks = c.new-free.ensures.items ∙ sym (marks_none c.args.roads.now (word_of c.args.words.now)); words = sym (after_none c.args.words.now) }

pub loop-number-preserved : goal.loop-number-preserved
loop-number-preserved c =
    let n = c.loop-number.number in
    let words = word_of c.args.words.now in
    let word = word_drawn c.args.words.now n c.next_word-word.result c.loop-number.words c.next_word-word.new.self c.loop-number.invariant.words c.next_word-word.ensures in
    let mark : c.if-on_a_road.append ≡ stays_free c.args.roads.now words n =
    elim c.if-on_a_road.branch [
      | then-on_a_road w ↦ mark_on_road c.args.roads.now words n c.on_a_road.result c.if-on_a_road.append c.on_a_road.ensures w.if-on_a_road.true w.append-is
      | else-on_a_road w ↦ mark_apart c.args.roads.now words n c.next_word-word.result c.on_a_road.result c.if-on_a_road.append c.on_a_road.ensures w.if-on_a_road.false word w.append-is
    ] in
    record {
      marks = c.in_ok-append.ensures ∙ (ap (λ (b : Bool). c.loop-number.free.items ++ b ∷ []) mark ∙ (ap (λ (bs : List Bool). bs ++ stays_free c.args.roads.now words n ∷ []) c.loop-number.invariant.marks ∙ sym (marks_more c.args.roads.now words n)));
      words = generator_drawn c.args.words.now n c.next_word-word.result c.loop-number.words c.next_word-word.new.self c.loop-number.invariant.words c.next_word-word.ensures;
    }
