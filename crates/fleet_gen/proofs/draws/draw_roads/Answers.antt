use Rattle.std.proofs.Common.{ℕ, ◌≡◌, ◌+◌, List, [], ◌∷◌, ◌++◌, sym, ap, ◌∙◌, arith, length, get_or}
use Rattle.fleet_gen.specs.declared.road.Road.{Road}
use Rattle.fleet_gen.specs.Words.{after, word_of}
use Rattle.fleet_gen.specs.Draws.{roads_of, road_of}
use Rattle.fleet_gen.proofs.Drawing.{word_drawn, generator_drawn, length-shuffled, roads_none, roads_more, road_drawn}
use Rattle.fleet_gen.proofs.draws.draw_roads.Goals as goal

pub loop-row-init : goal.loop-row-init
loop-row-init c = record { roads = c.new-roads.ensures.items ∙ sym (roads_none (word_of c.args.words.now)); words = c.in_ok-goals.ensures.words }

pub overflow_cast-road : goal.overflow_cast-road
overflow_cast-road c = omega (arith, ap length c.deref-goal-items.ensures.value, ap length c.in_ok-goals.ensures.goals, length-shuffled (word_of c.args.words.now) 31)

pub loop-row-preserved : goal.loop-row-preserved
loop-row-preserved c =
    let n = c.loop-row.row in
    let words = word_of c.args.words.now in
    let here = c.deref-goal-items.ensures.value ∙ c.in_ok-goals.ensures.goals in
    let word = word_drawn c.args.words.now (31 + n) c.next_word.result c.loop-row.words c.next_word.new.self c.loop-row.invariant.words c.next_word.ensures in
    let next = generator_drawn c.args.words.now (31 + n) c.next_word.result c.loop-row.words c.next_word.new.self c.loop-row.invariant.words c.next_word.ensures in
    let road = road_drawn words n c.next_word.result (get_or c.deref-goal-items.result.now n 0) c.deref-goal-items.result.now here word (λ i. get_or c.deref-goal-items.result.now n 0) in
    let e : 31 + n + 1 ≡ 31 + (n + 1) = omega arith in
    record {
      roads = c.in_ok-append.ensures ∙ (ap (λ (r : Road). c.loop-row.roads.items ++ r ∷ []) road ∙ (ap (λ (rs : List Road). rs ++ road_of words n ∷ []) c.loop-row.invariant.roads ∙ sym (roads_more words n)));
      words = next ∙ ap (λ (m : ℕ). after m c.args.words.now) e;
    }

pub returns-clause-roads : goal.returns-clause-roads
returns-clause-roads c =
    let e : c.loop-row.row ≡ 32 = omega (arith, ap length c.deref-goal-items.ensures.value, ap length c.in_ok-goals.ensures.goals, length-shuffled (word_of c.args.words.now) 31) in
    c.loop-row.invariant.roads ∙ ap (roads_of (word_of c.args.words.now)) e

pub returns-clause-words : goal.returns-clause-words
returns-clause-words c =
    let e : 31 + c.loop-row.row ≡ 63 = omega (arith, ap length c.deref-goal-items.ensures.value, ap length c.in_ok-goals.ensures.goals, length-shuffled (word_of c.args.words.now) 31) in
    c.loop-row.invariant.words ∙ ap (λ (m : ℕ). after m c.args.words.now) e
