use Rattle.std.proofs.Common.{sym, ◌∙◌, arith}
use Rattle.fleet_gen.specs.Words.{word_of}
use Rattle.fleet_gen.proofs.Drawing.{after_none, word_drawn, generator_drawn, shuffled_none, exchange_more}
use Rattle.fleet_gen.proofs.draws.shuffle.Goals as goal

pub loop-exchange-init : goal.loop-exchange-init
loop-exchange-init c = record { goals = c.requires ∙ sym (shuffled_none (word_of c.args.words.now)); words = sym (after_none c.args.words.now) }

pub loop-exchange-preserved : goal.loop-exchange-preserved
loop-exchange-preserved c =
    let n = c.loop-exchange.exchange in
    let word = word_drawn c.args.words.now n c.next_word.result c.loop-exchange.words c.next_word.new.self c.loop-exchange.invariant.words c.next_word.ensures in
    record {
      goals = exchange_more (word_of c.args.words.now) n c.next_word.result c.loop-exchange.goals c.swap.new.self (omega arith) c.loop-exchange.invariant.goals word c.swap.ensures.after;
      words = generator_drawn c.args.words.now n c.next_word.result c.loop-exchange.words c.next_word.new.self c.loop-exchange.invariant.words c.next_word.ensures;
    }
