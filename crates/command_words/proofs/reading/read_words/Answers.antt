use Rattle.std.proofs.Common.{◌∙◌, sym, codes}
use Rattle.std.specs.Prelude.{string_bytes}
use Rattle.std.proofs.lemmas.Slice.Eq.{bytes_eq-Decides}
use Rattle.command_words.proofs.Known.{begins}
use Rattle.command_words.proofs.reading.read_words.Goals as goal

pub check_words-requires : goal.check_words-requires
check_words-requires c = begins (λ w. string_bytes w) c.args.words.now c.in-Some.first.now (codes "check") c.in-Some.ensures.value (sym c.as_str-word.ensures.value ∙ (bytes_eq-Decides _ _).0 (sym c.eq.ensures ∙ c.if-eq.true))

pub run_words-requires : goal.run_words-requires
run_words-requires c = begins (λ w. string_bytes w) c.args.words.now c.in-Some.first.now (codes "run") c.in-Some.ensures.value (sym c.as_str-word.ensures.value ∙ (bytes_eq-Decides _ _).0 (sym c.eq-else-eq.ensures ∙ c.if-eq-2.true))

pub gen_words-requires : goal.gen_words-requires
gen_words-requires c = begins (λ w. string_bytes w) c.args.words.now c.in-Some.first.now (codes "gen") c.in-Some.ensures.value (sym c.as_str-word.ensures.value ∙ (bytes_eq-Decides _ _).0 (sym c.eq-else-eq-2.ensures ∙ c.if-eq-3.true))

pub plan_words-requires : goal.plan_words-requires
plan_words-requires c = begins (λ w. string_bytes w) c.args.words.now c.in-Some.first.now (codes "plan") c.in-Some.ensures.value (sym c.as_str-word.ensures.value ∙ (bytes_eq-Decides _ _).0 (sym c.eq-else-eq-3.ensures ∙ c.if-eq-4.true))
