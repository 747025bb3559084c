use Rattle.std.proofs.Common.{◌≡◌, ◌∙◌, refl, sym, ap, subst, arith, List, ℕ, String, Global, true≢false, below_more, get_or}
use Rattle.std.proofs.lemmas.List.{get_or_default}
use Rattle.std.specs.Prelude.{string_bytes}
use Rattle.command_words.specs.Telling.{IsKnown, grammar_of}
use Rattle.command_words.proofs.keys.are_known.Goals as goal

pub returns-then-not-is_known : goal.returns-then-not-is_known
returns-then-not-is_known c = (
  λ bad. absurd (true≢false (sym bad)),
  λ all.
      let word : string_bytes (get_or c.args.words.now c.loop-word.word-index c.word-item.result) ≡ c.deref.result.now = ap (λ (s : String Global). string_bytes s) (sym c.word-item.is) ∙ sym c.deref.ensures in
      let known = subst (λ (t : List ℕ). IsKnown (grammar_of c.args.keys.now) t) word (all c.loop-word.word-index c.word-item.result c.loop-word-test.true) in
      absurd (true≢false (sym (c.is_known.ensures.1 known) ∙ c.if-not-is_known.true)),
)

pub loop-word-preserved : goal.loop-word-preserved
loop-word-preserved c = below_more (λ k. (d : String Global) → IsKnown (grammar_of c.args.keys.now) (string_bytes (get_or c.args.words.now k d))) c.loop-word.word-index c.loop-word.invariant (λ d.
    let word : c.deref.result.now ≡ string_bytes (get_or c.args.words.now c.loop-word.word-index d) =
    c.deref.ensures ∙ ap (λ (s : String Global). string_bytes s) (c.word-item.is ∙ get_or_default c.args.words.now c.loop-word.word-index c.word-item.result d c.loop-word-test.true) in
    subst (λ (t : List ℕ). IsKnown (grammar_of c.args.keys.now) t) word (c.is_known.ensures.0 c.if-not-is_known.false))

pub returns : goal.returns
returns c = (λ yes k d lt. c.loop-word.invariant k (omega (arith, c.loop-word-test.false, lt)) d, λ all. refl)
