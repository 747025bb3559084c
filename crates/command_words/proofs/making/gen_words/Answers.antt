use Rattle.std.proofs.Common.{◌∙◌, ap₂, sym, subst, List, ℕ, true≢false}
use Rattle.std.specs.Prelude.{string_bytes}
use Rattle.clap.specs.Faults.{fault_of}
use Rattle.clap.specs.Matches.{found_of}
use Rattle.clap.specs.Simple.{matches_of}
use Rattle.clap.proofs.TakesLemmas.{passed_up}
use Rattle.command_words.specs.Commands.{IsCommand, IsUsage, gen_grammar}
use Rattle.command_words.proofs.Known.{rest_known, known_rest}
use Rattle.command_words.proofs.Makers.{gen_unknown, gen_refused, gen_lacking, gen_sound}
use Rattle.command_words.proofs.making.gen_words.Goals as goal

pub returns-then-not-are_known-clause-usage : goal.returns-then-not-are_known-clause-usage
returns-then-not-are_known-clause-usage c usage =
    subst IsUsage (sym c.requires.1) (gen_unknown c.requires.0 (λ known. true≢false (sym (c.are_known.ensures.1 (known_rest gen_grammar (λ w. string_bytes w) c.args.words.now _ c.requires.0 c.requires.1 known)) ∙ c.if-not-are_known.true)))

pub returns-in_err-matches-clause-usage : goal.returns-in_err-matches-clause-usage
returns-in_err-matches-clause-usage c =
    passed_up c.from_residual-in_err-matches.result c.in_err-matches.field-0.0 _ c.from_residual-in_err-matches.ensures.1 (λ usage.
    subst IsUsage (sym c.requires.1) (gen_refused c.requires.0 (λ none. c.in_err-matches.ensures.refused usage (ap₂ fault_of c.in_ok-gen_command.ensures c.requires.1 ∙ none))))

pub returns-in-Some-clause-command : goal.returns-in-Some-clause-command
returns-in-Some-clause-command c =
    let known = rest_known gen_grammar (λ w. string_bytes w) c.args.words.now _ c.requires.0 c.requires.1 (c.are_known.ensures.0 c.if-not-are_known.false) in
    subst (λ (l : List (List ℕ)). IsCommand l c.in-Some.command) (sym c.requires.1) (gen_sound c.requires.0 (found_of c.in_ok-matches.matches) c.in-Some.command known (sym (ap₂ fault_of c.in_ok-gen_command.ensures c.requires.1) ∙ c.in_ok-matches.ensures.taken)
    (c.in_ok-matches.ensures.matches ∙ ap₂ matches_of c.in_ok-gen_command.ensures c.requires.1) c.in-Some.ensures.some)

pub returns-clause-usage : goal.returns-clause-usage
returns-clause-usage c usage =
    subst IsUsage (sym c.requires.1) (gen_lacking c.requires.0 (found_of c.in_ok-matches.matches) (c.in_ok-matches.ensures.matches ∙ ap₂ matches_of c.in_ok-gen_command.ensures c.requires.1) c.in-None.ensures.none)
