use Rattle.std.proofs.Common.{rules, ◌≡◌, ◌∙◌, ap, ap₂, true, codes, Some}
use Rattle.clap.specs.Walk.{rule_of}
use Rattle.clap.specs.Simple.{app_of, app_of_fields, new_rule, on_top, with_rule}
use Rattle.clap.specs.declared.builder.action.ArgAction.TheVariants.{SetTrue}
use Rattle.command_words.specs.Arguments.{begun}
use Rattle.command_words.proofs.making.gen_command.Goals as goal

pub returns : goal.returns
returns c =
    let start : app_of c.disable_help_flag-begun.result ≡ begun (codes "gen") =
    ap app_of_fields c.disable_help_flag-begun.ensures ∙ ap (on_top (λ s. record s { disable_help_flag = true })) c.new.ensures.app in
    let plan_is : rule_of c.action-plan.result ≡ record (new_rule (codes "plan")) { long = Some (codes "plan"); action = Some SetTrue } = search rules in
    let seed_is : rule_of c.new-seed.result ≡ new_rule (codes "seed") = search rules in
    c.in_ok-command.ensures.shape (search rules) ∙ ap₂ with_rule (c.in_ok-arg.ensures.shape (search rules) ∙ ap₂ with_rule start plan_is) seed_is
