use Rattle.std.proofs.Common.{rules, ◌≡◌, ◌∙◌, ap, ap₂, true, codes, Some}
use Rattle.clap.specs.Walk.{rule_of}
use Rattle.clap.specs.Simple.{app_of, app_of_fields, new_rule, on_top, with_rule}
use Rattle.clap.specs.declared.builder.action.ArgAction.TheVariants.{SetTrue}
use Rattle.command_words.specs.Arguments.{begun}
use Rattle.command_words.proofs.reading.run_command.Goals as goal

pub returns : goal.returns
returns c =
    let start : app_of c.disable_help_flag-begun.result ≡ begun (codes "run") =
    ap app_of_fields c.disable_help_flag-begun.ensures ∙ ap (on_top (λ s. record s { disable_help_flag = true })) c.new.ensures.app in
    let budget_is : rule_of c.long-budget.result ≡ record (new_rule (codes "budget")) { long = Some (codes "budget") } = search rules in
    let quiet_is : rule_of c.action-quiet.result ≡ record (new_rule (codes "quiet")) { long = Some (codes "quiet"); action = Some SetTrue } = search rules in
    let map_is : rule_of c.new-map.result ≡ new_rule (codes "map") = search rules in
    let plan_is : rule_of c.new-plan.result ≡ new_rule (codes "plan") = search rules in
    let journal_is : rule_of c.new-journal.result ≡ new_rule (codes "journal") = search rules in
    let one = c.in_ok-arg.ensures.shape (search rules) ∙ ap₂ with_rule start budget_is in
    let two = c.in_ok-arg-2.ensures.shape (search rules) ∙ ap₂ with_rule one quiet_is in
    let three = c.in_ok-arg-3.ensures.shape (search rules) ∙ ap₂ with_rule two map_is in
    let four = c.in_ok-arg-4.ensures.shape (search rules) ∙ ap₂ with_rule three plan_is in
    c.in_ok-command.ensures.shape (search rules) ∙ ap₂ with_rule four journal_is
