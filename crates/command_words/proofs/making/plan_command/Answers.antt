use Rattle.std.proofs.Common.{rules, ◌≡◌, ◌∙◌, ap, ap₂, true, codes, Some}
use Rattle.clap.specs.Walk.{rule_of}
use Rattle.clap.specs.Simple.{app_of, app_of_fields, new_rule, on_top, with_rule}
use Rattle.command_words.specs.Arguments.{begun}
use Rattle.command_words.proofs.making.plan_command.Goals as goal

pub returns : goal.returns
returns c =
    let start : app_of c.disable_help_flag-begun.result ≡ begun (codes "plan") =
    ap app_of_fields c.disable_help_flag-begun.ensures ∙ ap (on_top (λ s. record s { disable_help_flag = true })) c.new.ensures.app in
    let robots_is : rule_of c.long-robots.result ≡ record (new_rule (codes "robots")) { long = Some (codes "robots") } = search rules in
    let horizon_is : rule_of c.long-horizon.result ≡ record (new_rule (codes "horizon")) { long = Some (codes "horizon") } = search rules in
    let map_is : rule_of c.new-map.result ≡ new_rule (codes "map") = search rules in
    let scen_is : rule_of c.new-scen.result ≡ new_rule (codes "scen") = search rules in
    let one = c.in_ok-arg.ensures.shape (search rules) ∙ ap₂ with_rule start robots_is in
    let two = c.in_ok-arg-2.ensures.shape (search rules) ∙ ap₂ with_rule one horizon_is in
    let three = c.in_ok-arg-3.ensures.shape (search rules) ∙ ap₂ with_rule two map_is in
    c.in_ok-command.ensures.shape (search rules) ∙ ap₂ with_rule three scen_is
