use Rattle.std.proofs.Common.{◌++◌, ◌∷◌, [], ◌∙◌, List, ℕ, ap, sym, codes}
use Rattle.std.proofs.lemmas.Result.{on_ok_weaker}
use Rattle.plan_check.specs.declared.fault.Unsound.{Unsound}
use Rattle.fleet_cli.specs.Lines.{unsound_line, large_word}
use Rattle.fleet_cli.proofs.Pieces.{words_then_fields, line_then_robots}
use Rattle.fleet_cli.proofs.lines.push_unsound.Goals as goal
use Rattle.fleet_base.specs.Bytes.{fields}

pub returns-in_ok-push_words-in-TooLarge : goal.returns-in_ok-push_words-in-TooLarge
returns-in_ok-push_words-in-TooLarge c =
    on_ok_weaker c.push_fields.result
    (λ e. words_then_fields c.args.out.now c.push_words.new.out c.push_fields.new.out (codes "fault large ") (large_word c.in-TooLarge.which) (c.in-TooLarge.count ∷ []) (c.in_ok-push_words-in-TooLarge.ensures ∙ ap (λ (word : List ℕ). c.args.out.now ++ (codes "fault large " ++ word)) c.large_word.ensures) e
    ∙ ap (λ (u : Unsound). c.args.out.now ++ unsound_line u) (sym c.in-TooLarge.is))
    c.push_fields.ensures.ok

pub returns-in-Blocked : goal.returns-in-Blocked
returns-in-Blocked c =
    on_ok_weaker c.push_line.result
    (λ e. e ∙ ap (λ (n : ℕ). c.args.out.now ++ (codes "fault blocked" ++ fields (n ∷ c.in-Blocked.tick ∷ []))) c.from.ensures ∙ ap (λ (u : Unsound). c.args.out.now ++ unsound_line u) (sym c.in-Blocked.is))
    c.push_line.ensures

pub returns-in-Share : goal.returns-in-Share
returns-in-Share c =
    on_ok_weaker c.push_line-in-Share.result
    (λ e. e ∙ ap (λ (n : ℕ). c.args.out.now ++ (codes "fault share" ++ fields (n ∷ c.from-in-Share-2.result ∷ c.in-Share.tick ∷ []))) c.from-in-Share.ensures
    ∙ ap (λ (n : ℕ). c.args.out.now ++ (codes "fault share" ++ fields (c.in-Share.a ∷ n ∷ c.in-Share.tick ∷ []))) c.from-in-Share-2.ensures ∙ ap (λ (u : Unsound). c.args.out.now ++ unsound_line u) (sym c.in-Share.is))
    c.push_line-in-Share.ensures

pub returns-in_ok-push_line-in-Rotation : goal.returns-in_ok-push_line-in-Rotation
returns-in_ok-push_line-in-Rotation c =
    on_ok_weaker c.push_robots.result
    (λ e. line_then_robots c.args.out.now c.push_line-in-Rotation.new.out c.push_robots.new.out (codes "fault rotation") c.in-Rotation.tick c.in-Rotation.robots c.in_ok-push_line-in-Rotation.ensures (e ∙ ap (λ (rs : List ℕ). c.push_line-in-Rotation.new.out ++ fields rs) c.as_slice.ensures)
    ∙ ap (λ (u : Unsound). c.args.out.now ++ unsound_line u) (sym c.in-Rotation.is))
    c.push_robots.ensures
