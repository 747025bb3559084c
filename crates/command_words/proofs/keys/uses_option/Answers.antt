use Rattle.std.proofs.Common.{◌≡◌, ◌∙◌, refl, sym, ap, subst, ℕ, List, ◌++◌, length, take, drop, take_at, drop_at, take-append-drop, true≢false}
use Rattle.std.proofs.lemmas.Slice.Eq.{bytes_eq-Decides}
use Rattle.command_words.specs.Telling.{IsValue}
use Rattle.command_words.proofs.keys.uses_option.Goals as goal

pub returns-in-Some : goal.returns-in-Some
returns-in-Some c =
    let n = length c.args.option.now in
    let cut = c.in-Some.ensures.cases in
    let front : take n c.args.rest.now ≡ c.args.option.now = (bytes_eq-Decides (take n c.args.rest.now) c.args.option.now).0 cut.0 in
    let whole : c.args.rest.now ≡ c.args.option.now ++ c.in-Some.value.now =
    sym (take-append-drop n c.args.rest.now) ∙ ap (λ (l : List ℕ). l ++ drop n c.args.rest.now) front ∙ ap (λ (l : List ℕ). c.args.option.now ++ l) (sym cut.1) in (
      λ yes. (c.in-Some.value.now, c.is_value.ensures.0 yes, whole),
      λ u.
          let rest : u.0 ≡ c.in-Some.value.now = sym (drop_at c.args.option.now u.0 n refl) ∙ ap (λ (l : List ℕ). drop n l) (sym u.2) ∙ sym cut.1 in
          c.is_value.ensures.1 (subst IsValue rest u.1),
    )

pub returns-in-None : goal.returns-in-None
returns-in-None c = (
  λ bad. absurd (true≢false (sym bad)),
  λ u.
      let front : take (length c.args.option.now) c.args.rest.now ≡ c.args.option.now = ap (λ (l : List ℕ). take (length c.args.option.now) l) u.2 ∙ take_at c.args.option.now u.0 (length c.args.option.now) refl in
      let yes = (bytes_eq-Decides (take (length c.args.option.now) c.args.rest.now) c.args.option.now).1 front in
      absurd (true≢false (sym yes ∙ c.in-None.ensures.cases)),
)
