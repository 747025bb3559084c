use Rattle.std.proofs.Common.{◌≡◌, ◌∙◌, [], ◌∷◌, ◌++◌, ap, sym, refl, subst}
use Rattle.std.specs.Prelude.{List, None}
use Rattle.search_line.specs.declared.kept.Kept.{Kept}
use Rattle.search_line.proofs.Linking.{numbered}
use Rattle.search_line.proofs.Holding.{IsLineOf, holds, as_read, root_line}
use Rattle.search_line.proofs.line.Line.begin.Goals as goal

pub invariant_of-result : goal.invariant_of-result
invariant_of-result c =
    let kept : Kept = record { origin = None; node = c.args.root; next = None } in
    let items : c.push.new.self.items ≡ kept ∷ [] = c.in-Ok.ensures.items ∙ ap (λ (z : List Kept). z ++ kept ∷ []) c.new-nodes.ensures.items in
    holds (record { nodes = c.push.new.self; turns = c.in_ok-turns.turns }) (numbered 0 c.args.root ∷ [])
    (subst (λ (z : List Kept). IsLineOf z c.in_ok-turns.turns (numbered 0 c.args.root ∷ [])) (sym items) (root_line kept c.in_ok-turns.turns refl refl c.in_ok-turns.ensures))

pub returns-in-Ok : goal.returns-in-Ok
returns-in-Ok c =
    let kept : Kept = record { origin = None; node = c.args.root; next = None } in
    let items : c.push.new.self.items ≡ kept ∷ [] = c.in-Ok.ensures.items ∙ ap (λ (z : List Kept). z ++ kept ∷ []) c.new-nodes.ensures.items in
    as_read (record { nodes = c.push.new.self; turns = c.in_ok-turns.turns }) (numbered 0 c.args.root ∷ [])
    (subst (λ (z : List Kept). IsLineOf z c.in_ok-turns.turns (numbered 0 c.args.root ∷ [])) (sym items) (root_line kept c.in_ok-turns.turns refl refl c.in_ok-turns.ensures))
