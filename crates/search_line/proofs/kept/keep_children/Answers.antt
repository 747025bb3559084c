use Rattle.std.proofs.Common.{ℕ, ◌≡◌, ◌+◌, ◌∙◌, [], ◌∷◌, ◌++◌, length, set, ap, refl, append_assoc}
use Rattle.std.specs.Prelude.{List, Some}
use Rattle.std.proofs.lemmas.Option.{slice_get_read}
use Rattle.fleet_base.specs.declared.order.Side.TheVariants.{Lower}
use Rattle.search_line.specs.declared.kept.Kept.{Kept}
use Rattle.search_line.specs.Nodes.{expanded_kept, child_kept}
use Rattle.search_line.proofs.kept.keep_children.Goals as goal

pub returns : goal.returns
returns c =
    let old = c.args.nodes.now.items in
    let number = c.args.waiting.number in
    let kept = c.index_mut-parent.result.now in
    let first : c.len-first.result ≡ length old = c.len-first.ensures ∙ c.args.nodes.now.ok.0 in
    let big : c.stand_expanded.new.kept ≡ expanded_kept kept c.args.waiting.cost c.args.q (length old) = c.stand_expanded.ensures ∙ ap (λ (k : ℕ). expanded_kept kept c.args.waiting.cost c.args.q k) first in
    let low : c.child.result ≡ child_kept number c.args.q Lower c.args.lower (Some (length old + 1)) = c.child.ensures ∙ ap (λ (k : ℕ). child_kept number c.args.q Lower c.args.lower (Some (k + 1))) first in
    record {
      kept = kept;
      there = slice_get_read old (length old) number kept refl c.requires.there c.index_mut-parent.ensures.value;
      all =
          c.push_reserved-2.ensures.items ∙ ap (λ (z : List Kept). z ++ c.child-2.result ∷ []) c.push_reserved.ensures.items ∙ append_assoc (set old number c.stand_expanded.new.kept) (c.child.result ∷ []) (c.child-2.result ∷ [])
          ∙ ap (λ (z : Kept). set old number z ++ c.child.result ∷ c.child-2.result ∷ []) big
          ∙ ap (λ (z : Kept). set old number (expanded_kept kept c.args.waiting.cost c.args.q (length old)) ++ z ∷ c.child-2.result ∷ []) low
          ∙ ap (λ (z : Kept). set old number (expanded_kept kept c.args.waiting.cost c.args.q (length old)) ++ child_kept number c.args.q Lower c.args.lower (Some (length old + 1)) ∷ z ∷ []) c.child-2.ensures;
    }
