use Rattle.std.proofs.Common.{◌≡◌, ◌∷◌, [], ◌++◌, map, sym, ap, ◌∙◌, arith, if◌then◌else◌}
use Rattle.std.specs.List.{range_with_len}
use Rattle.std.proofs.lemmas.List.{append_assoc}
use Rattle.std.proofs.lemmas.List.FromFn.{map-range_with_len_more}
use Rattle.map_text.proofs.WrittenMap.{mark_of}
use Rattle.map_text.proofs.write.push_row.Goals as goal
use Rattle.map_text.proofs.write.push_row.Goals.{then-is_free, else-is_free}

pub loop-col-preserved : goal.loop-col-preserved
loop-col-preserved c =
    let g = c.args.grid.now in
    let marks = map (mark_of g c.args.row) (range_with_len 0 c.loop-col.col) in
    let mark : c.if-is_free.push ≡ mark_of g c.args.row c.loop-col.col = elim c.if-is_free.branch [
      | then-is_free w ↦ w.push-is ∙ sym (ap (λ b. if b then 46 else 64) (sym c.is_free-is_free.ensures ∙ w.if-is_free.true))
      | else-is_free w ↦ w.push-is ∙ sym (ap (λ b. if b then 46 else 64) (sym c.is_free-is_free.ensures ∙ w.if-is_free.false))
    ] in
    c.in_ok-push.ensures.ok
    ∙ ap (λ text. text ++ c.if-is_free.push ∷ []) c.loop-col.invariant
    ∙ append_assoc c.args.text.now marks (c.if-is_free.push ∷ [])
    ∙ ap (λ x. c.args.text.now ++ (marks ++ x ∷ [])) mark
    ∙ ap (λ row. c.args.text.now ++ row) (sym (map-range_with_len_more (mark_of g c.args.row) 0 c.loop-col.col c.loop-col.col (omega arith)))
