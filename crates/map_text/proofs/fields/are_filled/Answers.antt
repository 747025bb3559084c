use Rattle.std.proofs.Common.{◌≡◌, ◌≢◌, [], refl, true, false, not, eqb, length, rules}
use borrow.Author.Tests.{tests}
use Rattle.std.proofs.lemmas.Iterator.{YieldsList-from_slice, cases_from_all}
use Rattle.map_text.proofs.TaskFields.{told_filled, not_blank_field, blank_field}
use Rattle.map_text.proofs.fields.are_filled.Goals as goal

pub returns-then-fields-eq9 : goal.returns-then-fields-eq9
returns-then-fields-eq9 c =
    told_filled c.args.fields.now c.if-fields-eq9.true c.all.result
    (cases_from_all _ _ _ (λ f. f.now ≢ []) (λ f. f.now ≡ []) c.all.ensures.ran (YieldsList-from_slice c.args.fields.now c.iter.ensures.rest)
    (λ x q k. let e : true ≡ not (eqb (length x.now.now) 0) = search (rules, tests) in (refl, not_blank_field x.now.now e))
    (λ x q k. let e : false ≡ not (eqb (length x.now.now) 0) = search (rules, tests) in blank_field x.now.now e))
