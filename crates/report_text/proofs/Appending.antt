-- What an append leaves when memory runs out on the way: a front of the whole text.
use Rattle.std.proofs.Common.{ℕ, ◌≡◌, ◌+◌, ◌<◌, List, [], ◌∷◌, ◌++◌, sym, ap, subst, ◌∙◌, length, get_or, take, drop, append_assoc}
use Rattle.std.specs.Prelude.{decimal, flat_map}
use Rattle.std.proofs.lemmas.Grind.{flat_map-append}
use Rattle.std.proofs.lemmas.List.{append-nil, take-append-drop, drop_more}
use Rattle.fleet_base.specs.Bytes.{field, AppendsFront}
use Rattle.fleet_base.proofs.Appending.{front_first, front_behind, stays_behind, front_between}
use Rattle.report_text.specs.Reading.{spelled}

pub words_left : (old new words numbers : List ℕ) → AppendsFront old new words → AppendsFront old new (spelled words numbers ++ 10 ∷ [])
words_left old new words numbers left =
    front_between old old new [] words (flat_map field numbers ++ 10 ∷ []) (spelled words numbers ++ 10 ∷ []) (sym (append-nil old)) (sym (append_assoc words (flat_map field numbers) (10 ∷ []))) left

pub numbers_left : (old mid new words numbers : List ℕ) → mid ≡ old ++ words → AppendsFront mid new (flat_map field numbers) → AppendsFront old new (spelled words numbers ++ 10 ∷ [])
numbers_left old mid new words numbers is left =
    front_between old mid new words (flat_map field numbers) (10 ∷ []) (spelled words numbers ++ 10 ∷ []) is (sym (append_assoc words (flat_map field numbers) (10 ∷ []))) left
