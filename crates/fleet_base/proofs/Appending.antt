-- What an append leaves when memory runs out on the way: a front of the whole text.
use Rattle.std.proofs.Common.{ℕ, ◌≡◌, ◌+◌, ◌<◌, List, ◌++◌, sym, ap, ◌∙◌, subst, length, get_or, take, drop, append_assoc}
use Rattle.std.specs.Prelude.{flat_map}
use Rattle.std.proofs.lemmas.Grind.{flat_map-append}
use Rattle.std.proofs.lemmas.List.{take-append-drop, drop_more}
use Rattle.fleet_base.specs.Bytes.{AppendsFront}

-- a front of the first part
pub front_first : (old new part rest : List ℕ) → AppendsFront old new part → AppendsFront old new (part ++ rest)
front_first old new part rest (front, (more, e), is) = (front, (more ++ rest, sym (append_assoc front more rest) ∙ ap (λ (l : List ℕ). l ++ rest) e), is)

-- behind the first part, a front of the second
pub front_behind : (old mid new done part : List ℕ) → mid ≡ old ++ done → AppendsFront mid new part → AppendsFront old new (done ++ part)
front_behind old mid new done part before (front, (more, e), is) =
    (done ++ front, (more, append_assoc done front more ∙ ap (λ (l : List ℕ). done ++ l) e), is ∙ ap (λ (l : List ℕ). l ++ front) before ∙ append_assoc old done front)

-- behind some of the whole text, nothing
pub stays_behind : (old mid new done rest whole : List ℕ) → mid ≡ old ++ done → done ++ rest ≡ whole → new ≡ mid → AppendsFront old new whole
stays_behind old mid new done rest whole is parts same = (done, (rest, parts), same ∙ is)

-- a loop over bytes that has come so far leaves a front of them
pub bytes_left : (old mid new bytes : List ℕ) (i : ℕ) → mid ≡ old ++ take i bytes → new ≡ mid → AppendsFront old new bytes
bytes_left old mid new bytes i is same = stays_behind old mid new (take i bytes) (drop i bytes) bytes is (take-append-drop i bytes) same

-- both parts
pub both : (old mid new done part : List ℕ) → mid ≡ old ++ done → new ≡ mid ++ part → new ≡ old ++ (done ++ part)
both old mid new done part before is = is ∙ ap (λ (l : List ℕ). l ++ part) before ∙ append_assoc old done part

-- after some of the whole text, a front of the next piece
pub front_between : (old mid new done piece rest whole : List ℕ) → mid ≡ old ++ done → done ++ (piece ++ rest) ≡ whole → AppendsFront mid new piece → AppendsFront old new whole
front_between old mid new done piece rest whole is parts left = subst (AppendsFront old new) parts (front_behind old mid new done (piece ++ rest) is (front_first mid new piece rest left))

-- a loop over pieces that has come so far leaves a front of them all, too
pub pieces_left : {X : Type 0} (f : X → List ℕ) (old mid new : List ℕ) (xs : List X) (i : ℕ) (x : X) → i < length xs → mid ≡ old ++ flat_map f (take i xs) → AppendsFront mid new (f (get_or xs i x)) → AppendsFront old new (flat_map f xs)
pieces_left f old mid new xs i x inside is left =
    let parts : flat_map f (take i xs) ++ (f (get_or xs i x) ++ flat_map f (drop (i + 1) xs)) ≡ flat_map f xs =
    ap (λ l. flat_map f (take i xs) ++ flat_map f l) (sym (drop_more xs i x inside)) ∙ sym (flat_map-append f (take i xs) (drop i xs)) ∙ ap (flat_map f) (take-append-drop i xs) in
    front_between old mid new (flat_map f (take i xs)) (f (get_or xs i x)) (flat_map f (drop (i + 1) xs)) (flat_map f xs) is parts left
