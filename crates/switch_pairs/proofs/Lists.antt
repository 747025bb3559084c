-- What passes a test, in lists that are put together.
use Rattle.std.proofs.Common.{◌≡◌, List, [], ◌∷◌, ◌++◌, Bool, true, false, cond, refl, ap, ◌∙◌}
use Rattle.std.specs.Prelude.{Contains, filter, flat_map, map, ◌&&◌}
use Rattle.std.proofs.lemmas.List.Elements.{filter-append}
use Rattle.std.proofs.lemmas.List.{map-append}
use Rattle.fleet_base.proofs.Members.{head_in, tail_in}

-- tests that answer alike pass the same elements
pub filter_alike : {X : Type 0} (p q : X → Bool) (xs : List X) → ((x : X) → p x ≡ q x) → filter p xs ≡ filter q xs
filter_alike {X} p q xs e = let tests : p ≡ q = λ i x. e x i in ap (λ (t : X → Bool). filter t xs) tests

pub filter_none : {X : Type 0} (p : X → Bool) (xs : List X) → ((x : X) → Contains xs x → p x ≡ false) → filter p xs ≡ []
filter_none p [] h = refl
filter_none {X} p (x ∷ xs) h = ap (λ (b : Bool). cond b (x ∷ filter p xs) (filter p xs)) (h x (head_in x xs)) ∙ filter_none p xs (λ y k. h y (tail_in x xs y k))

pub filter_all : {X : Type 0} (p : X → Bool) (xs : List X) → ((x : X) → Contains xs x → p x ≡ true) → filter p xs ≡ xs
filter_all p [] h = refl
filter_all {X} p (x ∷ xs) h =
    ap (λ (b : Bool). cond b (x ∷ filter p xs) (filter p xs)) (h x (head_in x xs)) ∙ ap (λ (ys : List X). x ∷ ys) (filter_all p xs (λ y k. h y (tail_in x xs y k)))

-- two tests, one after the other
pub filter_both : {X : Type 0} (p q : X → Bool) (xs : List X) → filter q (filter p xs) ≡ filter (λ x. p x && q x) xs
filter_both p q [] = refl
filter_both {X} p q (x ∷ xs) = go (p x) (filter_both p q xs)
  where
    go : (s : Bool) → filter q (filter p xs) ≡ filter (λ y. p y && q y) xs
        → filter q (cond s (x ∷ filter p xs) (filter p xs)) ≡ cond (s && q x) (x ∷ filter (λ y. p y && q y) xs) (filter (λ y. p y && q y) xs)
    go true e = ap (λ (l : List X). cond (q x) (x ∷ l) l) e
    go false e = e

pub filter_flat_map : {X Y : Type 0} (p : Y → Bool) (f : X → List Y) (xs : List X) → filter p (flat_map f xs) ≡ flat_map (λ x. filter p (f x)) xs
filter_flat_map p f [] = refl
filter_flat_map {X} {Y} p f (x ∷ xs) = filter-append p (f x) (flat_map f xs) ∙ ap (λ (ys : List Y). filter p (f x) ++ ys) (filter_flat_map p f xs)

pub map_flat_map : {X Y Z : Type 0} (g : Y → Z) (f : X → List Y) (xs : List X) → map g (flat_map f xs) ≡ flat_map (λ x. map g (f x)) xs
map_flat_map g f [] = refl
map_flat_map {X} {Y} {Z} g f (x ∷ xs) = map-append g (f x) (flat_map f xs) ∙ ap (λ (ys : List Z). map g (f x) ++ ys) (map_flat_map g f xs)

pub flat_map_alike : {X Y : Type 0} (f g : X → List Y) (xs : List X) → ((x : X) → Contains xs x → f x ≡ g x) → flat_map f xs ≡ flat_map g xs
flat_map_alike f g [] h = refl
flat_map_alike {X} {Y} f g (x ∷ xs) h =
    ap (λ (ys : List Y). ys ++ flat_map f xs) (h x (head_in x xs)) ∙ ap (λ (ys : List Y). g x ++ ys) (flat_map_alike f g xs (λ y k. h y (tail_in x xs y k)))

pub flat_map_none : {X Y : Type 0} (f : X → List Y) (xs : List X) → ((x : X) → Contains xs x → f x ≡ []) → flat_map f xs ≡ []
flat_map_none f [] h = refl
flat_map_none {X} {Y} f (x ∷ xs) h = ap (λ (ys : List Y). ys ++ flat_map f xs) (h x (head_in x xs)) ∙ flat_map_none f xs (λ y k. h y (tail_in x xs y k))
