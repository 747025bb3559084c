-- What the code asks of each word.
use Rattle.std.proofs.Common.{◌≡◌, ◌∙◌, ◌-◌, ◌<◌, inl, inr, refl, sym, ap, subst, arith, ℕ, zero, suc, List, [], ◌∷◌, ◌++◌, length, drop, take, map, append-nil}
use Rattle.std.specs.Prelude.{All, Any, Some, slice_get}
use Rattle.std.specs.List.{slice_index_or}
use Rattle.std.specs.Borrow.{Bor}
use Rattle.std.proofs.lemmas.List.{take_rest}
use Rattle.command_words.specs.declared.keys.Keys.{Keys}
use Rattle.command_words.specs.Grammar.{Grammar, IsName, IsOneOf, dashed}
use Rattle.command_words.specs.Telling.{IsKey, IsKnown, UsesOption, a_name, a_flag, an_option, with_value, grammar_of, AreKnown}

-- ---- lists by index, and word by word

any_one : (P : List ℕ → Type 0) (xs : List (Bor (List ℕ))) (k : ℕ) (x : Bor (List ℕ)) → k < length xs → slice_index_or xs k x ≡ x → P x.now → (o : List ℕ) × IsOneOf (map (λ k. k.now) xs) o × P o
any_one P [] k x lt at p = absurd (omega (arith, lt))
any_one P (y ∷ ys) zero x lt at p = (y.now, inl refl, subst (λ (z : Bor (List ℕ)). P z.now) (sym at) p)
any_one P (y ∷ ys) (suc k) x lt at p = let r = any_one P ys k x (omega (arith, lt)) at p in (r.0, inr r.1, r.2)

one_any : (P : List ℕ → Type 0) (xs : List (Bor (List ℕ))) (o : List ℕ) → IsOneOf (map (λ k. k.now) xs) o → P o → Any (λ k. P k.now) xs
one_any P [] o m p = absurd m
one_any P (y ∷ ys) o (inl e) p = (0, y, omega arith, refl, subst P e p)
one_any P (y ∷ ys) o (inr m) p = let r = one_any P ys o m p in (suc r.0, r.1, omega (arith, r.2), r.3, r.4)

tail_is : (x y : List ℕ) (xs ys : List (List ℕ)) → x ∷ xs ≡ y ∷ ys → xs ≡ ys
tail_is x y xs ys e = cc

pub each_known : {X : Type 0} (g : Grammar) (f : X → List ℕ) (ws : List X) → All (λ w. IsKnown g (f w)) ws → AreKnown g (map f ws)
each_known g f [] all = tt
each_known g f (w ∷ ws) all = (all 0 w (omega arith), each_known g f ws (λ k d lt. all (suc k) d (omega (arith, lt))))

pub known_each : {X : Type 0} (g : Grammar) (f : X → List ℕ) (ws : List X) → AreKnown g (map f ws) → All (λ w. IsKnown g (f w)) ws
known_each g f [] known k d lt = absurd (omega (arith, lt))
known_each g f (w ∷ ws) known zero d lt = known.0
known_each g f (w ∷ ws) known (suc k) d lt = known_each g f ws known.1 k d (omega (arith, lt))

-- what follows the first word is known
pub rest_known : {X : Type 0} (g : Grammar) (f : X → List ℕ) (ws : List X) (x : List ℕ) (rest : List (List ℕ)) → map f ws ≡ x ∷ rest → All (λ w. IsKnown g (f w)) (take (length ws - 1) (drop 1 ws)) → AreKnown g rest
rest_known g f [] x rest e all = cc
rest_known g f (w ∷ ws) x rest e all = subst (AreKnown g) (tail_is (f w) x (map f ws) rest e) (each_known g f ws (subst (All (λ w. IsKnown g (f w))) (take_rest (w ∷ ws) 1) all))

pub known_rest : {X : Type 0} (g : Grammar) (f : X → List ℕ) (ws : List X) (x : List ℕ) (rest : List (List ℕ)) → map f ws ≡ x ∷ rest → AreKnown g rest → All (λ w. IsKnown g (f w)) (take (length ws - 1) (drop 1 ws))
known_rest g f [] x rest e known = cc
known_rest g f (w ∷ ws) x rest e known = subst (All (λ w. IsKnown g (f w))) (sym (take_rest (w ∷ ws) 1)) (known_each g f ws (subst (AreKnown g) (sym (tail_is (f w) x (map f ws) rest e)) known))

-- ---- one word

option_known : (g : Grammar) (w rest o : List ℕ) → w ≡ dashed rest → IsOneOf g.options o → UsesOption rest o → IsKnown g w
option_known g w rest o e m ([], v, is) = an_option o m (e ∙ ap (λ (l : List ℕ). dashed l) (is ∙ append-nil o))
option_known g w rest o e m (c ∷ cs, v, is) = with_value o cs m v.1 (e ∙ ap (λ (l : List ℕ). dashed l) is ∙ ap (λ (n : ℕ). dashed o ++ n ∷ cs) v.0)

pub key_known : (keys : Keys) (w rest : List ℕ) → w ≡ dashed rest → IsKey keys rest → IsKnown (grammar_of keys) w
key_known keys w rest e (inl f) = let r = any_one (λ t. rest ≡ t) keys.flags.now f.0 f.1 f.2 f.3 f.4 in a_flag r.0 r.1 (e ∙ ap (λ (l : List ℕ). dashed l) r.2)
key_known keys w rest e (inr o) = let r = any_one (λ t. UsesOption rest t) keys.options.now o.0 o.1 o.2 o.3 o.4 in option_known (grammar_of keys) w rest r.0 e r.1 r.2

tails : (c d : ℕ) (xs ys : List ℕ) → c ∷ d ∷ xs ≡ c ∷ d ∷ ys → xs ≡ ys
tails c d xs ys e = cc

pub known_key : (keys : Keys) (w rest : List ℕ) → w ≡ dashed rest → IsKnown (grammar_of keys) w → IsKey keys rest
known_key keys w rest e (a_name n) = absurd (subst IsName e n refl)
known_key keys w rest e (a_flag f m is) = inl (one_any (λ t. rest ≡ t) keys.flags.now f m (tails 45 45 rest f (sym e ∙ is)))
known_key keys w rest e (an_option o m is) = inr (one_any (λ t. UsesOption rest t) keys.options.now o m ([], tt, tails 45 45 rest o (sym e ∙ is) ∙ sym (append-nil o)))
known_key keys w rest e (with_value o v m n is) = inr (one_any (λ t. UsesOption rest t) keys.options.now o m (61 ∷ v, (refl, n), tails 45 45 rest (o ++ 61 ∷ v) (sym e ∙ is)))

-- a known word that does not begin with two hyphens is a name
pub known_name : (g : Grammar) (w : List ℕ) → (take 2 w ≡ 45 ∷ 45 ∷ [] → ⊥) → IsKnown g w → IsName w
known_name g w other (a_name n) = n
known_name g w other (a_flag f m is) = absurd (other (ap (λ (l : List ℕ). take 2 l) is))
known_name g w other (an_option o m is) = absurd (other (ap (λ (l : List ℕ). take 2 l) is))
known_name g w other (with_value o v m n is) = absurd (other (ap (λ (l : List ℕ). take 2 l) is))

-- ---- the first word

pub begins : {X : Type 0} (f : X → List ℕ) (ws : List X) (w : X) (text : List ℕ) → Some w ≡ slice_get ws 0 → f w ≡ text → (rest : List (List ℕ)) × (map f ws ≡ text ∷ rest)
begins f [] w text e is = cc
begins f (x ∷ xs) w text e is =
    let same : w ≡ x = cc in
    (map f xs, ap (λ (t : List ℕ). t ∷ map f xs) (ap f (sym same) ∙ is))
