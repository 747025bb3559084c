-- Numbers in a set that ascends.
use Rattle.std.proofs.Common.{ℕ, ◌≡◌, ◌⊎◌, List, [], ◌∷◌, refl, sym, subst, inl, inr}
use Rattle.std.specs.Prelude.{Contains}
use Rattle.std.specs.declared.cmp.Ordering.{Ordering}
use Rattle.std.specs.declared.cmp.Ordering.TheVariants.{Less, Equal, Greater}
use Rattle.std.specs.Ordering.{nat_cmp, match_ordering}
use Rattle.std.specs.BTreeSet.{insert_key}
use Rattle.std.proofs.lemmas.Map.Lookups.{exact_unsigned}
use Rattle.fleet_base.proofs.Members.{head_in, tail_in, in_cons, in_one, in_none}

-- a number that is put into a set is there
pub inserted : (ks : List ℕ) (k : ℕ) → Contains (insert_key nat_cmp ks k) k
inserted [] k = head_in k []
inserted (x ∷ xs) k = go (nat_cmp k x) refl (inserted xs k)
  where
    go : (o : Ordering) → nat_cmp k x ≡ o → Contains (insert_key nat_cmp xs k) k → Contains (match_ordering o (k ∷ x ∷ xs) (x ∷ xs) (x ∷ insert_key nat_cmp xs k)) k
    go Less e rest = head_in k (x ∷ xs)
    go Equal e rest = subst (λ (n : ℕ). Contains (x ∷ xs) n) (sym (exact_unsigned k x e)) (head_in x xs)
    go Greater e rest = tail_in x (insert_key nat_cmp xs k) k rest

-- and so are those from before
pub still_in : (ks : List ℕ) (k q : ℕ) → Contains ks q → Contains (insert_key nat_cmp ks k) q
still_in [] k q h = absurd (in_none q h)
still_in (x ∷ xs) k q h = go (nat_cmp k x) (in_cons x xs q h) (λ c. still_in xs k q c)
  where
    deeper : (x ≡ q) ⊎ Contains xs q → (Contains xs q → Contains (insert_key nat_cmp xs k) q) → Contains (x ∷ insert_key nat_cmp xs k) q
    deeper (inl e) rest = subst (λ (n : ℕ). Contains (x ∷ insert_key nat_cmp xs k) n) e (head_in x (insert_key nat_cmp xs k))
    deeper (inr c) rest = tail_in x (insert_key nat_cmp xs k) q (rest c)

    go : (o : Ordering) → (x ≡ q) ⊎ Contains xs q → (Contains xs q → Contains (insert_key nat_cmp xs k) q) → Contains (match_ordering o (k ∷ x ∷ xs) (x ∷ xs) (x ∷ insert_key nat_cmp xs k)) q
    go Less c rest = tail_in k (x ∷ xs) q h
    go Equal c rest = h
    go Greater c rest = deeper c rest

-- and no other
pub from_insert : (ks : List ℕ) (k q : ℕ) → Contains (insert_key nat_cmp ks k) q → (k ≡ q) ⊎ Contains ks q
from_insert [] k q h = inl (in_one k q h)
from_insert (x ∷ xs) k q h = go (nat_cmp k x) (λ c. from_insert xs k q c) h
  where
    later : (k ≡ q) ⊎ Contains xs q → (k ≡ q) ⊎ Contains (x ∷ xs) q
    later (inl e) = inl e
    later (inr d) = inr (tail_in x xs q d)

    deeper : (x ≡ q) ⊎ Contains (insert_key nat_cmp xs k) q → (Contains (insert_key nat_cmp xs k) q → (k ≡ q) ⊎ Contains xs q) → (k ≡ q) ⊎ Contains (x ∷ xs) q
    deeper (inl e) rest = inr (subst (λ (n : ℕ). Contains (x ∷ xs) n) e (head_in x xs))
    deeper (inr c) rest = later (rest c)

    go : (o : Ordering) → (Contains (insert_key nat_cmp xs k) q → (k ≡ q) ⊎ Contains xs q) → Contains (match_ordering o (k ∷ x ∷ xs) (x ∷ xs) (x ∷ insert_key nat_cmp xs k)) q → (k ≡ q) ⊎ Contains (x ∷ xs) q
    go Less rest c = in_cons k (x ∷ xs) q c
    go Equal rest c = inr c
    go Greater rest c = deeper (in_cons x (insert_key nat_cmp xs k) q c) rest
