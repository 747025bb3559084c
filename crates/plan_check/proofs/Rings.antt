-- Robots that enter one another's cells: where a walk along them leads.
use Rattle.std.proofs.Common.{ℕ, suc, ◌≡◌, ◌<◌, ◌⊎◌, List, [], ◌∷◌, ◌++◌, refl, sym, ◌∙◌, subst, inl, inr, length}
use Rattle.std.specs.Prelude.{Contains}
use Rattle.std.proofs.lemmas.Bool.{cases_order}
use Rattle.std.proofs.lemmas.List.Elements.{Contains-append_cases}
use Rattle.fleet_base.specs.declared.geometry.Cell.{Cell}
use Rattle.fleet_base.specs.Lists.{Chain}
use Rattle.fleet_base.specs.Plan.{cell_at, Follows}
use Rattle.fleet_base.proofs.Members.{head_in, tail_in, in_cons, in_none, in_one}
use Rattle.fleet_base.proofs.Sorting.{Distinct}
use Rattle.plan_check.specs.Ticks.{IsApart, Enters, IsOnRotation}

-- a list without repeats stays one with a new last element
pub distinct_push : (xs : List ℕ) (x : ℕ) → Distinct xs → (Contains xs x → ⊥) → Distinct (xs ++ x ∷ [])
distinct_push [] x d new = (λ h. in_none x h, tt)
distinct_push (y ∷ ys) x d new = (λ h. go (Contains-append_cases ys (x ∷ []) y h), distinct_push ys x d.1 (λ h. new (tail_in y ys x h)))
  where
    go : Contains ys y ⊎ Contains (x ∷ []) y → ⊥
    go (inl h) = d.0 h
    go (inr h) = new (subst (λ (w : ℕ). Contains (y ∷ ys) w) (sym (in_one x y h)) (head_in y ys))

module _ (R : ℕ → ℕ → Type 0) where
  -- a chain goes on from its end
  pub chain_push : (a : ℕ) (ys : List ℕ) (z w : ℕ) → Chain R a ys z → R z w → Chain R a (ys ++ z ∷ []) w
  chain_push a [] z w c r = (c, r)
  chain_push a (y ∷ ys) z w c r = (c.0, chain_push y ys z w c.1 r)

  -- each of a chain has a next one in it, or the end
  pub chain_next : (a : ℕ) (ys : List ℕ) (z x : ℕ) → Chain R a ys z → Contains (a ∷ ys) x → (y : ℕ) × R x y × (Contains ys y ⊎ (y ≡ z))
  chain_next a [] z x c h = (z, subst (λ (w : ℕ). R w z) (in_one a x h) c, inr refl)
  chain_next a (y ∷ ys) z x c h = go (in_cons a (y ∷ ys) x h) (λ r. chain_next y ys z x c.1 r)
    where
      go : (a ≡ x) ⊎ Contains (y ∷ ys) x → (Contains (y ∷ ys) x → (v : ℕ) × R x v × (Contains ys v ⊎ (v ≡ z))) → (v : ℕ) × R x v × (Contains (y ∷ ys) v ⊎ (v ≡ z))
      go (inl e) rest = (y, subst (λ (w : ℕ). R w y) e c.0, inl (head_in y ys))
      go (inr r) rest = later (rest r)
        where
          later : (v : ℕ) × R x v × (Contains ys v ⊎ (v ≡ z)) → (v : ℕ) × R x v × (Contains (y ∷ ys) v ⊎ (v ≡ z))
          later (v, r', inl k) = (v, r', inl (tail_in y ys v k))
          later (v, r', inr e) = (v, r', inr e)

  -- the end is the next one of one of the chain
  pub chain_last : (a : ℕ) (ys : List ℕ) (z : ℕ) → Chain R a ys z → (x : ℕ) × Contains (a ∷ ys) x × R x z
  chain_last a [] z c = (a, head_in a [], c)
  chain_last a (y ∷ ys) z c = let l = chain_last y ys z c.1 in (l.0, tail_in a (y ∷ ys) l.0 l.1, l.2)

  -- where each has one former, a chain of different ones does not come back behind its start
  pub no_return : ((x y z : ℕ) → R x z → R y z → x ≡ y) → (a : ℕ) (ys : List ℕ) (z : ℕ) → Chain R a ys z → Contains ys z → Distinct (a ∷ ys) → ⊥
  no_return one a [] z c h d = in_none z h
  no_return one a (y ∷ ys) z c h d = go (in_cons y ys z h) (λ r. no_return one y ys z c.1 r d.1)
    where
      go : (y ≡ z) ⊎ Contains ys z → (Contains ys z → ⊥) → ⊥
      go (inr r) rest = rest r
      go (inl e) rest =
          let l = chain_last y ys z c.1 in
          let same : l.0 ≡ a = one l.0 a z l.2 (subst (λ (w : ℕ). R a w) e c.0) in
          d.0 (subst (λ (w : ℕ). Contains (y ∷ ys) w) same l.1)

  -- what goes on from each to the next and does not hold at the end holds nowhere on the chain
  pub nowhere : (P : ℕ → Type 0) → ((x y : ℕ) → P x → R x y → P y) → (a : ℕ) (ys : List ℕ) (z : ℕ) → Chain R a ys z → (P z → ⊥) → (x : ℕ) → Contains (a ∷ ys) x → P x → ⊥
  nowhere P on a [] z c never x h p = never (on x z p (subst (λ (w : ℕ). R w z) (in_one a x h) c))
  nowhere P on a (y ∷ ys) z c never x h p = go (in_cons a (y ∷ ys) x h) (λ w r q. nowhere P on y ys z c.1 never w r q)
    where
      go : (a ≡ x) ⊎ Contains (y ∷ ys) x → ((w : ℕ) → Contains (y ∷ ys) w → P w → ⊥) → ⊥
      go (inl e) rest = rest y (head_in y ys) (on x y p (subst (λ (w : ℕ). R w y) e c.0))
      go (inr r) rest = rest x r p

  -- where each has one next, two chains of different ones from one to itself are the same
  pub one_ring : ((x y z : ℕ) → R x y → R x z → y ≡ z) → (a h : ℕ) (ys zs : List ℕ) → Chain R a ys h → Chain R a zs h → (Contains ys h → ⊥) → (Contains zs h → ⊥) → ys ≡ zs
  one_ring one a h [] [] c d out left = refl
  one_ring one a h [] (z ∷ zs) c d out left = absurd (left (subst (λ (w : ℕ). Contains (z ∷ zs) w) (one a z h d.0 c) (head_in z zs)))
  one_ring one a h (y ∷ ys) [] c d out left = absurd (out (subst (λ (w : ℕ). Contains (y ∷ ys) w) (one a y h c.0 d) (head_in y ys)))
  one_ring one a h (y ∷ ys) (z ∷ zs) c d out left =
      let e : z ≡ y = one a z y d.0 c.0 in
      let d' : Chain R y zs h = subst (λ (w : ℕ). Chain R w zs h) e d.1 in
      let rest : ys ≡ zs = one_ring one y h ys zs c.1 d' (λ k. out (tail_in y ys h k)) (λ k. left (tail_in z zs h k)) in
      cc

module _ (plan : List (List Cell)) (t : ℕ) where
  -- in one cell there is one robot
  pub same_robot : IsApart plan t → (i j : ℕ) → i < length plan → j < length plan → cell_at plan i t ≡ cell_at plan j t → i ≡ j
  same_robot apart i j hi hj e = go (cases_order i j)
    where
      go : (i ≡ j) ⊎ ((i < j) ⊎ (j < i)) → i ≡ j
      go (inl s) = s
      go (inr (inl lt)) = absurd (apart i j lt hj e)
      go (inr (inr gt)) = absurd (apart j i gt hi (sym e))

  pub one_next : IsApart plan t → (x y z : ℕ) → Enters plan t x y → Enters plan t x z → y ≡ z
  one_next apart x y z p q = same_robot apart y z p.there q.there (sym p.follows.enters ∙ q.follows.enters)

  -- whom a rotation leads from, and to whom
  pub rotation_next : (x : ℕ) → IsOnRotation plan t x → (y : ℕ) × Follows plan t x y × IsOnRotation plan t y
  rotation_next x ([], r, h) = absurd r.round
  rotation_next x (a ∷ ys, r, h) = go (chain_next (Follows plan t) a ys a x r.round h)
    where
      go : (y : ℕ) × Follows plan t x y × (Contains ys y ⊎ (y ≡ a)) → (y : ℕ) × Follows plan t x y × IsOnRotation plan t y
      go (y, f, inl k) = (y, f, (a ∷ ys, r, tail_in a ys y k))
      go (y, f, inr e) = (y, f, (a ∷ ys, r, subst (λ (w : ℕ). Contains (a ∷ ys) w) (sym e) (head_in a ys)))

  pub on_rotation_there : (x : ℕ) → IsOnRotation plan t x → x < length plan
  on_rotation_there x o = (rotation_next x o).1.here

  -- who is entered by a robot on a rotation is on one too
  pub on_next : IsApart plan t → (x y : ℕ) → IsOnRotation plan t x → Enters plan t x y → IsOnRotation plan t y
  on_next apart x y o e =
      let n = rotation_next x o in
      let there : n.0 < length plan = on_rotation_there n.0 n.2 in
      let same : n.0 ≡ y = one_next apart x n.0 y (record { follows = n.1; there = there }) e in
      subst (λ (w : ℕ). IsOnRotation plan t w) same n.2

  -- a robot that enters no other's cell is on no rotation
  pub stays_out : (x : ℕ) → ((y : ℕ) → Enters plan t x y → ⊥) → IsOnRotation plan t x → ⊥
  stays_out x none o = let n = rotation_next x o in none n.0 (record { follows = n.1; there = on_rotation_there n.0 n.2 })

-- a cell is entered by one robot
pub one_former : (plan : List (List Cell)) (t : ℕ) → IsApart plan (suc t) → (x y z : ℕ) → Enters plan t x z → Enters plan t y z → x ≡ y
one_former plan t apart x y z p q = same_robot plan (suc t) apart x y p.follows.here q.follows.here (p.follows.enters ∙ sym q.follows.enters)
