-- Sides of which some are turned.
use Rattle.std.proofs.Common.{ℕ, suc, zero, ◌≡◌, ◌≢◌, ◌⊎◌, List, [], ◌∷◌, set, refl, sym, ap, ◌∙◌, inl, inr, length, get_or}
use Rattle.std.specs.Prelude.{Contains, slice_get}
use Rattle.std.proofs.lemmas.Bool.{cases_eq}
use Rattle.std.proofs.lemmas.List.{length-set}
use Rattle.fleet_base.specs.declared.order.PairId.{PairId}
use Rattle.fleet_base.specs.declared.order.Side.{Side}
use Rattle.fleet_base.specs.declared.order.Side.TheVariants.{Lower}
use Rattle.fleet_base.specs.Order.{order_of, other_side, turned}
use Rattle.fleet_base.proofs.Members.{head_in, tail_in}

slice_get-set_other : {X : Type 0} (xs : List X) (p q : ℕ) (y : X) → q ≢ p → slice_get (set xs p y) q ≡ slice_get xs q
slice_get-set_other [] p q y ne = refl
slice_get-set_other (x ∷ xs) zero zero y ne = absurd (ne refl)
slice_get-set_other (x ∷ xs) zero (suc q) y ne = refl
slice_get-set_other (x ∷ xs) (suc p) zero y ne = refl
slice_get-set_other (x ∷ xs) (suc p) (suc q) y ne = slice_get-set_other xs p q y (λ e. ne (ap suc e))

pub length-turned : (sides : List Side) (qs : List PairId) → length (turned sides qs) ≡ length sides
length-turned sides [] = refl
length-turned sides (q ∷ qs) = length-turned (set sides q.0 (other_side (get_or sides q.0 Lower))) qs ∙ length-set sides q.0 (other_side (get_or sides q.0 Lower))

-- a pair has its old side, or is one of those that were turned
pub turned_or_old : (sides : List Side) (qs : List PairId) (q : ℕ) → (order_of (turned sides qs) q ≡ order_of sides q) ⊎ ((p : PairId) × Contains qs p × (p.0 ≡ q))
turned_or_old sides [] q = inl refl
turned_or_old sides (p ∷ ps) q = go (turned_or_old (set sides p.0 (other_side (get_or sides p.0 Lower))) ps q) (cases_eq q p.0)
  where
    go : (order_of (turned (set sides p.0 (other_side (get_or sides p.0 Lower))) ps) q ≡ order_of (set sides p.0 (other_side (get_or sides p.0 Lower))) q) ⊎ ((r : PairId) × Contains ps r × (r.0 ≡ q))
        → (q ≡ p.0) ⊎ (q ≡ p.0 → ⊥) → (order_of (turned (set sides p.0 (other_side (get_or sides p.0 Lower))) ps) q ≡ order_of sides q) ⊎ ((r : PairId) × Contains (p ∷ ps) r × (r.0 ≡ q))
    go (inr r) o = inr (r.0, tail_in p ps r.0 r.1, r.2)
    go (inl e) (inl same) = inr (p, head_in p ps, sym same)
    go (inl e) (inr ne) = inl (e ∙ slice_get-set_other sides p.0 q (other_side (get_or sides p.0 Lower)) ne)
