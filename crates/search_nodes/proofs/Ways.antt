-- The decisions on a way and those that a schedule is given of it are the same.
use Rattle.std.proofs.Common.{ℕ, ◌≡◌, List, [], ◌∷◌, Some, Option, cond, eqb, refl, sym, ap, ◌∙◌}
use Rattle.fleet_base.specs.declared.order.Side.{Side}
use Rattle.fleet_base.specs.Order.{Graph}
use Rattle.fleet_base.specs.State.{FleetState, order_at}
use Rattle.fleet_base.specs.Open.{is_open}
use Rattle.longest_path.specs.Decisions.{side_on as given_side, order_on as given_order, IsFree as IsFreeGiven}
use Rattle.longest_path.proofs.LiveLaws.{one_order}
use Rattle.cert_tree.specs.Decisions.{Decision, side_on, order_on, IsFree}
use Rattle.search_nodes.specs.Making.{given_on}

-- they give each pair the same side
pub same_side : (way : List Decision) (q : ℕ) → given_side (given_on way) q ≡ side_on way q
same_side [] q = refl
same_side (d ∷ way) q = ap (λ (o : Option Side). cond (eqb d.pair q) (Some d.side) o) (same_side way q)

module _ (g : Graph) (x : FleetState) (way : List Decision) where
  pub same_at : (q : ℕ) → given_order g x (given_on way) q ≡ order_on g x way q
  same_at q = ap (λ (o : Option Side). cond (is_open g x q) o (order_at g x q)) (same_side way q)

  -- so they are one order
  pub same_order : given_order g x (given_on way) ≡ order_on g x way
  same_order = one_order (given_order g x (given_on way)) (order_on g x way) same_at

  -- and leave the same pairs free
  pub free_on : (q : ℕ) → IsFreeGiven g x (given_on way) q → IsFree g x way q
  free_on q free = (free.0, sym (same_side way q) ∙ free.1)

  pub free_given : (q : ℕ) → IsFree g x way q → IsFreeGiven g x (given_on way) q
  free_given q free = (free.0, same_side way q ∙ free.1)
